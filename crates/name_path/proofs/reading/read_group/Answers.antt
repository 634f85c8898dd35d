use Rattle.std.proofs.Common.{◌≡◌, ◌≢◌, ℕ, List, inl, inr, sym, ◌∙◌, subst, IfNone}
use Rattle.name_path.specs.Names.{AreNames}
use Rattle.name_path.specs.Reference.{pointer_text, curly_text}
use Rattle.name_path.proofs.Joins.{one_pointer}
use Rattle.name_path.proofs.reading.read_group.Goals as goal

pub returns-clause-bad : goal.returns-clause-bad
returns-clause-bad c = λ h path s.
    let none = subst (λ o. IfNone o ((other : List (List ℕ)) → c.args.text.now ≢ curly_text other)) c.in_default.is c.in_ok-path.ensures.none in
    let read : c.args.text.now ≡ pointer_text c.in_ok-steps.steps = c.in_ok-steps.ensures.steps in
    elim s.1 [
      | inl e ↦ c.names_alone-2.ensures.bad h (subst AreNames (one_pointer path c.in_ok-steps.steps (sym e ∙ read) ∙ sym (c.in_ok-path-2.ensures ∙ c.as_slice.ensures)) s.0)
      | inr e ↦ none path e.1
    ]
