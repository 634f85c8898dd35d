use Rattle.std.proofs.Common.{List, ℕ, inl, refl, subst, sym}
use Rattle.std.proofs.lemmas.Result.{on_ok_weaker}
use Rattle.file_plan.specs.View.{plan_perm_view}
use Rattle.build_plain.specs.inner.Keeping.{KeepsNothing, Keeps}
use Rattle.build_plain.specs.Outcomes.{cells_in, merge_in}
use Rattle.build_plain.proofs.KeptParts.{keeping_more}
use Rattle.build_plain.proofs.keeping.PartsMade.add.Goals as goal

pub returns : goal.returns
returns c = λ all others keeping.
    let p = plan_perm_view c.args.perm.now in
    let o = c.args.outcome in
    let before = c.args.self.now in
    let after = c.keep_outcome.new.parts in
    on_ok_weaker c.keep_outcome.result
    (λ kept. keeping_more c.args._cfg.now c.args._files.now all p others o before after c.requires.outcome keeping
    (subst (λ (n : List ℕ). Keeps n (merge_in o) (cells_in o) before after) c.as_str.ensures kept))
    (c.keep_outcome.ensures (subst (KeepsNothing before) (sym c.as_str.ensures) (keeping.bare p.name (inl refl))))
