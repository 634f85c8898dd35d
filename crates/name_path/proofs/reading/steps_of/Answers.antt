use Rattle.std.proofs.Common.{◌≡◌, ◌∷◌, [], sym, ◌∙◌, subst, false, true}
use Rattle.std.proofs.lemmas.Result.{IfOk-weaker}
use Rattle.std.proofs.lemmas.Slice.Eq.{bytes_eq-Decides}
use Rattle.name_path.specs.inner.Pieces.{EachLacks}
use Rattle.name_path.proofs.Joins.{pieces_lack, tail_lacks}
use Rattle.name_path.proofs.Steps.{steps_found, no_steps, no_mark}
use Rattle.name_path.proofs.reading.steps_of.Goals as goal

pub decoded-requires : goal.decoded-requires
decoded-requires c =
    tail_lacks 47 c.in-Some.first.now c.in-Some.segments.now (subst (EachLacks 47) (sym c.in_ok-pieces.ensures ∙ (sym c.as_slice.ensures.value ∙ c.in-Some.ensures.cases.0)) (pieces_lack 47 c.args.text.now))

pub returns-then-eq-clause-steps : goal.returns-then-eq-clause-steps
returns-then-eq-clause-steps c =
    IfOk-weaker c.decoded.result _ _ (λ steps m. steps_found c.args.text.now c.in-Some.first.now c.in-Some.segments.now steps
    (sym c.in_ok-pieces.ensures ∙ (sym c.as_slice.ensures.value ∙ c.in-Some.ensures.cases.0))
    (sym c.as_str.ensures ∙ (bytes_eq-Decides c.as_str.result.now (35 ∷ [])).0 (sym c.if-eq.ensures)) m) c.decoded.ensures.steps

pub returns-then-eq-clause-bad : goal.returns-then-eq-clause-bad
returns-then-eq-clause-bad c =
    λ h. no_steps c.args.text.now c.in-Some.first.now c.in-Some.segments.now
    (sym c.in_ok-pieces.ensures ∙ (sym c.as_slice.ensures.value ∙ c.in-Some.ensures.cases.0)) (c.decoded.ensures.bad h)

pub returns-clause-bad : goal.returns-clause-bad
returns-clause-bad c = λ _. no_mark c.args.text.now c.in-Some.first.now c.in-Some.segments.now
    (sym c.in_ok-pieces.ensures ∙ (sym c.as_slice.ensures.value ∙ c.in-Some.ensures.cases.0))
    (λ e. (let k : false ≡ true = c.if-eq.ensures ∙ (bytes_eq-Decides c.as_str.result.now (35 ∷ [])).1 (c.as_str.ensures ∙ e) in cc))
