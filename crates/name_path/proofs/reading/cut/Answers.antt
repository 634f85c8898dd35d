use Rattle.std.proofs.Common.{inl, inr, refl, sym, ◌∙◌, subst}
use Rattle.std.proofs.lemmas.List.{take_all}
use Rattle.std.proofs.lemmas.Slice.Eq.{bytes_eq-Decides}
use Rattle.name_path.specs.Reference.{value_step}
use Rattle.name_path.specs.inner.Pieces.{LacksStep}
use Rattle.name_path.proofs.Steps.{around_at}
use Rattle.name_path.proofs.reading.cut.Goals as goal

pub returns-then-eq : goal.returns-then-eq
returns-then-eq c = (
  c.loop-at.invariant,
  inl (around_at c.args.steps.now c.loop-at.at value_step c.index-steps-at.result c.loop-at-test.true c.index-steps-at.is
      (sym c.as_str.ensures ∙ (bytes_eq-Decides c.as_str.result.now value_step).0 (sym c.if-eq.ensures))),
)

pub returns : goal.returns
returns c = (subst (LacksStep value_step) (take_all c.loop-at.at c.args.steps.now c.loop-at-test.false) c.loop-at.invariant, inr (refl, refl))
