use Rattle.std.proofs.Common.{None, ap, ◌∙◌, arith}
use Rattle.std.proofs.lemmas.List.{take_all}
use Rattle.std.specs.List.{count_by}
use Rattle.std.specs.Option.{is_none}
use Rattle.rebuild_core.proofs.KeptPlaces.{left_added}
use Rattle.rebuild_core.proofs.evaluating.places_left.Goals as goal

pub loop-place-preserved : goal.loop-place-preserved
loop-place-preserved c = (
  left_added c.args.places.now None c.loop-place.place-index c.loop-place.left c.one_if_none-left.result c.loop-place-test.true c.loop-place.invariant.0 c.one_if_none-left.ensures.value,
  omega (arith, c.loop-place.invariant.1, c.one_if_none-left.ensures.few),
)

pub returns : goal.returns
returns c = c.loop-place.invariant.0 ∙ ap (λ ps. count_by is_none ps) (take_all c.loop-place.place-index c.args.places.now c.loop-place-test.false)
