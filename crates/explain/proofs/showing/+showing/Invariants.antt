-- How many places may still stand on a branch is less with each place that is explained.
use Rattle.std.proofs.Common.{◌+◌, ◌*◌, List, take, drop}
use Rattle.name_path.specs.declared.place.Place.{Place}
use Rattle.explain.specs.inner.Showing.{MayExplainWay, IsOnWay}
use Rattle.explain.proofs.showing.+showing.Given as goal

abbrev pub decreases-explain : goal.decreases-explain
decreases-explain l = 2 * l.left

abbrev pub decreases-explain_way : goal.decreases-explain_way
decreases-explain_way l = 2 * l.left + 1

abbrev pub invariant-explain_way-loop-step : goal.invariant-explain_way-loop-step
invariant-explain_way-loop-step l =
    (b : List Place) (p : Place) → MayExplainWay l.flat l.left b p l.named l.initial.shown
    → IsOnWay l.flat l.left b p l.named (take l.step-index l.steps) (drop l.step-index l.steps) l.place l.initial.shown l.shown
