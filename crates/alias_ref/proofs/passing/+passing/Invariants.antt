use Rattle.std.proofs.Common.{suc, ◌≡◌, ◌+◌, ◌-◌, ◌*◌, List, length, drop}
use Rattle.alias_ref.specs.Written.{written_in}
use Rattle.alias_ref.specs.Visits.{Visit, after_visits, steps_from, settle_by, passed, most_on_branch}
use Rattle.alias_ref.specs.inner.Seen.{Clean}
use Rattle.alias_ref.specs.inner.Spots.{IsSpot, IsSameBranch}
use Rattle.alias_ref.proofs.passing.+passing.Given as goal

abbrev pub decreases-settle : goal.decreases-settle
decreases-settle l = 8 * (suc most_on_branch - length l.trace.now.places.items) + 1

abbrev pub decreases-pass : goal.decreases-pass
decreases-pass l = 8 * (suc most_on_branch - length l.trace.now.places.items)

abbrev pub decreases-pass_on : goal.decreases-pass_on
decreases-pass_on l = 8 * (suc most_on_branch - length l.trace.now.places.items) + 5

abbrev pub decreases-follow : goal.decreases-follow
decreases-follow l = 8 * (suc most_on_branch - length l.trace.now.places.items) + 4

abbrev pub decreases-follow_steps : goal.decreases-follow_steps
decreases-follow_steps l = 8 * (suc most_on_branch - length l.trace.now.places.items) + 3

abbrev pub decreases-follow_step : goal.decreases-follow_step
decreases-follow_step l = 8 * (suc most_on_branch - length l.trace.now.places.items) + 2

abbrev pub invariant-follow_steps-loop-step : goal.invariant-follow_steps-loop-step
invariant-follow_steps-loop-step l =
    let T = written_in l.flat in
    let settle = settle_by T (passed T l.initial.trace.places.items) in
    (es : List Visit)
    × Clean T l.initial.trace.visits l.trace.visits es
    × (after_visits es (steps_from T settle l.home l.spot.place (drop l.step-index l.steps)) ≡ steps_from T settle l.home l.initial.spot.place l.steps)
    × IsSpot l.flat l.spot
    × IsSameBranch l.initial.trace l.trace
