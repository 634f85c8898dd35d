-- None of the permutations so far has the name.
use Rattle.std.proofs.Common.{◌≡◌, drop}
use Rattle.file_plan.specs.View.{plan_view}
use Rattle.rebuild_core.specs.Work.{named}
use Rattle.rebuild_core.proofs.plan_perms.place_named.Given as goal

abbrev pub invariant-loop-i : goal.invariant-loop-i
invariant-loop-i l = named l.name (plan_view l.plan) ≡ named l.name (plan_view (drop l.i l.plan))
