-- What the permutations that are still to come give, beside the outputs so far.
use Rattle.std.proofs.Common.{drop}
use Rattle.file_plan.specs.View.{plan_view}
use Rattle.build_plain.specs.inner.Outcomes.{Given}
use Rattle.rebuild_core.proofs.plan_perms.outputs_of.Given as goal

abbrev pub invariant-loop-i : goal.invariant-loop-i
invariant-loop-i l = Given l.cfg l.files (plan_view l.plan) (plan_view (drop l.i l.plan)) l.outputs
