-- The permutations so far are kept.
use Rattle.std.proofs.Common.{◌≡◌, take}
use Rattle.permutations.specs.View.{perms_view}
use Rattle.file_plan.specs.View.{plan_view}
use Rattle.file_plan.proofs.keeping.kept_plan.Given as goal

abbrev pub invariant-loop-perm : goal.invariant-loop-perm
invariant-loop-perm l = plan_view l.kept ≡ perms_view (take l.perm-index l.perms)
