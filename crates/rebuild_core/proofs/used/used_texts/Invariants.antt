-- What the permutations that are still to come add to what is used is in use.
use Rattle.std.proofs.Common.{◌≡◌, drop}
use Rattle.file_plan.specs.InUse.{in_use_by, file_names, files_in_use}
use Rattle.file_plan.specs.View.{plan_view}
use Rattle.rebuild_core.proofs.used.used_texts.Given as goal

abbrev pub invariant-loop-perm : goal.invariant-loop-perm
invariant-loop-perm l =
    in_use_by l.files l.used (file_names (plan_view (drop l.perm-index l.plan))) ≡ files_in_use l.files (plan_view l.plan)
