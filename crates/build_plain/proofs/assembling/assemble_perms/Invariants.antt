-- What the permutations that are still to come give, beside the outputs so far.
use Rattle.std.proofs.Common.{drop}
use Rattle.file_plan.specs.View.{plan_view}
use Rattle.build_plain.specs.Parts.{AreEachKept}
use Rattle.build_plain.specs.inner.Making.{AllKnown, AllStand}
use Rattle.build_plain.specs.inner.Outcomes.{Given}
use Rattle.build_plain.proofs.assembling.assemble_perms.Given as goal

abbrev pub invariant-loop-perm : goal.invariant-loop-perm
invariant-loop-perm l = record {
  stand : AllStand l.files (plan_view (drop l.perm-index l.plan));
  known : AllKnown l.files l.shapes (plan_view (drop l.perm-index l.plan));
  kept : AreEachKept l.cfg l.files (plan_view (drop l.perm-index l.plan)) l.parts;
  given : Given l.cfg l.files (plan_view l.plan) (plan_view (drop l.perm-index l.plan)) l.outputs;
}
