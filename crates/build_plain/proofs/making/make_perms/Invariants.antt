-- What is made of the permutations so far, and their work, beside that of those that are still to come.
use Rattle.std.proofs.Common.{drop}
use Rattle.file_plan.specs.View.{plan_view}
use Rattle.build_plain.specs.Work.{work}
use Rattle.build_plain.specs.inner.Making.{AllKnown, AllStand}
use Rattle.build_plain.proofs.Perms.{Done, Most}
use Rattle.build_plain.proofs.making.make_perms.Given as goal

abbrev pub invariant-loop-perm : goal.invariant-loop-perm
invariant-loop-perm g l = record {
  stand : AllStand l.files (plan_view (drop l.perm-index l.plan));
  known : AllKnown l.files l.shapes (plan_view (drop l.perm-index l.plan));
  making : g.T.Made.is_making l.cfg l.files (plan_view l.plan) (plan_view (drop l.perm-index l.plan)) l.made;
  done : Done l.files (plan_view l.plan) (work 0 l.initial.merges l.initial.evals) (plan_view (drop l.perm-index l.plan)) (work 0 l.merges l.evals);
  most : Most l.files (plan_view l.plan) (work 0 l.initial.merges l.initial.evals) (plan_view (drop l.perm-index l.plan)) (work 0 l.merges l.evals);
}
