-- The permutations so far came to what is held, by so much work.
use Rattle.std.proofs.Common.{◌≡◌, Option, drop, take}
use Rattle.tk_io.specs.FilesData.{FilesData}
use Rattle.file_plan.specs.View.{plan_view}
use Rattle.source_trees.specs.Merging.{IsFront}
use Rattle.build_plain.specs.Breaks.{home_of}
use Rattle.build_plain.specs.Work.{added, work}
use Rattle.build_plain.specs.inner.Making.{AllKnown, AllStand}
use Rattle.rebuild_core.specs.inner.Past.{CameTo, IsPast}
use Rattle.rebuild_core.specs.inner.Renewing.{all_view}
use Rattle.rebuild_core.proofs.PermsDone.{AllDone, Most}
use Rattle.rebuild_core.proofs.plan_perms.renewed_perms.Given as goal

abbrev pub invariant-loop-perm : goal.invariant-loop-perm
invariant-loop-perm g l = record {
  stand : AllStand l.files (plan_view (drop l.perm-index l.plan));
  known : AllKnown l.files l.shapes (plan_view (drop l.perm-index l.plan));
  front : IsFront l.shapes (home_of l.files) l.front;
  came : CameTo l.cfg l.files (plan_view (take l.perm-index l.plan)) l.all.outcomes.items;
  done : (before : Option FilesData) → IsPast before l.past → AllDone before l.cfg l.files (plan_view l.plan) (plan_view (drop l.perm-index l.plan)) (all_view l.all);
  counted : work 0 l.merges l.evals ≡ added (work 0 l.fn.merges l.fn.evals) (all_view l.all);
  most : (before : Option FilesData) → IsPast before l.past
      → Most before l.cfg l.files (plan_view l.plan) (work 0 l.fn.merges l.fn.evals) (plan_view (drop l.perm-index l.plan)) (work 0 l.merges l.evals);
}
