-- The first sources so far are the same.
use Rattle.std.proofs.Common.{◌≡◌, ◌≤◌, ◌-◌, length, take}
use Rattle.file_plan.specs.View.{plan_sources_view}
use Rattle.source_trees.proofs.front.alike.Given as goal

abbrev pub decreases-loop-count : goal.decreases-loop-count
decreases-loop-count l = length l.sources - l.count

abbrev pub invariant-loop-count : goal.invariant-loop-count
invariant-loop-count l = record {
  within : l.count ≤ length l.sources;
  within_others : l.count ≤ length l.others;
  same : plan_sources_view (take l.count l.sources) ≡ plan_sources_view (take l.count l.others);
}
