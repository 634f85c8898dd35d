-- What the permutations that are still to come add, all add.
use Rattle.std.proofs.Common.{ℕ, drop}
use Rattle.std.specs.FinMap as finite
use Rattle.tk_io.specs.Order.{text_cmp}
use Rattle.file_plan.specs.InUse.{file_names}
use Rattle.file_plan.specs.View.{plan_view}
use Rattle.file_plan.specs.declared.tree.Tree.{Tree}
use Rattle.source_trees.specs.Reading.{AddsFront, AddsTrees, CountsAdded, CountsAtMost}
use Rattle.source_trees.proofs.reading.read_named.Given as goal

abbrev pub invariant-loop-perm : goal.invariant-loop-perm
invariant-loop-perm g l = record {
  trees : (new : finite.FinMap text_cmp Tree) → AddsTrees l.files (file_names (plan_view (drop l.perm-index l.plan))) l.trees new → AddsTrees l.files (file_names (plan_view l.plan)) l.fn.trees new;
  front : (new : finite.FinMap text_cmp Tree) → AddsFront l.files (file_names (plan_view (drop l.perm-index l.plan))) l.trees new → AddsFront l.files (file_names (plan_view l.plan)) l.fn.trees new;
  steps : (n : ℕ) → CountsAdded l.files (file_names (plan_view (drop l.perm-index l.plan))) l.trees l.parses n → CountsAdded l.files (file_names (plan_view l.plan)) l.fn.trees l.fn.parses n;
  most : (n : ℕ) → CountsAtMost l.files (file_names (plan_view (drop l.perm-index l.plan))) l.trees l.parses n → CountsAtMost l.files (file_names (plan_view l.plan)) l.fn.trees l.fn.parses n;
}
