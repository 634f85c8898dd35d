-- What the sources that are still to come add, all add.
use Rattle.std.proofs.Common.{ℕ, drop}
use Rattle.std.specs.FinMap as finite
use Rattle.tk_io.specs.Order.{text_cmp}
use Rattle.file_plan.specs.InUse.{names_in}
use Rattle.file_plan.specs.View.{plan_sources_view}
use Rattle.file_plan.specs.declared.tree.Tree.{Tree}
use Rattle.source_trees.specs.Reading.{AddsFront, AddsTrees, CountsAdded, CountsAtMost}
use Rattle.source_trees.proofs.reading.read_sources.Given as goal

abbrev pub invariant-loop-source : goal.invariant-loop-source
invariant-loop-source g l = record {
  trees : (new : finite.FinMap text_cmp Tree) → AddsTrees l.files (names_in (plan_sources_view (drop l.source-index l.sources))) l.trees new → AddsTrees l.files (names_in (plan_sources_view l.sources)) l.fn.trees new;
  front : (new : finite.FinMap text_cmp Tree) → AddsFront l.files (names_in (plan_sources_view (drop l.source-index l.sources))) l.trees new → AddsFront l.files (names_in (plan_sources_view l.sources)) l.fn.trees new;
  steps : (n : ℕ) → CountsAdded l.files (names_in (plan_sources_view (drop l.source-index l.sources))) l.trees l.parses n → CountsAdded l.files (names_in (plan_sources_view l.sources)) l.fn.trees l.fn.parses n;
  most : (n : ℕ) → CountsAtMost l.files (names_in (plan_sources_view (drop l.source-index l.sources))) l.trees l.parses n → CountsAtMost l.files (names_in (plan_sources_view l.sources)) l.fn.trees l.fn.parses n;
}
