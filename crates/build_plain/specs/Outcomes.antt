-- What a permutation comes to.
use Rattle.std.specs.Prelude.{List, Option, Some, None}
use Rattle.std.specs.FinMap as finite
use Rattle.token_tree.specs.Tree.{Group}
use Rattle.tk_io.specs.FilesData.{FilesData}
use Rattle.permutations.specs.Permutation.{Permutation}
use Rattle.source_trees.specs.Merges.{IsMergeOf}
use Rattle.source_trees.specs.Merging.{IsMergedOf}
use Rattle.source_trees.specs.declared.laying.Merged.TheVariants.{Broken}
use Rattle.source_trees.specs.declared.merge.Merge.{Merge}
use Rattle.source_trees.specs.declared.merge.Merge.TheVariants as merge
use Rattle.transforms.specs.Config.{Settings}
use Rattle.token_cells.specs.Cell.{AreCells}
use Rattle.token_cells.specs.TokenCell.{TokenCell}
use Rattle.build_plain.specs.Breaks.{home_of}
use Rattle.build_plain.specs.Parts.{AreCellsFor, AreKeptOf}
use Rattle.build_plain.specs.declared.outcome.Outcome.{Outcome}
use Rattle.build_plain.specs.declared.outcome.Outcome.TheVariants.{Tokens, TreeBreak, SourceBreak}

-- what is kept of it: the merge and the cells

abbrev pub merge_in : Outcome → Option Merge
merge_in (Tokens tree) = Some (merge.Flat tree.tokens)
merge_in (TreeBreak fault) = Some (merge.Broken fault)
merge_in (SourceBreak b) = None

abbrev pub cells_in : Outcome → Option (List TokenCell)
cells_in (Tokens tree) = Some tree.cells
cells_in (TreeBreak fault) = None
cells_in (SourceBreak b) = None

-- what a merged tree comes to
abbrev pub IsTreeOutcome : Settings → Group → Outcome → Type 0
IsTreeOutcome settings merged (Tokens tree) = IsMergeOf merged (merge.Flat tree.tokens) × AreCellsFor settings (merge.Flat tree.tokens) (Some tree.cells)
IsTreeOutcome settings merged (TreeBreak fault) = IsMergeOf merged (merge.Broken fault)
IsTreeOutcome settings merged (SourceBreak b) = ⊥

-- what a permutation comes to
abbrev pub IsOutcome : Settings → FilesData → Permutation → Outcome → Type 0
IsOutcome settings files p (Tokens tree) = AreKeptOf settings files p (Some (merge.Flat tree.tokens)) (Some tree.cells)
IsOutcome settings files p (TreeBreak fault) = AreKeptOf settings files p (Some (merge.Broken fault)) None
IsOutcome settings files p (SourceBreak b) = IsMergedOf files (home_of files) p.sources (Broken b)

-- the cells of its tokens are those that they come to
abbrev pub HoldsCells : Settings → Outcome → Type 0
HoldsCells settings (Tokens tree) = AreCells tree.tokens settings (finite.entries tree.tokens) tree.cells
HoldsCells settings (TreeBreak fault) = Unit {0}
HoldsCells settings (SourceBreak b) = Unit {0}
