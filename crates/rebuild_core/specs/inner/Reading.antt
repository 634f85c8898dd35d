-- Reading the files in use: the resolver document first, and then the others.
use Rattle.std.specs.Prelude.{◌≡◌, ◌≢◌, ◌⊎◌, ℕ, List, Option, Some, None}
use Rattle.std.specs.FinMap as finite
use Rattle.file_plan.specs.InUse.{resolver_path, files_in_use}
use Rattle.file_plan.specs.Trees.{AreTreesIn, IsTreeOf}
use Rattle.file_plan.specs.declared.tree.Tree.{Tree}
use Rattle.permutations.specs.Permutation.{Permutation}
use Rattle.tk_io.specs.Entries.{PutsEntry}
use Rattle.tk_io.specs.FilesData.{FilesData}
use Rattle.tk_io.specs.Order.{text_cmp}
use Rattle.source_trees.specs.Trees.{AreShapesIn}
use Rattle.rebuild_core.specs.Sums.{IsOneUnless, IsSum}
use Rattle.rebuild_core.specs.declared.reading.InUse.{InUse}

-- a file by its path and its text
abbrev pub TextAt : Type 0
TextAt = List ℕ × List ℕ

-- it is read, unless it was in use with an equal text
abbrev pub ReadsOne : FilesData → TextAt → ℕ → Type 0
ReadsOne old file n = IsOneUnless (finite.get old file.0 ≡ Some file.1) n

-- .. where it is there
abbrev pub ReadsFirst : FilesData → Option (List ℕ) → ℕ → Type 0
ReadsFirst old None n = n ≡ 0
ReadsFirst old (Some text) n = ReadsOne old (resolver_path, text) n

-- any but the resolver document, which was read before
abbrev pub ReadsOther : FilesData → TextAt → ℕ → Type 0
ReadsOther old file n = ((file.0 ≡ resolver_path) × (n ≡ 0)) ⊎ ((file.0 ≢ resolver_path) × ReadsOne old file n)

abbrev pub ReadOthers : FilesData → FilesData → ℕ → Type 0
ReadOthers old used n = IsSum (ReadsOther old) (finite.entries used) n

-- the tree of the text is added at the path, unless that is the resolver document's
abbrev pub AddsOther : List ℕ → List ℕ → finite.FinMap text_cmp Tree → finite.FinMap text_cmp Tree → Type 0
AddsOther path text old new =
    ((path ≡ resolver_path) × (new ≡ old))
    ⊎ ((path ≢ resolver_path) × ((tree : Tree) × IsTreeOf text tree × PutsEntry old new path tree))

-- the files in use for these permutations, their trees and their shapes
pub record AreInUse (files : FilesData) (perms : List Permutation) (r : InUse) : Type 0 where
  pub used : r.used ≡ files_in_use files perms
  pub trees : AreTreesIn r.used r.trees
  pub shapes : AreShapesIn r.used r.shapes
