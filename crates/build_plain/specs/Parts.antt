-- What is kept of a build: the trees of the files in use, what the sources of each permutation come to, and what its
-- tokens come to.
use Rattle.std.specs.Prelude.{◌≡◌, ℕ, List, [], ◌∷◌, map, Option, Some, None, Result, Ok, Err}
use Rattle.std.specs.FinMap as finite
use Rattle.std.specs.List.{AllByRecursion}
use Rattle.ring.specs.Lists.{In}
use Rattle.token_tree.specs.Tree.{Group}
use Rattle.group_inherit.specs.Merging.{merged_over, empty_group}
use Rattle.permutations.specs.Permutation.{Permutation}
use Rattle.file_plan.specs.InUse.{resolver_path, resolver_in, files_in_use}
use Rattle.file_plan.specs.Plan.{Planned, planned, refused, Plans}
use Rattle.source_trees.specs.Merges.{IsMergeOf}
use Rattle.source_trees.specs.Sources.{BreakAt, SourcesFound}
use Rattle.file_plan.specs.Trees.{AreTreesIn}
use Rattle.source_trees.specs.declared.merge.Merge.{Merge}
use Rattle.source_trees.specs.declared.merge.Merge.TheVariants as merge
use Rattle.transforms.specs.Config.{Settings}
use Rattle.transforms.specs.declared.config.ConfigFault.{ConfigFault}
use Rattle.tk_io.specs.FilesData.{FilesData}
use Rattle.token_cells.specs.Cell.{AreCells}
use Rattle.token_cells.specs.TokenCell.{TokenCell}
use Rattle.build_plain.specs.Breaks.{home_of}
use Rattle.build_plain.specs.Out.{settings_of}
use Rattle.build_plain.specs.declared.parts.Parts.{Parts}

-- Of a permutation.

-- a flat tree has cells, those of its tokens; a tree that breaks a rule has none
abbrev pub AreCellsFor : Settings → Merge → Option (List TokenCell) → Type 0
AreCellsFor settings (merge.Flat flat) None = ⊥
AreCellsFor settings (merge.Flat flat) (Some cells) = AreCells flat settings (finite.entries flat) cells
AreCellsFor settings (merge.Broken fault) cells = cells ≡ None

-- sources without a break come to what their merged tree comes to; nothing is kept of others
abbrev pub AreKept : Settings → List BreakAt → List Group → Option Merge → Option (List TokenCell) → Type 0
AreKept settings [] trees None cells = ⊥
AreKept settings [] trees (Some m) cells = IsMergeOf (merged_over empty_group trees) m × AreCellsFor settings m cells
AreKept settings (b ∷ bs) trees kept cells = (kept ≡ None) × (cells ≡ None)

abbrev pub AreKeptOf : Settings → FilesData → Permutation → Option Merge → Option (List TokenCell) → Type 0
AreKeptOf settings files p kept cells =
    (bs : List BreakAt) × (trees : List Group) × SourcesFound files (home_of files) p.sources bs trees
    × AreKept settings bs trees kept cells

-- .. under its name
abbrev pub AreKeptIn : Settings → FilesData → Parts → Permutation → Type 0
AreKeptIn settings files parts p =
    AreKeptOf settings files p (finite.get parts.merges p.name) (finite.get parts.cells p.name)

abbrev pub AreEachKept : Settings → FilesData → List Permutation → Parts → Type 0
AreEachKept settings files perms parts = AllByRecursion (AreKeptIn settings files parts) perms

-- Of a plan: the trees are exactly those of the files in use, and the rest stands under the names of permutations alone.
pub record AreParts (settings : Settings) (files : FilesData) (perms : List Permutation) (parts : Parts) : Type 0 where
  pub trees : AreTreesIn (files_in_use files perms) parts.trees
  pub each : AreEachKept settings files perms parts
  pub no_other : (name : List ℕ) → (In name (map (λ p. p.name) perms) → ⊥)
      → (finite.get parts.merges name ≡ None) × (finite.get parts.cells name ≡ None)

-- nothing but these trees
pub record AreTrees (files : FilesData) (parts : Parts) : Type 0 where
  pub trees : AreTreesIn files parts.trees
  pub no_merges : parts.merges ≡ finite.empty
  pub no_cells : parts.cells ≡ finite.empty

abbrev pub ArePlanParts : Settings → FilesData → Planned → Parts → Type 0
ArePlanParts settings files (planned perms) parts = AreParts settings files perms parts
ArePlanParts settings files (refused broken) parts = AreTrees (resolver_in files) parts

abbrev pub ArePartsUnder : FilesData → Result Settings ConfigFault → Parts → Type 0
ArePartsUnder files (Ok settings) parts =
    (p : Planned) × Plans (finite.get files resolver_path) p × ArePlanParts settings files p parts
ArePartsUnder files (Err broken) parts = AreTrees finite.empty parts

-- The parts are those of the files.
abbrev pub ArePartsOf : FilesData → Parts → Type 0
ArePartsOf files parts = ArePartsUnder files (settings_of files) parts
