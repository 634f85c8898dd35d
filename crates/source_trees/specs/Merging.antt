-- Sources that are laid over one another.
use Rattle.std.specs.Prelude.{◌≡◌, ℕ, List, [], ◌∷◌, Some, None, MatchOption}
use Rattle.std.specs.FinMap as finite
use Rattle.std.specs.List.{AllByRecursion}
use Rattle.tk_io.specs.FilesData.{FilesData}
use Rattle.tk_io.specs.Order.{text_cmp}
use Rattle.token_tree.specs.Promise.{StandsIn}
use Rattle.token_tree.specs.View.{group_view}
use Rattle.token_tree.specs.Tree.{Group}
use Rattle.group_inherit.specs.Merging.{merged_over, empty_group}
use Rattle.file_plan.specs.View.{plan_sources_view}
use Rattle.source_trees.specs.declared.front.Front.{Front}
use Rattle.source_trees.specs.declared.laying.Merged.{Merged}
use Rattle.source_trees.specs.declared.laying.Merged.TheVariants.{Tree, Broken}
use Rattle.source_trees.specs.declared.shape.FileShape.{FileShape}
use Rattle.source_trees.specs.Sources.{HomeAt, BreakAt, SourcesFound}
use Rattle.permutations.specs.Permutation as perm
use Rattle.permutations.specs.Permutation.{TokenSource}
use Rattle.source_trees.specs.Trees.{IsShapeFor}
use Rattle.source_trees.specs.View.{break_view}

-- an object stands in the text
abbrev pub InlineStands : List ℕ → TokenSource → Type 0
InlineStands text (perm.file name start end) = Unit {0}
InlineStands text (perm.inline n) = StandsIn text n

abbrev pub AllInlineStand : List ℕ → List TokenSource → Type 0
AllInlineStand text sources = AllByRecursion (InlineStands text) sources

-- the shape of a file is known, where the file is there
abbrev pub IsKnown : FilesData → finite.FinMap text_cmp FileShape → TokenSource → Type 0
IsKnown files shapes (perm.file name start end) =
    MatchOption (finite.get shapes name) (finite.get files name ≡ None) (λ shape. (text : List ℕ) × (finite.get files name ≡ Some text) × IsShapeFor name text shape)
IsKnown files shapes (perm.inline n) = Unit {0}

abbrev pub AreKnown : FilesData → finite.FinMap text_cmp FileShape → List TokenSource → Type 0
AreKnown files shapes sources = AllByRecursion (IsKnown files shapes) sources

-- trees over what is merged before them, where nothing is broken, and else the first break
abbrev pub IsLaid : List BreakAt → List Group → Group → Merged → Type 0
IsLaid breaks trees before (Tree g) = (breaks ≡ []) × (group_view g ≡ merged_over before trees)
IsLaid breaks trees before (Broken b) = (rest : List BreakAt) × (breaks ≡ break_view b ∷ rest)

-- the sources over what is merged before them
abbrev pub IsLaidOver : FilesData → HomeAt → List TokenSource → Group → Merged → Type 0
IsLaidOver files home sources before m =
    (breaks : List BreakAt) × (trees : List Group) × SourcesFound files home sources breaks trees × IsLaid breaks trees before m

-- what the sources come to: their trees merged, or the first break
abbrev pub IsMergedOf : FilesData → HomeAt → List TokenSource → Merged → Type 0
IsMergedOf files home sources m = IsLaidOver files home sources empty_group m

-- .. in any files of which these are the shapes
abbrev pub IsMergedBy : finite.FinMap text_cmp FileShape → HomeAt → List TokenSource → Merged → Type 0
IsMergedBy shapes home sources m = (files : FilesData) → AreKnown files shapes sources → IsMergedOf files home sources m

-- the tree of a front is that to which its sources come
abbrev pub IsFront : finite.FinMap text_cmp FileShape → HomeAt → Front → Type 0
IsFront shapes home front = IsMergedBy shapes home (plan_sources_view front.sources.now) (Tree front.tree)
