-- Laws of shapes and sources.
use Rattle.std.specs.Prelude.{◌≡◌, List, map}
use Rattle.std.specs.FinMap as finite
use Rattle.ring.specs.Lists.{In}
use Rattle.tk_io.specs.Order.{text_cmp, names_cmp}
use Rattle.source_trees.specs.declared.shape.FileShape.{FileShape}
use Rattle.token_tree.specs.View.{group_view}
use Rattle.token_tree.specs.Tree.{Group}
use Rattle.group_inherit.specs.Flattening.{Flattened}
use Rattle.group_inherit.specs.Merging.{merged}
use Rattle.group_inherit.specs.Ordered.{IsOrdered}
use Rattle.source_trees.specs.declared.laying.Merged.{Merged}
use Rattle.source_trees.specs.declared.laying.Merged.TheVariants.{Tree, Broken}
use Rattle.source_trees.specs.Contents.{source_content}
use Rattle.source_trees.specs.MergedTokens.{IsFlatOf}
use Rattle.source_trees.specs.Merging.{AllInlineStand, AreKnown, IsMergedOf}
use Rattle.source_trees.specs.View.{break_view}
use Rattle.source_trees.specs.Sources.{HomeAt, BreakAt, SourcesFound}
use Rattle.permutations.specs.Permutation.{TokenSource, Permutation}
use Rattle.tk_io.specs.FilesData.{FilesData}
use Rattle.file_plan.specs.InUse.{files_in_use}
use Rattle.source_trees.specs.Trees.{AreShapesIn}

-- where the shapes are those of the files in use, the sources of each permutation are known
abbrev pub ShapesKnown : Type 0
ShapesKnown = (files : FilesData) (perms : List Permutation) (shapes : finite.FinMap text_cmp FileShape)
    → AreShapesIn (files_in_use files perms) shapes → (p : Permutation) → In p perms → AreKnown files shapes p.sources

-- One answer.

-- sources have one list of breaks and one of trees
abbrev pub OneFound : Type 0
OneFound = (files : FilesData) (home : HomeAt) (sources : List TokenSource)
    (bs cs : List BreakAt) (ts us : List Group)
    → SourcesFound files home sources bs ts → SourcesFound files home sources cs us
    → (bs ≡ cs) × (ts ≡ us)

-- the same tree, or the same break
abbrev pub SameMerged : Merged → Merged → Type 0
SameMerged (Tree g) (Tree h) = group_view g ≡ group_view h
SameMerged (Tree g) (Broken c) = ⊥
SameMerged (Broken b) (Tree h) = ⊥
SameMerged (Broken b) (Broken c) = break_view b ≡ break_view c

-- sources come to one tree, or to one break
abbrev pub OneMerge : Type 0
OneMerge = (files : FilesData) (home : HomeAt) (sources : List TokenSource) (m n : Merged)
    → IsMergedOf files home sources m → IsMergedOf files home sources n → SameMerged m n

-- .. and have one flat tree
abbrev pub OneFlatOf : Type 0
OneFlatOf = (files : FilesData) (home : HomeAt) (sources : List TokenSource)
    (flat other : finite.FinMap names_cmp Flattened)
    → IsFlatOf files home sources flat → IsFlatOf files home sources other → flat ≡ other

-- What sources come to is decided by their contents: of these files, or of others.

abbrev pub ContentsAgree : FilesData → HomeAt → List TokenSource → FilesData → HomeAt → List TokenSource → Type 0
ContentsAgree files home sources others origin more =
    map (source_content files home) sources ≡ map (source_content others origin) more

abbrev pub FoundByContent : Type 0
FoundByContent = (files others : FilesData) (home origin : HomeAt) (sources more : List TokenSource)
    (bs cs : List BreakAt) (ts us : List Group) → ContentsAgree files home sources others origin more
    → AllInlineStand home.text sources → AllInlineStand origin.text more
    → SourcesFound files home sources bs ts → SourcesFound others origin more cs us
    → (bs ≡ cs) × (ts ≡ us)

abbrev pub MergedByContent : Type 0
MergedByContent = (files others : FilesData) (home origin : HomeAt) (sources more : List TokenSource)
    (m n : Merged) → ContentsAgree files home sources others origin more
    → AllInlineStand home.text sources → AllInlineStand origin.text more
    → IsMergedOf files home sources m → IsMergedOf others origin more n → SameMerged m n

abbrev pub FlatByContent : Type 0
FlatByContent = (files others : FilesData) (home origin : HomeAt) (sources more : List TokenSource)
    (flat other : finite.FinMap names_cmp Flattened) → ContentsAgree files home sources others origin more
    → IsFlatOf files home sources flat → IsFlatOf others origin more other → flat ≡ other

-- Each has one.

-- any sources come to something: breaks, or trees
abbrev pub EachFound : Type 0
EachFound = (files : FilesData) (home : HomeAt) (sources : List TokenSource)
    → (breaks : List BreakAt) × (trees : List Group) × SourcesFound files home sources breaks trees

-- the members of each group ascend in the tree that is merged of theirs
abbrev pub MergedIsOrdered : Type 0
MergedIsOrdered = (files : FilesData) (home : HomeAt) (sources : List TokenSource) (breaks : List BreakAt)
    (trees : List Group) → SourcesFound files home sources breaks trees → IsOrdered (merged trees)
