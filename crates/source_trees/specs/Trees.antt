-- The trees and the shapes of files, each under the file's path.
use Rattle.std.specs.Prelude.{◌≡◌, ℕ, List, [], ◌∷◌, Option, Some, None}
use Rattle.std.specs.FinMap as finite
use Rattle.tk_io.specs.FilesData.{FilesData}
use Rattle.tk_io.specs.Order.{text_cmp}
use Rattle.token_tree.specs.View.{group_view}
use Rattle.token_tree.specs.Tree.{Group}
use Rattle.file_plan.specs.InUse.{AreAmong}
use Rattle.file_plan.specs.Trees.{AreTreesIn}
use Rattle.file_plan.specs.declared.tree.Tree.{Tree}
use Rattle.source_trees.specs.declared.shape.FileShape.{FileShape}
use Rattle.source_trees.specs.declared.shape.FileShape.TheVariants.{Shows, Breaks}
use Rattle.source_trees.specs.Sources.{BreakAt, FoundIn}
use Rattle.source_trees.specs.View.{break_view}

-- the tree where there is no break, and else the first break
abbrev pub IsShapeBy : List BreakAt → List Group → FileShape → Type 0
IsShapeBy breaks trees (Shows g) = (breaks ≡ []) × (trees ≡ group_view g.value ∷ [])
IsShapeBy breaks trees (Breaks b) = (rest : List BreakAt) × (breaks ≡ break_view b ∷ rest)

-- of the text of a file
abbrev pub IsShapeFor : List ℕ → List ℕ → FileShape → Type 0
IsShapeFor file text shape = (breaks : List BreakAt) × (trees : List Group) × FoundIn file text breaks trees × IsShapeBy breaks trees shape

-- the trees are those of some of the files
abbrev pub AreTreesOfSome : FilesData → finite.FinMap text_cmp Tree → Type 0
AreTreesOfSome files trees = (some : FilesData) × AreAmong some files × AreTreesIn some trees

-- the shape is that of the file, or there is neither
abbrev pub IsShaped : List ℕ → Option (List ℕ) → Option FileShape → Type 0
IsShaped path None None = Unit {0}
IsShaped path None (Some shape) = ⊥
IsShaped path (Some text) None = ⊥
IsShaped path (Some text) (Some shape) = IsShapeFor path text shape

-- the shapes are those of these files
abbrev pub AreShapesIn : FilesData → finite.FinMap text_cmp FileShape → Type 0
AreShapesIn files shapes = (path : List ℕ) → IsShaped path (finite.get files path) (finite.get shapes path)

-- each shape is that of a file of these
abbrev pub AreShapesAmong : FilesData → finite.FinMap text_cmp FileShape → Type 0
AreShapesAmong files shapes = (path : List ℕ) (shape : FileShape) → finite.get shapes path ≡ Some shape
    → (text : List ℕ) × (finite.get files path ≡ Some text) × IsShapeFor path text shape
