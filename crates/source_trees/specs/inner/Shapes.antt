-- The shapes of the files whose trees are listed.
use Rattle.std.specs.Prelude.{◌≡◌, ℕ, List, cond, Option, Some, None}
use Rattle.std.specs.BTreeMap.{is_at}
use Rattle.std.specs.FinMap as finite
use Rattle.ring.specs.Lists.{In}
use Rattle.tk_io.specs.FilesData.{FilesData}
use Rattle.tk_io.specs.Order.{text_cmp}
use Rattle.file_plan.specs.declared.tree.Tree.{Tree}
use Rattle.source_trees.specs.declared.shape.FileShape.{FileShape}
use Rattle.source_trees.specs.Trees.{IsShapeFor}

-- under the path of each of these trees stands the shape of its file, and under no other path anything
pub record AreShapesOf (files : FilesData) (trees : List (List ℕ × Tree)) (shapes : finite.FinMap text_cmp FileShape) : Type 0 where
  pub found : (q : List ℕ) (shape : FileShape) → finite.get shapes q ≡ Some shape
      → (text : List ℕ) × (tree : Tree) × In (q, tree) trees × (finite.get files q ≡ Some text) × IsShapeFor q text shape
  pub missing : (q text : List ℕ) (tree : Tree) → finite.get shapes q ≡ None → In (q, tree) trees → finite.get files q ≡ Some text → ⊥

-- the shape of the text is put under the path, and under all other paths stands what stood there
pub record AddsShape (path text : List ℕ) (old new : finite.FinMap text_cmp FileShape) : Type 0 where
  pub shape : FileShape
  pub is : IsShapeFor path text shape
  pub at : (q : List ℕ) → finite.get new q ≡ cond (is_at (text_cmp path) q) (Some shape) (finite.get old q)

-- .. where there is a text
abbrev pub AddsShapeOf : List ℕ → Option (List ℕ) → finite.FinMap text_cmp FileShape → finite.FinMap text_cmp FileShape → Type 0
AddsShapeOf path None old new = new ≡ old
AddsShapeOf path (Some text) old new = AddsShape path text old new
