-- What one shape comes to, and one source over what is merged before it.
use Rattle.std.specs.Prelude.{◌≡◌, ◌≤◌, ℕ, List, [], ◌∷◌, length, map, take}
use Rattle.std.specs.FinMap as finite
use Rattle.json_span.specs.Tree.{Placed}
use Rattle.json_span.specs.declared.reader.JsonFault.{JsonFault}
use Rattle.tk_io.specs.FilesData.{FilesData}
use Rattle.tk_io.specs.Order.{text_cmp}
use Rattle.token_tree.specs.Shape.{shape_breaks, shape_of}
use Rattle.token_tree.specs.Tree.{Group}
use Rattle.permutations.specs.Permutation.{TokenSource}
use Rattle.file_plan.specs.Trees.{IsTreeOf}
use Rattle.file_plan.specs.declared.tree.Tree.TheVariants.{Flawed}
use Rattle.file_plan.specs.declared.source.PlanSource.{PlanSource}
use Rattle.source_trees.specs.Merging.{IsKnown, IsLaid}
use Rattle.source_trees.specs.Sources.{HomeAt, BreakAt, shape_break, SourceFound}
use Rattle.source_trees.specs.Trees.{IsShapeBy, IsShapeFor}
use Rattle.source_trees.specs.declared.front.Front.{Front}
use Rattle.source_trees.specs.declared.laying.Merged.{Merged}
use Rattle.source_trees.specs.declared.shape.FileShape.{FileShape}

-- the shape of a value of the text
abbrev pub IsShapeAt : List ℕ → List ℕ → Placed → FileShape → Type 0
IsShapeAt file text n shape = IsShapeBy (map (shape_break file) (shape_breaks n)) (shape_of file text n ∷ []) shape

-- the shape of a text whose reading has this fault
abbrev pub TellsFault : List ℕ → JsonFault → FileShape → Type 0
TellsFault file fault shape = (text : List ℕ) → IsTreeOf text (Flawed fault) → IsShapeFor file text shape

-- a shape over what is merged before it
abbrev pub LaysShape : FileShape → Group → Merged → Type 0
LaysShape shape before m = (breaks : List BreakAt) (trees : List Group) → IsShapeBy breaks trees shape → IsLaid breaks trees before m

-- a source over what is merged before it
abbrev pub Lays : FilesData → HomeAt → TokenSource → Group → Merged → Type 0
Lays files home source before m =
    (breaks : List BreakAt) × (trees : List Group) × SourceFound files home source breaks trees × IsLaid breaks trees before m

-- .. in any files of which these are the shapes
abbrev pub LaysBy : finite.FinMap text_cmp FileShape → HomeAt → TokenSource → Group → Merged → Type 0
LaysBy shapes home source before m = (files : FilesData) → IsKnown files shapes source → Lays files home source before m

-- the sources begin with those of the front
pub record BeginsWith (sources : List PlanSource) (front : Front) : Type 0 where
  pub within : length front.sources.now ≤ length sources
  pub begins : front.sources.now ≡ take (length front.sources.now) sources
