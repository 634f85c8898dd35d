-- What reading a shape answers.
use Rattle.std.specs.Prelude.{◌≡◌, ℕ, List, Some, slice_get}
use Rattle.json_span.specs.Tree.{Placed, Entry, an_object, members_of, tree_of}
use Rattle.token_tree.specs.declared.fault.ShapeFault.{ShapeFault}
use Rattle.token_tree.specs.declared.fault.ShapeFault.TheVariants.{Broken, NoMemory}
use Rattle.token_tree.specs.Shape.{Break, shape_of}
use Rattle.token_tree.specs.View.{group_view}
use Rattle.token_tree.specs.declared.tree.Group.{Group}

-- the fault is the first of these breaks; memory may always run out
abbrev pub TellsFirst : List Break → ShapeFault → Type 0
TellsFirst breaks (Broken rule start end) = slice_get breaks 0 ≡ Some (record { rule = rule; start = start; end = end })
TellsFirst breaks NoMemory = Unit {0}

-- the value is an object of these members
abbrev pub IsObjectOf : Placed → List Entry → Type 0
IsObjectOf n es = tree_of n ≡ an_object (members_of es)

-- what is read of a file's root is what it shows
abbrev pub IsShapeOf : List ℕ → List ℕ → Placed → Group → Type 0
IsShapeOf file text root g = group_view g ≡ shape_of file text root
