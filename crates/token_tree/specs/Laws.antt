-- Laws over the definitions alone.
use Rattle.std.specs.Prelude.{◌≡◌, ℕ, ◌+◌, ◌≤◌, ◌↔◌, IsTrue, true, if◌then◌else◌, List, [], ◌∷◌, Some, None, option_map}
use Rattle.json_span.specs.Tree.{Placed, tree_of, start_of, value_of_name}
use Rattle.json_span.specs.Reading.{Shows}
use Rattle.json_span.specs.Parts.{IsPart}
use Rattle.name_path.specs.declared.kind.Kind.{Kind}
use Rattle.name_path.specs.Kinds.{kind_name}
use Rattle.name_path.specs.Names.{IsName}
use Rattle.name_path.specs.Reference.{SpellsGroup}
use Rattle.token_tree.specs.Texts.{is_name, kind_named, group_named}
use Rattle.token_tree.specs.Tree.{Definition, child_at}
use Rattle.token_tree.specs.Shape.{Break, shape_breaks, shape_of, slice_of, entries_at, is_object, is_child, child_of, group_of}
use Rattle.token_tree.specs.Promise.{IsDefinition, StandsIn}

-- each break starts after the one before, and none before this place
abbrev pub Ascend : ℕ → List Break → Type 0
Ascend from [] = Unit {0}
Ascend from (b ∷ bs) = (from ≤ b.start) × Ascend (b.start + 1) bs

-- the breaks of a value of a text stand in the order of their spans, no two of which start together
abbrev pub BreaksAscend : Type 0
BreaksAscend = (text : List ℕ) (root n : Placed) → Shows text root → IsPart n root → Ascend 0 (shape_breaks n)

-- a definition is decided by its file's name, its source and where that starts
abbrev pub OneDefinition : Type 0
OneDefinition = (d e : Definition) → IsDefinition d → IsDefinition e
    → d.file ≡ e.file → d.source ≡ e.source → d.start ≡ e.start → d ≡ e

-- So is the shape of a value, by its slice and where that starts: two such values break the same rules and show the same
-- tree, whatever else stands in their texts.
abbrev pub OneShape : Type 0
OneShape = (file text other : List ℕ) (n m : Placed) → StandsIn text n → StandsIn other m
    → slice_of text n ≡ slice_of other m → start_of n ≡ start_of m
    → (shape_breaks n ≡ shape_breaks m) × (shape_of file text n ≡ shape_of file other m)

-- the tests of texts are those of names, kinds and groups
abbrev pub NamesTest : Type 0
NamesTest = (text : List ℕ) → IsTrue (is_name text) ↔ IsName text

abbrev pub KindsNamed : Type 0
KindsNamed = (text : List ℕ) (kind : Kind) → (kind_named text ≡ Some kind) ↔ (kind_name kind ≡ text)

abbrev pub GroupsNamed : Type 0
GroupsNamed = (text : List ℕ) (path : List (List ℕ)) → (group_named text ≡ Some path) ↔ SpellsGroup text path

-- At a name of a group stands the child that the object's member of that name shows.
abbrev pub ChildrenByName : Type 0
ChildrenByName = (file text : List ℕ) (n : Placed) (name : List ℕ) → StandsIn text n
    → is_object (tree_of n) ≡ true → child_at name (group_of file text (tree_of n))
    ≡ (if is_child name then option_map (child_of file text) (value_of_name name (entries_at n)) else None)
