-- The next value on the way of a trail, and what lists of values name.
use Rattle.std.specs.Prelude.{List, [], ◌∷◌, ◌++◌, Option, Some, None, if◌then◌else◌}
use Rattle.json_span.specs.Tree.{Placed, Entry, tree_of}
use Rattle.alias_ref.specs.Written.{Step, Role, of_value, written_as, role_behind, is_reference, part_behind}
use Rattle.alias_ref.specs.Refs.{refs_in}

-- the part after a step, where the value is no reference
abbrev pub next_in : Role → Placed → Step → Option Placed
next_in role n s = if is_reference (Some (written_as role (tree_of n))) then None else part_behind n s

-- what the values of a list name
abbrev pub items_refs : List Placed → List (List Step)
items_refs [] = []
items_refs (n ∷ ns) = refs_in of_value n ++ items_refs ns

abbrev pub entries_refs : List Entry → List (List Step)
entries_refs [] = []
entries_refs (e ∷ es) = refs_in (role_behind e.name) e.value ++ entries_refs es
