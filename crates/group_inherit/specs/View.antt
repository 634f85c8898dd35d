-- What flat trees and their entries are seen as, and what calls answer.
use Rattle.std.specs.Prelude.{◌≡◌, ℕ, List, Some, cond}
use Rattle.std.specs.Borrow.{Bor}
use Rattle.std.specs.BTreeMap.{is_at}
use Rattle.std.specs.FinMap as map
use Rattle.tk_io.specs.Order.{names_cmp}
use Rattle.token_tree.specs.View.{group_view}
use Rattle.token_tree.specs.declared.tree.Group.{Group}
use Rattle.group_inherit.specs.Flattening.{Flattened}
use Rattle.group_inherit.specs.Merging.{over}
use Rattle.group_inherit.specs.declared.entry.Entry.TheInside.{Inside}

abbrev pub FlatTokens : Type 0
FlatTokens = map.FinMap names_cmp Flattened

-- an entry of a flat tree
abbrev pub entry_view : Inside → Flattened
entry_view e = record { def = e.def.value; group_kind = e.group_kind; group_mark = e.group_mark }

-- a path and its entry, looked at
abbrev pub token_view : Bor (List (List ℕ)) × Bor Flattened → List (List ℕ) × Flattened
token_view e = (e.0.now, e.1.now)

-- the token stands at the path, and at each other path what stood there
abbrev pub StandsAt : FlatTokens → FlatTokens → List (List ℕ) → Flattened → Type 0
StandsAt old new path t = (q : List (List ℕ)) → map.get new q ≡ cond (is_at (names_cmp path) q) (Some t) (map.get old q)

-- a group is the later one over the earlier one
abbrev pub IsOver : Group → Group → Group → Type 0
IsOver later earlier g = group_view g ≡ over (group_view later) (group_view earlier)
