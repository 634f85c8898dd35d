-- The members of a group as they are kept, a list in the order of their names, and the map that they are seen as.
use Rattle.std.specs.Prelude.{ℕ, List, [], map, unwrap_or, option_map}
use Rattle.std.specs.FinMap as map
use Rattle.token_tree.specs.Tree.{Child as ChildData, Named}
use Rattle.token_tree.specs.View.{member_view}
use Rattle.token_tree.specs.declared.tree.Member.{Member}
use Rattle.token_tree.specs.declared.tree.Members.TheInside.{Inside}

abbrev pub entries_of : List Member → List (List ℕ × ChildData)
entries_of list = map member_view list

abbrev pub kept_members : Inside → List Member
kept_members m = unwrap_or (option_map (λ shared. shared.value.items) m.entries) []

abbrev pub kept_entries : Inside → List (List ℕ × ChildData)
kept_entries m = entries_of (kept_members m)

abbrev pub kept_named : Inside → Named
kept_named m = map.from_sorted (kept_entries m)
