-- What groups, their members and what they extend are seen as.
use Rattle.std.specs.Prelude.{ℕ, List, option_map}
use Rattle.std.specs.Borrow.{Bor}
use Rattle.token_tree.specs.Tree.{Extension, Properties, Child as ChildData, a_token, a_group, Group as GroupData, Named, group_with}
use Rattle.token_tree.specs.declared.tree.Child.{Child}
use Rattle.token_tree.specs.declared.tree.Child.TheVariants.{Token, Group as Inner}
use Rattle.token_tree.specs.declared.tree.Group.{Group}
use Rattle.token_tree.specs.declared.tree.Member.{Member}
use Rattle.token_tree.specs.declared.tree.Extends.{Extends}

abbrev pub extends_view : Extends → Extension
extends_view e = record { target = e.target; file = e.file.now; start = e.start; end = e.end }

-- the members by their names
abbrev pub members_view : Named → Named
members_view m = m

-- what a group says of itself
abbrev pub properties_view : Group → Properties
properties_view g = record { kind = g.kind; deprecated = g.deprecated; extends = option_map extends_view g.extends }

-- a group
abbrev pub group_view : Group → GroupData
group_view g = group_with (properties_view g) (members_view g.members)

-- a token or a group
abbrev pub child_view : Child → ChildData
child_view (Token def) = a_token def.value
child_view (Inner g) = a_group (group_view g.value)

-- a member with its name
abbrev pub member_view : Member → List ℕ × ChildData
member_view m = (m.name, child_view m.child)

-- a name and its child, looked at
abbrev pub entry_view : Bor (List ℕ) × Bor Child → List ℕ × ChildData
entry_view e = (e.0.now, child_view e.1.now)
