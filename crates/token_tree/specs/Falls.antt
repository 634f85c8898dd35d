-- What is inside a group is smaller than it.
use Rattle.std.specs.Prelude.{◌+◌, ◌≤◌, T, List, [], ◌∷◌, Some, None}
use Rattle.std.proofs.Common.{arith, sym, subst}
use Rattle.std.specs.FinMap as map
use Rattle.tk_io.specs.Order.{text_cmp}
use Rattle.token_tree.specs.Tree.{children_of}
use Rattle.token_tree.specs.View.{member_view}
use Rattle.token_tree.specs.MembersView.{entries_of, kept_entries, kept_named}
use Rattle.token_tree.specs.Sizes.{child_size, children_size, named_size}
use Rattle.token_tree.specs.declared.tree.Child.TheVariants.{Token, Group}
use Rattle.token_tree.specs.declared.tree.Member.{Member}
use Rattle.token_tree.specs.declared.tree.Members.TheInside.{Inside}
use Rattle.token_tree.specs.declared.tree.Members.TheDeep.{deep-Members, deep-Member}
use denote.Param.Weighed.{most}

child_falls : (m : Member) → deep-Member m ≤ child_size (member_view m).1 + 1
child_falls m = elim m.child as (λ c. deep-Member (record m { child = c }) ≤ child_size (member_view (record m { child = c })).1 + 1) [
  | Token def ↦ omega arith
  | Group g ↦ omega arith
]

list_falls : (list : List Member) → most deep-Member list ≤ children_size (children_of (entries_of list))
list_falls [] = omega arith
list_falls (m ∷ list) = omega (arith, child_falls m, list_falls list)

inside_falls : (m : Inside) → deep-Members m ≤ children_size (children_of (kept_entries m))
inside_falls m = elim m.entries as (λ o. deep-Members (record m { entries = o }) ≤ children_size (children_of (kept_entries (record m { entries = o })))) [
  | None ↦ omega arith
  | Some shared ↦ omega (arith, list_falls shared.value.items)
]

-- the groups inside a list of members are smaller than it
pub falls : (m : Inside) → T (map.is_sorted text_cmp (kept_entries m)) → deep-Members m ≤ named_size (kept_named m)
falls m h = subst (λ es. deep-Members m ≤ children_size (children_of es)) (sym (map.entries-from_sorted text_cmp (kept_entries m) h)) (inside_falls m)
