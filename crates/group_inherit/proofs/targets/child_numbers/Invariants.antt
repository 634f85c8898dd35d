use Rattle.std.proofs.Common.{ℕ, List, [], ◌∷◌, ◌++◌, map, drop}
use Rattle.std.specs.FinMap as map_of
use Rattle.token_tree.specs.View.{members_view}
use Rattle.token_tree.specs.Tree.{children_of}
use Rattle.group_inherit.specs.Extension.{names_of_groups}
use Rattle.group_inherit.proofs.Placing.{Kids}
use Rattle.group_inherit.proofs.targets.child_numbers.Given as goal

-- the numbers so far and those of the child groups that are left
abbrev pub invariant-loop-member : goal.invariant-loop-member
invariant-loop-member l =
    let es = map_of.entries (members_view l.node.group.now.members) in
    Kids l.places l.node.path (map (λ (n : List ℕ). map_of.get l.places (l.node.path ++ n ∷ [])) (names_of_groups (children_of es))) l.row.items (drop l.member-index es)
