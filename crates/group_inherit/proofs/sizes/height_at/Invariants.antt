use Rattle.std.proofs.Common.{◌≡◌, ◌++◌, min, max, map, drop, get_or, option_to_list}
use Rattle.token_tree.specs.View.{group_view}
use Rattle.group_inherit.specs.Answer.{most_told}
use Rattle.group_inherit.specs.Extension.{group_names, greatest_raised}
use Rattle.group_inherit.specs.inner.Numbering.{numbers_of}
use Rattle.group_inherit.specs.inner.Outcomes.{capped_height}
use Rattle.group_inherit.proofs.sizes.height_at.Given as goal

-- the height so far, and those of the child groups that are left and of the target
abbrev pub invariant-loop-child : goal.invariant-loop-child
invariant-loop-child l =
    min (max l.height (greatest_raised (drop l.child-index (group_names (group_view l.group)))
    (map (λ w. get_or l.table w 0) (drop l.child-index l.row.children.items) ++ map (λ w. get_or l.table w 0) (option_to_list l.row.target)))) most_told
    ≡ capped_height (group_view l.group) l.table (numbers_of l.row)
