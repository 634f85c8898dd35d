use Rattle.std.proofs.Common.{◌≡◌, ◌+◌, length}
use Rattle.json_span.specs.View.{items_view}
use Rattle.alias_ref.specs.Written.{part_under, parts_by_index}
use Rattle.explain.proofs.places.item.Given as goal

-- the items that are left, from their index on
abbrev pub invariant-loop-node : goal.invariant-loop-node
invariant-loop-node l =
    (goal.iterator-loop-node).can_next l.node-iterator × (goal.iterator-loop-node).is_finite l.node-iterator
    × (l.at + length (items_view l.node-iterator) ≡ length (items_view l.fn.items)) × (part_under l.step (parts_by_index l.at (items_view l.node-iterator)) ≡ part_under l.step (parts_by_index 0 (items_view l.fn.items)))
