use Rattle.std.proofs.Common.{◌≡◌, ◌++◌, ◌+◌, ◌≤◌}
use Rattle.json_span.specs.View.{ref_view, field_view, items_view, fields_view}
use Rattle.alias_ref.specs.inner.Steps.{items_refs, entries_refs}
use Rattle.alias_ref.proofs.Weights.{weight, weights, entry_weights}
use Rattle.alias_ref.proofs.refs.+adding.Given as goal

abbrev pub decreases-add_member : goal.decreases-add_member
decreases-add_member l = weight (field_view l.field).value + 1

abbrev pub decreases-add_refs : goal.decreases-add_refs
decreases-add_refs l = weight (ref_view l.node)

abbrev pub decreases-add_items : goal.decreases-add_items
decreases-add_items l = weights (items_view l.items) + 1

abbrev pub decreases-add_members : goal.decreases-add_members
decreases-add_members l = entry_weights (fields_view l.fields) + 1

abbrev pub invariant-add_items-loop-item : goal.invariant-add_items-loop-item
invariant-add_items-loop-item l =
    (goal.iterator-add_items-loop-item).can_next l.item-iterator × (goal.iterator-add_items-loop-item).is_finite l.item-iterator
    × (l.paths ++ items_refs (items_view l.item-iterator) ≡ l.initial.paths ++ items_refs (items_view l.items))
    × (weights (items_view l.item-iterator) ≤ weights (items_view l.items))

abbrev pub invariant-add_members-loop-field : goal.invariant-add_members-loop-field
invariant-add_members-loop-field l =
    (goal.iterator-add_members-loop-field).can_next l.field-iterator × (goal.iterator-add_members-loop-field).is_finite l.field-iterator
    × (l.paths ++ entries_refs (fields_view l.field-iterator) ≡ l.initial.paths ++ entries_refs (fields_view l.fields))
    × (entry_weights (fields_view l.field-iterator) ≤ entry_weights (fields_view l.fields))
