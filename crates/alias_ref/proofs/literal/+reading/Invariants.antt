-- What was read so far, and what is left; a value weighs more than its parts.
use Rattle.std.proofs.Common.{◌≡◌, ℕ, ◌+◌, ◌≤◌, List, map, codes}
use Rattle.json_span.specs.PlainView.{ValueEntry, plain_items_view, plain_fields_view}
use Rattle.json_span.specs.View.{ref_view, items_view, fields_view}
use Rattle.token_tree.specs.Shape.{has}
use Rattle.alias_ref.specs.Written.{parts_by_index}
use Rattle.alias_ref.specs.inner.Literals.{ReadSoFar}
use Rattle.alias_ref.specs.inner.Walks.{item_parts, field_parts}
use Rattle.alias_ref.proofs.Weights.{weight, weights, entry_weights}
use Rattle.alias_ref.proofs.literal.+reading.Given as goal

abbrev pub decreases-literal_value : goal.decreases-literal_value
decreases-literal_value l = weight (ref_view l.node)

abbrev pub decreases-literal_items : goal.decreases-literal_items
decreases-literal_items l = weights (items_view l.items) + 1

abbrev pub decreases-literal_fields : goal.decreases-literal_fields
decreases-literal_fields l = entry_weights (fields_view l.fields) + 1

abbrev pub invariant-literal_items-loop-node : goal.invariant-literal_items-loop-node
invariant-literal_items-loop-node l =
    (goal.iterator-literal_items-loop-node).can_next l.node-iterator × (goal.iterator-literal_items-loop-node).is_finite l.node-iterator
    × ((index : ℕ) × (es : List ValueEntry) × (plain_items_view l.list ≡ map (λ e. e.value) es)
    × ReadSoFar l.initial.values (item_parts l.items) (parts_by_index index (items_view l.node-iterator)) l.values es)
    × (weights (items_view l.node-iterator) ≤ weights (items_view l.items))

abbrev pub invariant-literal_fields-loop-field : goal.invariant-literal_fields-loop-field
invariant-literal_fields-loop-field l =
    (goal.iterator-literal_fields-loop-field).can_next l.field-iterator × (goal.iterator-literal_fields-loop-field).is_finite l.field-iterator
    × ReadSoFar l.initial.values (field_parts l.fields) (field_parts l.field-iterator) l.values (plain_fields_view l.list)
    × (has (codes "$ref") (fields_view l.fields) ≡ has (codes "$ref") (fields_view l.field-iterator))
    × (entry_weights (fields_view l.field-iterator) ≤ entry_weights (fields_view l.fields))
