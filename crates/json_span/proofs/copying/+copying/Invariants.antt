-- Those so far and those to come; a value is larger than its parts.
use Rattle.std.proofs.Common.{◌≡◌, ◌++◌, ◌+◌, ◌*◌, ◌≤◌}
use Rattle.json_span.specs.View.{ref_view, items_view, fields_view}
use Rattle.json_span.specs.Table.{size}
use Rattle.json_span.specs.PlainView.{plain_items_view, plain_fields_view}
use Rattle.json_span.specs.inner.PlainCopies.{plain_each, plain_entries}
use Rattle.json_span.proofs.PlainCopies.{list_size, entries_size}
use Rattle.json_span.proofs.copying.+copying.Given as goal

abbrev pub decreases-plain_value : goal.decreases-plain_value
decreases-plain_value l = 2 * size (ref_view l.node)

abbrev pub decreases-plain_items : goal.decreases-plain_items
decreases-plain_items l = 2 * list_size (items_view l.items) + 1

abbrev pub decreases-plain_fields : goal.decreases-plain_fields
decreases-plain_fields l = 2 * entries_size (fields_view l.fields) + 1

abbrev pub invariant-plain_items-loop-item : goal.invariant-plain_items-loop-item
invariant-plain_items-loop-item l =
    (goal.iterator-plain_items-loop-item).can_next l.item-iterator × (goal.iterator-plain_items-loop-item).is_finite l.item-iterator
    × (plain_items_view l.list ++ plain_each (items_view l.item-iterator) ≡ plain_each (items_view l.items))
    × (list_size (items_view l.item-iterator) ≤ list_size (items_view l.items))

abbrev pub invariant-plain_fields-loop-field : goal.invariant-plain_fields-loop-field
invariant-plain_fields-loop-field l =
    (goal.iterator-plain_fields-loop-field).can_next l.field-iterator × (goal.iterator-plain_fields-loop-field).is_finite l.field-iterator
    × (plain_fields_view l.list ++ plain_entries (fields_view l.field-iterator) ≡ plain_entries (fields_view l.fields))
    × (entries_size (fields_view l.field-iterator) ≤ entries_size (fields_view l.fields))
