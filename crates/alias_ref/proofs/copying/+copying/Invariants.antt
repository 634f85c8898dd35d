-- Those so far; a value holds more than its parts.
use Rattle.std.proofs.Common.{◌≡◌, ◌+◌, map, take}
use Rattle.json_span.specs.PlainView.{plain_view, plain_field_view, plain_items_view, plain_fields_view}
use Rattle.alias_ref.proofs.PlainCopies.{value_weight, value_weights, entry_weights}
use Rattle.alias_ref.proofs.copying.+copying.Given as goal

abbrev pub decreases-copy_plain : goal.decreases-copy_plain
decreases-copy_plain l = value_weight (plain_view l.plain.now)

abbrev pub decreases-copy_items : goal.decreases-copy_items
decreases-copy_items l = value_weights (plain_items_view l.items.now) + 1

abbrev pub decreases-copy_fields : goal.decreases-copy_fields
decreases-copy_fields l = entry_weights (plain_fields_view l.fields.now) + 1

abbrev pub invariant-copy_items-loop-item : goal.invariant-copy_items-loop-item
invariant-copy_items-loop-item l = plain_items_view l.list ≡ map plain_view (take l.item-index l.values)

abbrev pub invariant-copy_fields-loop-field : goal.invariant-copy_fields-loop-field
invariant-copy_fields-loop-field l = plain_fields_view l.list ≡ map plain_field_view (take l.field-index l.members)
