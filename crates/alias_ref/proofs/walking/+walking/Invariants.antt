use Rattle.std.proofs.Common.{suc, ◌≡◌, ◌+◌, ◌-◌, ◌*◌, List, length, map}
use Rattle.json_span.specs.PlainView.{ValueEntry, plain_items_view, plain_fields_view}
use Rattle.alias_ref.specs.Visits.{most_on_branch}
use Rattle.alias_ref.specs.Written.{written_in, parts_by_index, parts_by_name}
use Rattle.alias_ref.specs.Kinds.{own_in, group_in}
use Rattle.json_span.specs.View.{items_view, fields_view}
use Rattle.alias_ref.specs.inner.Spots.{IsSameBranch}
use Rattle.alias_ref.specs.inner.Turns.{PartsWalked}
use Rattle.alias_ref.proofs.walking.+walking.Given as goal

abbrev pub decreases-walk : goal.decreases-walk
decreases-walk l = 8 * (suc most_on_branch - length l.trace.now.places.items)

abbrev pub decreases-walk_on : goal.decreases-walk_on
decreases-walk_on l = 8 * (suc most_on_branch - length l.trace.now.places.items) + 3

abbrev pub decreases-walk_target : goal.decreases-walk_target
decreases-walk_target l = 8 * (suc most_on_branch - length l.trace.now.places.items) + 1

abbrev pub decreases-walk_reference : goal.decreases-walk_reference
decreases-walk_reference l = 8 * (suc most_on_branch - length l.trace.now.places.items) + 2

abbrev pub decreases-walk_items : goal.decreases-walk_items
decreases-walk_items l = 8 * (suc most_on_branch - length l.trace.now.places.items) + 2

abbrev pub decreases-walk_fields : goal.decreases-walk_fields
decreases-walk_fields l = 8 * (suc most_on_branch - length l.trace.now.places.items) + 2

abbrev pub decreases-walk_part : goal.decreases-walk_part
decreases-walk_part l = 8 * (suc most_on_branch - length l.trace.now.places.items) + 1

abbrev pub invariant-walk_items-loop-node : goal.invariant-walk_items-loop-node
invariant-walk_items-loop-node l =
    (goal.iterator-walk_items-loop-node).can_next l.node-iterator × (goal.iterator-walk_items-loop-node).is_finite l.node-iterator
    × ((es : List ValueEntry) × (plain_items_view l.list ≡ map (λ e. e.value) es)
    × PartsWalked (written_in l.flat) l.own (own_in l.flat) (group_in l.flat) l.initial.trace.places.items l.place (parts_by_index 0 (items_view l.items)) (parts_by_index l.index (items_view l.node-iterator)) l.initial.trace.visits l.trace.visits es l.initial.links l.links)
    × (l.index + length (items_view l.node-iterator) ≡ length (items_view l.items))
    × IsSameBranch l.initial.trace l.trace

abbrev pub invariant-walk_fields-loop-field : goal.invariant-walk_fields-loop-field
invariant-walk_fields-loop-field l =
    (goal.iterator-walk_fields-loop-field).can_next l.field-iterator × (goal.iterator-walk_fields-loop-field).is_finite l.field-iterator
    × PartsWalked (written_in l.flat) l.own (own_in l.flat) (group_in l.flat) l.initial.trace.places.items l.place (parts_by_name (fields_view l.fields)) (parts_by_name (fields_view l.field-iterator)) l.initial.trace.visits l.trace.visits (plain_fields_view l.list) l.initial.links l.links
    × IsSameBranch l.initial.trace l.trace
