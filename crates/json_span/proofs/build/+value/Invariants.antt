use Rattle.std.proofs.Common.{◌≡◌, ◌≤◌, ◌+◌, ◌-◌, ◌*◌, [], length, true}
use Rattle.json_span.specs.Predictive.{square, curly}
use Rattle.json_span.specs.inner.Skipping.{left_of, ContinuesAs}
use Rattle.json_span.specs.inner.Building.{IsSmall}
use Rattle.json_span.specs.inner.ListsLeft.{list_left, ArrayLeft, ObjectLeft}
use Rattle.json_span.proofs.build.+value.Given as goal

abbrev pub decreases-build_value : goal.decreases-build_value
decreases-build_value l = 3 * l.room + 2

abbrev pub decreases-build_list : goal.decreases-build_list
decreases-build_list l = 3 * l.room + 1

abbrev pub decreases-build_array : goal.decreases-build_array
decreases-build_array l = 3 * l.room + 3

abbrev pub decreases-build_object : goal.decreases-build_object
decreases-build_object l = 3 * l.room + 3

-- what is left makes the whole list
abbrev pub invariant-build_array-loop-end : goal.invariant-build_array-loop-end
invariant-build_array-loop-end l = record {
  within : l.next ≤ length l.text;
  leads : ContinuesAs l.text (left_of true []) l.at (list_left square) l.next;
  same : l.names.items ≡ l.fn.names.items;
  elements : ArrayLeft l.text l.room l.at l.inner l.next l.name l.name_end l.fn.nodes.items l.nodes.items;
  index : l.index ≡ length l.fn.nodes.items;
  small : IsSmall l.text l.next l.nodes.items;
}

abbrev pub decreases-build_array-loop-end : goal.decreases-build_array-loop-end
decreases-build_array-loop-end l = length l.text - l.next

abbrev pub invariant-build_object-loop-front : goal.invariant-build_object-loop-front
invariant-build_object-loop-front l = record {
  within : l.next ≤ length l.text;
  leads : ContinuesAs l.text (left_of true []) l.at (list_left curly) l.next;
  members : ObjectLeft l.text l.room l.at l.inner l.next l.name l.name_end l.fn.nodes.items l.nodes.items l.fn.names.items l.names.items;
  base : l.base ≡ length l.fn.names.items;
  index : l.index ≡ length l.fn.nodes.items;
  small : IsSmall l.text l.next l.nodes.items;
}

abbrev pub decreases-build_object-loop-front : goal.decreases-build_object-loop-front
decreases-build_object-loop-front l = length l.text - l.next
