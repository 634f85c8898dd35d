use Rattle.std.proofs.Common.{◌≡◌, ◌+◌, ◌≤◌, ◌++◌}
use Rattle.json_span.specs.Tree.{members_of}
use Rattle.json_span.specs.View.{ref_view, field_view, fields_view}
use Rattle.token_tree.specs.inner.Outcomes.{EachStands}
use Rattle.token_tree.specs.Shape.{group_breaks}
use Rattle.token_tree.specs.MembersView.{entries_of}
use Rattle.token_tree.proofs.Children.{children_in}
use Rattle.token_tree.proofs.Weights.{node_weight, members_weight}
use Rattle.token_tree.proofs.group.+group.Given as goal

abbrev pub decreases-read_child : goal.decreases-read_child
decreases-read_child l = node_weight (ref_view l.node)

abbrev pub decreases-read_object : goal.decreases-read_object
decreases-read_object l = members_weight (members_of (fields_view l.fields.now)) + 2

abbrev pub decreases-read_members : goal.decreases-read_members
decreases-read_members l = members_weight (members_of (fields_view l.fields.now)) + 1

abbrev pub decreases-read_member : goal.decreases-read_member
decreases-read_member l = node_weight (field_view l.field).value + 1

-- the members so far have no break, and the children so far and those left are all
abbrev pub invariant-read_members-loop-field : goal.invariant-read_members-loop-field
invariant-read_members-loop-field l = record {
  breaks : group_breaks (members_of (fields_view l.field-iterator)) ≡ group_breaks (members_of (fields_view l.fields));
  children : entries_of l.list.items ++ children_in l.file l.text (fields_view l.field-iterator) ≡ children_in l.file l.text (fields_view l.fields);
  stand : EachStands l.text (fields_view l.field-iterator);
  lighter : members_weight (members_of (fields_view l.field-iterator)) ≤ members_weight (members_of (fields_view l.fields));
}
