-- What is under the name is still to come.
use Rattle.std.proofs.Common.{◌≡◌}
use Rattle.json_span.specs.View.{fields_view}
use Rattle.json_span.specs.Tree.{value_of_name}
use Rattle.json_span.proofs.fields.Fields.get.Given as goal

abbrev pub invariant-loop-field : goal.invariant-loop-field
invariant-loop-field l = (goal.iterator-loop-field).can_next l.field-iterator × (goal.iterator-loop-field).is_finite l.field-iterator × (value_of_name l.name (fields_view l.field-iterator) ≡ value_of_name l.name (fields_view l.self))
