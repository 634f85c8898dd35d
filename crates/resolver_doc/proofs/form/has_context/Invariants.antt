-- With the members that are still to come, all are taken in.
use Rattle.std.proofs.Common.{◌≡◌}
use Rattle.json_span.specs.View.{fields_view}
use Rattle.resolver_doc.specs.Form.{has_context}
use Rattle.resolver_doc.proofs.form.has_context.Given as goal

abbrev pub invariant-loop-field : goal.invariant-loop-field
invariant-loop-field l =
    (goal.iterator-loop-field).can_next l.field-iterator × (goal.iterator-loop-field).is_finite l.field-iterator
    × (has_context l.name (fields_view l.field-iterator) ≡ has_context l.name (fields_view l.fields))
