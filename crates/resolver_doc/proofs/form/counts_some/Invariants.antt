-- With the members that are still to come, all are taken in.
use Rattle.std.proofs.Common.{◌≡◌}
use Rattle.json_span.specs.View.{fields_view}
use Rattle.resolver_doc.specs.Form.{counts_some}
use Rattle.resolver_doc.proofs.form.counts_some.Given as goal

abbrev pub invariant-loop-field : goal.invariant-loop-field
invariant-loop-field l =
    (goal.iterator-loop-field).can_next l.field-iterator × (goal.iterator-loop-field).is_finite l.field-iterator
    × (counts_some (fields_view l.field-iterator) ≡ counts_some (fields_view l.fields))
