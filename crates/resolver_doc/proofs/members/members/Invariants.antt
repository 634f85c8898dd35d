-- With the members that are still to come, all that count are listed.
use Rattle.std.proofs.Common.{◌≡◌, ◌++◌, map}
use Rattle.json_span.specs.View.{ref_view, field_view, fields_view}
use Rattle.resolver_doc.specs.Form.{unreserved, entries_at}
use Rattle.resolver_doc.specs.Document.{section}
use Rattle.resolver_doc.proofs.members.members.Given as goal

abbrev pub invariant-loop-field : goal.invariant-loop-field
invariant-loop-field l =
    (goal.iterator-loop-field).can_next l.field-iterator × (goal.iterator-loop-field).is_finite l.field-iterator
    × (map field_view l.members.items ++ unreserved (fields_view l.field-iterator) ≡ section l.fn.name (entries_at (ref_view l.fn.root)))
