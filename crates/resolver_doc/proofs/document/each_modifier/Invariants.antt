-- With the members that are still to come, all are taken in.
use Rattle.std.proofs.Common.{◌≡◌}
use Rattle.std.specs.List.{flat_map}
use Rattle.json_span.specs.View.{ref_view, fields_view}
use Rattle.resolver_doc.specs.Break.{with_breaks}
use Rattle.resolver_doc.specs.Form.{modifier_form, unreserved, each_value}
use Rattle.resolver_doc.proofs.document.each_modifier.Given as goal

abbrev pub invariant-loop-field : goal.invariant-loop-field
invariant-loop-field l =
    (goal.iterator-loop-field).can_next l.field-iterator × (goal.iterator-loop-field).is_finite l.field-iterator
    × (with_breaks l.first (flat_map (λ e. modifier_form e.value) (unreserved (fields_view l.field-iterator))) ≡ with_breaks l.fn.first (each_value modifier_form (ref_view l.node)))
