-- With the members that are still to come, all are taken in.
use Rattle.std.proofs.Common.{◌≡◌}
use Rattle.std.specs.List.{flat_map}
use Rattle.json_span.specs.View.{fields_view}
use Rattle.resolver_doc.specs.Break.{with_breaks, at_name}
use Rattle.resolver_doc.specs.declared.rule.PlanRule.TheVariants.{Shape}
use Rattle.resolver_doc.specs.Form.{unreserved}
use Rattle.resolver_doc.proofs.form.neighbors.Given as goal

abbrev pub invariant-loop-field : goal.invariant-loop-field
invariant-loop-field l =
    (goal.iterator-loop-field).can_next l.field-iterator × (goal.iterator-loop-field).is_finite l.field-iterator
    × (with_breaks l.first (flat_map (at_name Shape) (unreserved (fields_view l.field-iterator))) ≡ with_breaks l.fn.first (flat_map (at_name Shape) (unreserved (fields_view l.fields))))
