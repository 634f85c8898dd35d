-- With the items that are still to come, all are taken in.
use Rattle.std.proofs.Common.{◌≡◌}
use Rattle.std.specs.List.{flat_map}
use Rattle.json_span.specs.View.{ref_view, items_view}
use Rattle.resolver_doc.specs.Break.{with_breaks}
use Rattle.resolver_doc.specs.Form.{source_form, sources_form}
use Rattle.resolver_doc.proofs.form.sources.Given as goal

abbrev pub invariant-loop-item : goal.invariant-loop-item
invariant-loop-item l =
    (goal.iterator-loop-item).can_next l.item-iterator × (goal.iterator-loop-item).is_finite l.item-iterator
    × (with_breaks l.first (flat_map source_form (items_view l.item-iterator)) ≡ with_breaks l.fn.first (sources_form (ref_view l.node)))
