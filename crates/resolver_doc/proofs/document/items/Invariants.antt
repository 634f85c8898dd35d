-- With the items that are still to come, all are taken in.
use Rattle.std.proofs.Common.{◌≡◌}
use Rattle.std.specs.List.{flat_map}
use Rattle.json_span.specs.View.{ref_view, items_view}
use Rattle.resolver_doc.specs.Break.{with_breaks}
use Rattle.resolver_doc.specs.Form.{item_form, list_with}
use Rattle.resolver_doc.proofs.document.items.Given as goal

abbrev pub invariant-loop-node : goal.invariant-loop-node
invariant-loop-node l =
    (goal.iterator-loop-node).can_next l.node-iterator × (goal.iterator-loop-node).is_finite l.node-iterator
    × (with_breaks l.first (flat_map item_form (items_view l.node-iterator)) ≡ with_breaks l.fn.first (list_with item_form (ref_view l.fn.node)))
