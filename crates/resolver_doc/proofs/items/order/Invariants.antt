-- With the items that are still to come, all are listed and all breaks are taken in.
use Rattle.std.proofs.Common.{◌≡◌, ◌++◌, map}
use Rattle.std.specs.List.{flat_map}
use Rattle.json_span.specs.View.{ref_view, items_view}
use Rattle.resolver_doc.specs.Break.{with_breaks}
use Rattle.resolver_doc.specs.Document.{order_item, order_items}
use Rattle.resolver_doc.specs.Naming.{item_breaks}
use Rattle.resolver_doc.specs.View.{order_view}
use Rattle.resolver_doc.specs.inner.Known.{known_sets, known_modifiers}
use Rattle.resolver_doc.proofs.items.order.Given as goal

abbrev pub invariant-loop-node : goal.invariant-loop-node
invariant-loop-node l =
    (goal.iterator-loop-node).can_next l.node-iterator × (goal.iterator-loop-node).is_finite l.node-iterator
    × (order_view l.order ++ map (order_item (known_sets l.known) (known_modifiers l.known)) (items_view l.node-iterator) ≡ map (order_item (known_sets l.known) (known_modifiers l.known)) (order_items (ref_view l.root)))
    × (with_breaks l.first (flat_map (item_breaks (known_sets l.known) (known_modifiers l.known)) (items_view l.node-iterator)) ≡ with_breaks l.fn.first (flat_map (item_breaks (known_sets l.known) (known_modifiers l.known)) (order_items (ref_view l.root))))
