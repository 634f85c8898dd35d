-- The string is that of the sources that are still to come.
use Rattle.std.proofs.Common.{◌≡◌}
use Rattle.json_span.specs.View.{ref_view, items_view}
use Rattle.resolver_doc.specs.Document.{elements_at}
use Rattle.resolver_doc.specs.Rings.{naming_string}
use Rattle.resolver_doc.specs.inner.Known.{known_sets}
use Rattle.resolver_doc.proofs.rings.naming_string.Given as goal

abbrev pub invariant-loop-item : goal.invariant-loop-item
invariant-loop-item l =
    (goal.iterator-loop-item).can_next l.item-iterator × (goal.iterator-loop-item).is_finite l.item-iterator
    × (naming_string (known_sets l.known) l.number (items_view l.item-iterator) ≡ naming_string (known_sets l.known) l.number (elements_at (ref_view l.sources)))
