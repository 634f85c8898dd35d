-- With the items that are still to come, all are written and all breaks are taken in.
use Rattle.std.proofs.Common.{◌≡◌, ◌++◌, map, option_map}
use Rattle.std.specs.List.{flat_map}
use Rattle.json_span.specs.View.{ref_view, items_view}
use Rattle.resolver_doc.specs.Break.{with_breaks}
use Rattle.resolver_doc.specs.Document.{source_of, listed_sources}
use Rattle.resolver_doc.specs.Naming.{of_each, source_breaks, sources_breaks}
use Rattle.resolver_doc.specs.View.{sources_view}
use Rattle.resolver_doc.specs.inner.Known.{known_sets}
use Rattle.resolver_doc.proofs.sources.sources.Given as goal

abbrev pub invariant-loop-item : goal.invariant-loop-item
invariant-loop-item l =
    (goal.iterator-loop-item).can_next l.item-iterator × (goal.iterator-loop-item).is_finite l.item-iterator
    × (sources_view l.written ++ map (source_of (known_sets l.known)) (items_view l.item-iterator) ≡ listed_sources (known_sets l.known) (option_map ref_view l.fn.list))
    × (with_breaks l.first (flat_map (source_breaks (known_sets l.known)) (items_view l.item-iterator)) ≡ with_breaks l.fn.first (of_each (sources_breaks (known_sets l.known)) (option_map ref_view l.fn.list)))
