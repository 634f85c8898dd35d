-- The names of the items so far are kept, and with the items that are still to come all breaks are taken in.
use Rattle.std.proofs.Common.{◌≡◌, ℕ, List, []}
use Rattle.json_span.specs.View.{items_view}
use Rattle.resolver_doc.specs.Break.{with_breaks}
use Rattle.resolver_doc.specs.Naming.{repeats}
use Rattle.resolver_doc.specs.inner.Known.{known_sets, known_modifiers}
use Rattle.resolver_doc.specs.inner.Pointers.{HoldsTexts}
use Rattle.resolver_doc.proofs.repeats.repeats_among.Given as goal

abbrev pub invariant-loop-item : goal.invariant-loop-item
invariant-loop-item l =
    (goal.iterator-loop-item).can_next l.item-iterator × (goal.iterator-loop-item).is_finite l.item-iterator
    × ((before : List (List ℕ)) × HoldsTexts l.names before
    × (with_breaks l.first (repeats (known_sets l.known) (known_modifiers l.known) before (items_view l.item-iterator))
    ≡ with_breaks l.fn.first (repeats (known_sets l.known) (known_modifiers l.known) [] (items_view l.fn.items))))
