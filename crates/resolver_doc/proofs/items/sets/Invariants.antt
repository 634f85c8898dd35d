-- With the sets that are still to come, all are listed and all breaks are taken in.
use Rattle.std.proofs.Common.{◌≡◌, ◌++◌, drop, map}
use Rattle.std.specs.List.{flat_map}
use Rattle.resolver_doc.specs.Break.{with_breaks}
use Rattle.resolver_doc.specs.Document.{set_of}
use Rattle.resolver_doc.specs.Form.{entries_at}
use Rattle.resolver_doc.specs.Naming.{set_breaks}
use Rattle.resolver_doc.specs.View.{sets_view}
use Rattle.resolver_doc.specs.inner.Known.{known_sets, entries_of_fields}
use Rattle.resolver_doc.proofs.items.sets.Given as goal

abbrev pub invariant-loop-field : goal.invariant-loop-field
invariant-loop-field l =
    (sets_view l.sets ++ map (set_of (known_sets l.known)) (entries_of_fields (drop l.field-index l.field-items)) ≡ map (set_of (known_sets l.known)) (entries_of_fields l.field-items))
    × (with_breaks l.first (flat_map (λ e. set_breaks (known_sets l.known) (entries_at e.value)) (entries_of_fields (drop l.field-index l.field-items)))
    ≡ with_breaks l.fn.first (flat_map (λ e. set_breaks (known_sets l.known) (entries_at e.value)) (entries_of_fields l.field-items)))
