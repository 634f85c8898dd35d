-- With the members that are still to come, all contexts are listed and all breaks are taken in.
use Rattle.std.proofs.Common.{◌≡◌, ◌++◌, map}
use Rattle.std.specs.List.{flat_map}
use Rattle.json_span.specs.View.{ref_view, fields_view}
use Rattle.resolver_doc.specs.Break.{with_breaks}
use Rattle.resolver_doc.specs.Document.{context_of}
use Rattle.resolver_doc.specs.Form.{unreserved, context_entries, entries_at}
use Rattle.resolver_doc.specs.Naming.{sources_breaks, modifier_breaks}
use Rattle.resolver_doc.specs.View.{sets_view}
use Rattle.resolver_doc.specs.inner.Known.{known_sets}
use Rattle.resolver_doc.proofs.items.contexts.Given as goal

abbrev pub invariant-loop-field : goal.invariant-loop-field
invariant-loop-field l =
    (goal.iterator-loop-field).can_next l.field-iterator × (goal.iterator-loop-field).is_finite l.field-iterator
    × (sets_view l.contexts ++ map (context_of (known_sets l.known)) (unreserved (fields_view l.field-iterator)) ≡ map (context_of (known_sets l.known)) (unreserved (context_entries (entries_at (ref_view l.fn.modifier)))))
    × (with_breaks l.first (flat_map (λ e. sources_breaks (known_sets l.known) e.value) (unreserved (fields_view l.field-iterator))) ≡ with_breaks l.fn.first (modifier_breaks (known_sets l.known) (entries_at (ref_view l.fn.modifier))))
