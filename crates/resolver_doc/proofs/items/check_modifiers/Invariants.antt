-- With the modifiers that are still to come, all breaks are taken in.
use Rattle.std.proofs.Common.{◌≡◌, drop}
use Rattle.std.specs.List.{flat_map}
use Rattle.resolver_doc.specs.Break.{with_breaks}
use Rattle.resolver_doc.specs.Form.{entries_at}
use Rattle.resolver_doc.specs.Naming.{modifier_breaks}
use Rattle.resolver_doc.specs.inner.Known.{known_sets, entries_of_fields}
use Rattle.resolver_doc.proofs.items.check_modifiers.Given as goal

abbrev pub invariant-loop-field : goal.invariant-loop-field
invariant-loop-field l =
    with_breaks l.first (flat_map (λ e. modifier_breaks (known_sets l.known) (entries_at e.value)) (entries_of_fields (drop l.field-index l.field-items)))
    ≡ with_breaks l.fn.first (flat_map (λ e. modifier_breaks (known_sets l.known) (entries_at e.value)) (entries_of_fields l.field-items))
