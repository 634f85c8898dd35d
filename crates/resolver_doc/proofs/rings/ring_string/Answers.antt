use Rattle.std.proofs.Common.{◌≡◌, IfOk, Some, None, option_map, subst}
use Rattle.json_span.specs.View.{ref_view}
use Rattle.resolver_doc.specs.inner.Known.{known_sets}
use Rattle.resolver_doc.proofs.SetRings.{ring_string_at}
use Rattle.resolver_doc.proofs.rings.ring_string.Goals as goal

pub returns-in-Some : goal.returns-in-Some
returns-in-Some c =
    let e = ring_string_at (known_sets c.args.known.now) c.args.ring.now c.in-Some-Some.first.now c.in-Some-Some.last.now (Some (ref_view c.in-Some.sources)) c.in-Some-Some.ensures.value c.in-Some-Some.ensures'.value c.in-Some.ensures in
    subst (λ x. IfOk c.naming_string.result (λ string. option_map ref_view string ≡ x)) e c.naming_string.ensures

pub returns-in-None : goal.returns-in-None
returns-in-None c =
    ring_string_at (known_sets c.args.known.now) c.args.ring.now c.in-Some-Some.first.now c.in-Some-Some.last.now None c.in-Some-Some.ensures.value c.in-Some-Some.ensures'.value c.in-None.ensures
