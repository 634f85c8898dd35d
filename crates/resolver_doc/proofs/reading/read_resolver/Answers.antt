use Rattle.std.proofs.Common.{◌≡◌, sym, ap, ◌∙◌, subst}
use Rattle.std.proofs.lemmas.Result.{err_from_is_err_and}
use Rattle.json_span.specs.View.{ref_view}
use Rattle.resolver_doc.specs.Answer.{IsUnbroken, IsPlanFault}
use Rattle.resolver_doc.specs.Document.{resolver_of}
use Rattle.resolver_doc.specs.Rings.{HasNoRingOfSets}
use Rattle.resolver_doc.specs.View.{sets_view, order_view}
use Rattle.resolver_doc.specs.inner.Known.{known_sets}
use Rattle.resolver_doc.proofs.PlanFaults.{phase_fault, no_phase_broken, ring_fault, listed_sets, listed_items, listed_choices}
use Rattle.resolver_doc.proofs.reading.read_resolver.Goals as goal

pub returns-in-Some-clause-broken : goal.returns-in-Some-clause-broken
returns-in-Some-clause-broken c =
    let root = ref_view c.as_ref-root.result in
    subst (λ n. IsPlanFault n c.broken.result) c.as_ref-root.ensures
    (subst (IsPlanFault root) (sym c.broken.ensures)
    (phase_fault root c.in_ok-form.form c.in_ok-said.said.first c.in-Some.found c.in_ok-form.ensures c.in_ok-said.ensures.first (sym c.or.ensures ∙ c.in-Some.is)))

pub check_rings-requires-clause-right : goal.check_rings-requires-clause-right
check_rings-requires-clause-right c =
    listed_sets (ref_view c.as_ref-root.result) (sets_view c.as_slice.result.now) (ap sets_view c.as_slice.ensures ∙ c.in_ok-said.ensures.sets)

pub returns-in_err-check_rings-clause-broken : goal.returns-in_err-check_rings-clause-broken
returns-in_err-check_rings-clause-broken c =
    let root = ref_view c.as_ref-root.result in
    let unbroken = no_phase_broken root c.in_ok-form.form c.in_ok-said.said.first c.in_ok-form.ensures c.in_ok-said.ensures.first (sym c.or.ensures ∙ c.in_default.is) in
    let p = err_from_is_err_and c.from_residual-in_err-check_rings.result c.from_residual-in_err-check_rings.ensures.1 in
    let e = c.in_err-check_rings.field-0.0 in
    let listed : sets_view c.as_slice.result.now ≡ (resolver_of root).sets = ap sets_view c.as_slice.ensures ∙ c.in_ok-said.ensures.sets in
    rw (p.1, p.2) (subst (λ n. IsPlanFault n e) c.as_ref-root.ensures
    (ring_fault root (known_sets c.in_ok-said.said.known) (sets_view c.as_slice.result.now) e unbroken.0 unbroken.1 c.in_ok-said.ensures.known listed c.in_err-check_rings.ensures.ring))

pub invariant_of-result : goal.invariant_of-result
invariant_of-result c =
    let root = ref_view c.as_ref-root.result in
    let unbroken = no_phase_broken root c.in_ok-form.form c.in_ok-said.said.first c.in_ok-form.ensures c.in_ok-said.ensures.first (sym c.or.ensures ∙ c.in_default.is) in
    record {
      sets_right = listed_sets root (sets_view c.in_ok-said.said.sets) c.in_ok-said.ensures.sets;
      order_right = listed_items root (sets_view c.in_ok-said.said.sets) (order_view c.in_ok-said.said.order) c.in_ok-said.ensures.sets c.in_ok-said.ensures.order;
      choices = listed_choices root (order_view c.in_ok-said.said.order) c.in_ok-said.ensures.order unbroken.0;
      no_ring = subst (λ sets. HasNoRingOfSets (sets_view sets)) c.as_slice.ensures c.in_ok-check_rings.ensures.ok;
    }

pub returns-clause-sound : goal.returns-clause-sound
returns-clause-sound c =
    let root = ref_view c.as_ref-root.result in
    let unbroken = no_phase_broken root c.in_ok-form.form c.in_ok-said.said.first c.in_ok-form.ensures c.in_ok-said.ensures.first (sym c.or.ensures ∙ c.in_default.is) in
    let listed : sets_view c.as_slice.result.now ≡ (resolver_of root).sets = ap sets_view c.as_slice.ensures ∙ c.in_ok-said.ensures.sets in
    subst IsUnbroken c.as_ref-root.ensures (record {
      forms = unbroken.0;
      names = unbroken.1;
      rings = subst HasNoRingOfSets listed c.in_ok-check_rings.ensures.ok;
    })
