use Rattle.std.proofs.Common.{Some, rules, sym, ap, ◌∙◌}
use Rattle.json_span.specs.inner.NameOrder.{again_in}
use Rattle.json_span.proofs.NameOrder.{again_none, again_within, again_told}
use Rattle.json_span.proofs.names.flaw_in_order.Goals as goal

pub offset_bounds-names-i : goal.offset_bounds-names-i
offset_bounds-names-i c =
    let (es, are) = c.requires in
    let lt = again_within c.args.text.now c.args.names.now es c.in_ok-sorted.sorted.items c.in-Some.i are (c.in_ok-sorted.ensures es are) (ap again_in (sym c.deref.ensures.value) ∙ sym c.in-Some.ensures) in
    search (rules, lt)

pub bounds-names-i : goal.bounds-names-i
bounds-names-i c =
    let (es, are) = c.requires in
    again_within c.args.text.now c.args.names.now es c.in_ok-sorted.sorted.items c.in-Some.i are (c.in_ok-sorted.ensures es are) (ap again_in (sym c.deref.ensures.value) ∙ sym c.in-Some.ensures)

pub returns-in-Some : goal.returns-in-Some
returns-in-Some c = λ es are.
    ap Some c.repeated.ensures ∙ again_told c.args.text.now c.args.names.now es c.in_ok-sorted.sorted.items c.in-Some.i are (c.in_ok-sorted.ensures es are) (ap again_in (sym c.deref.ensures.value) ∙ sym c.in-Some.ensures)

pub returns : goal.returns
returns c = λ es are.
    sym (again_none es c.in_ok-sorted.sorted.items (c.in_ok-sorted.ensures es are) (ap again_in (sym c.deref.ensures.value) ∙ sym (c.first_again.ensures) ∙ c.in-None.is))
