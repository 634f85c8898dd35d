use Rattle.std.proofs.Common.{subst}
use Rattle.json_span.specs.View.{field_view}
use Rattle.resolver_doc.specs.inner.Known.{entries_of_fields}
use Rattle.resolver_doc.specs.inner.Pointers.{Completes}
use Rattle.resolver_doc.proofs.NumbersByTexts.{completes_first, completes_next, completes_all, next_fields, no_fields}
use Rattle.resolver_doc.proofs.members.numbers.Goals as goal

pub loop-number-init : goal.loop-number-init
loop-number-init c = completes_first c.args.name.now c.new-numbers.result (entries_of_fields c.args.members.now) c.new-numbers.ensures

pub loop-number-preserved : goal.loop-number-preserved
loop-number-preserved c =
    let members = c.args.members.now in
    let n = c.loop-number.number in
    let x = c.index-members-number.result in
    let next = next_fields members n x c.loop-number-test.true c.index-members-number.is in
    completes_next c.args.name.now c.loop-number.numbers c.add_number.new.numbers n (field_view x) _ (entries_of_fields members)
    (subst (λ es. Completes c.args.name.now c.loop-number.numbers n es (entries_of_fields members)) next c.loop-number.invariant) c.in_ok-add_number.ensures

pub returns : goal.returns
returns c = λ text.
    let members = c.args.members.now in
    let n = c.loop-number.number in
    completes_all c.args.name.now c.loop-number.numbers n (entries_of_fields members) text
    (subst (λ es. Completes c.args.name.now c.loop-number.numbers n es (entries_of_fields members)) (no_fields members n c.loop-number-test.false) c.loop-number.invariant)
