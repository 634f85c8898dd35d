use Rattle.std.proofs.Common.{sym, ◌∙◌}
use Rattle.json_span.specs.PlainView.{plain_view, plain_items_view}
use Rattle.type_rules.specs.Forms.{each}
use Rattle.type_rules.proofs.Places.{first_left, none_left}
use Rattle.type_rules.proofs.Eaches.{nothing_behind, goes_on, stops, ends}
use Rattle.type_rules.proofs.parts.each_part.Goals as goal

pub loop-i-init : goal.loop-i-init
loop-i-init g c = rw c.before.new-parts.ensures (nothing_behind (each (g.P.Part.part_in c.args.legacy) 0 (plain_items_view c.args.items.now)))

pub loop-i-preserved : goal.loop-i-preserved
loop-i-preserved g c =
    let vs = plain_items_view c.args.items.now in
    let i = c.loop-i.i in
    let x = c.index-list-i.result in
    sym (goes_on (g.P.Part.part_in c.args.legacy) vs i (plain_view x) (first_left plain_view c.as_slice-list.result.now vs i c.as_slice-list.ensures x c.loop-i-test.true c.index-list-i.is) c.loop-i.parts _ c.in_ok-part.part c.in_ok-part.ensures.ok c.in_ok-push.ensures.ok)
    ∙ c.loop-i.invariant

pub returns-in_err-part-clause-broken : goal.returns-in_err-part-clause-broken
returns-in_err-part-clause-broken g c =
    let vs = plain_items_view c.args.items.now in
    let i = c.loop-i.i in
    let x = c.index-list-i.result in
    rw (← c.loop-i.invariant) (stops (g.P.Part.part_in c.args.legacy) vs i (plain_view x) (first_left plain_view c.as_slice-list.result.now vs i c.as_slice-list.ensures x c.loop-i-test.true c.index-list-i.is) c.loop-i.parts _ c.from_residual.result c.from_residual.ensures.1 c.in_err-part.ensures.broken)

pub returns-clause-ok : goal.returns-clause-ok
returns-clause-ok g c =
    sym c.loop-i.invariant ∙ ends (g.P.Part.part_in c.args.legacy) (plain_items_view c.args.items.now) c.loop-i.i c.loop-i.parts (none_left plain_view c.as_slice-list.result.now (plain_items_view c.args.items.now) c.loop-i.i c.as_slice-list.ensures c.loop-i-test.false)
