use Rattle.std.proofs.Common.{sym, ◌∙◌, subst}
use Rattle.explain.specs.declared.ways.Ways.{Ways}
use Rattle.explain.proofs.WaysKnown.{Put, knows_further, still_ahead, not_yet, differ_so, no_longer}
use Rattle.explain.proofs.ways.Ways.remember.Goals as goal

pub returns-in_default : goal.returns-in_default
returns-in_default c = λ hops k way.
    let so = c.loop.invariant hops k way in
    let differ = differ_so c.loop.from c.args.end.now c.eq.result c.eq.ensures c.if-eq.false in
    absurd (not_yet hops c.loop.self c.loop.from c.args.end.now so.0 so.1 differ (sym c.in_ok-next.ensures.old ∙ c.in_default.is))

pub loop-preserved : goal.loop-preserved
loop-preserved c = λ hops k way.
    let so = c.loop.invariant hops k way in
    let old = c.loop.self in
    let new : Ways = record { reached = c.insert.new.self } in
    let fine = c.in_ok-next.ensures in
    let was = sym fine.old ∙ c.in-Some.is in
    let put = subst (λ q. Put old new c.loop.from q) c.in_ok-known.ensures fine.updates.0 in (
      knows_further hops old new c.loop.from c.in-Some.next c.args.end.now so.0 was so.1 put (no_longer _ _ c.in_ok-next.field-0 c.in-Some.next fine.len c.in-Some.is),
      still_ahead hops old c.loop.from c.in-Some.next c.args.end.now so.0 so.1 was,
    )

pub returns : goal.returns
returns c = λ hops k way. (c.loop.invariant hops k way).0
