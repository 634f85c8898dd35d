use Rattle.std.proofs.Common.{◌+◌, sym, ap, ◌∙◌, subst, arith}
use Rattle.std.specs.Option.{option_copied}
use Rattle.explain.proofs.WaysKnown.{Gone, gone_nowhere, gone_on, gone_to_end, gone_too_far}
use Rattle.explain.proofs.ways.Ways.end_of.Goals as goal

pub loop-init : goal.loop-init
loop-init c = λ hops k. subst (λ q. Gone hops 0 c.args.place.now q) (sym c.in_ok-at.ensures) (gone_nowhere hops c.args.place.now)

pub returns-in_default-clause-end : goal.returns-in_default-clause-end
returns-in_default-clause-end c = λ hops k.
    gone_to_end hops c.args.self.now c.loop.counter c.args.place.now c.loop.at k (c.loop.invariant hops k) (sym c.get.ensures.value ∙ ap option_copied c.in_default.is)

pub loop-preserved : goal.loop-preserved
loop-preserved c = λ hops k.
    let next = gone_on hops c.args.self.now c.loop.counter c.args.place.now c.loop.at c.in-Some.next.now k (c.loop.invariant hops k) (sym c.get.ensures.value ∙ ap option_copied c.in-Some.is) in
    subst (λ q. Gone hops (c.loop.counter + 1) c.args.place.now q) (sym c.in_ok-at-2.ensures) next

pub returns-clause-ring : goal.returns-clause-ring
returns-clause-ring c = λ hops k r way. gone_too_far hops c.args.self.now c.loop.counter c.args.place.now c.loop.at r k (c.loop.invariant hops k) (omega (arith, c.loop-test.false, c.len-most.ensures.len)) way
