use Rattle.std.proofs.Common.{sym, arith}
use Rattle.json_span.proofs.Skips as skip
use Rattle.json_span.proofs.skip.open_row.Goals as goal

pub loop-brackets-init : goal.loop-brackets-init
loop-brackets-init c = record { forward = omega arith; within = c.if-not-has.ensures.bound; sees = sym c.if-not-has.ensures.test; leads = λ res x. x }

pub loop-brackets-preserved : goal.loop-brackets-preserved
loop-brackets-preserved c = record {
  forward = omega arith;
  within = c.loop-brackets-test.ensures.bound;
  sees = sym c.loop-brackets-test.ensures.test;
  leads = λ res x. c.loop-brackets.invariant.leads res (skip.open_next c.args.text.now c.loop-brackets.brackets.items c.loop-brackets.at c.loop-brackets.invariant.within c.loop-brackets.invariant.sees
      c.loop-brackets-test.ensures.bound (sym c.loop-brackets-test.ensures.test) c.push.new.self.items c.in_ok-push.ensures.items res x);
}
