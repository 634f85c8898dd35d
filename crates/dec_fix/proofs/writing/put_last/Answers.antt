use Rattle.std.proofs.Common.{arith, ap, length, length-append, refl}
use Rattle.dec_fix.specs.Writing.{last_digits}
use Rattle.dec_fix.proofs.LastDigits.{length-last_digits, last_digits-more, tenth}
use Rattle.dec_fix.proofs.writing.put_last.Goals as goal

pub put-requires : goal.put-requires
put-requires c = omega (arith, ap length c.loop.invariant.text, length-append (last_digits c.loop.counter c.args.n) c.args.text.now, length-last_digits c.loop.counter c.args.n)

pub loop-preserved : goal.loop-preserved
loop-preserved c = record {
  text = rw (last_digits-more c.loop.counter c.args.n) (rw (c.put.ensures, c.loop.invariant.text, c.without_last-rest.ensures.last, c.loop.invariant.rest) refl);
  rest = rw (c.without_last-rest.ensures.rest, c.loop.invariant.rest) (tenth c.args.n c.loop.counter);
}

pub returns-clause-length : goal.returns-clause-length
returns-clause-length c = omega (arith, ap length c.loop.invariant.text, length-append (last_digits c.loop.counter c.args.n) c.args.text.now, length-last_digits c.loop.counter c.args.n)
