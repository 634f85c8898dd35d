use Rattle.std.proofs.Common.{arith, rules}
use Rattle.dec_fix.proofs.Digits.{digit_range, value_after-more}
use Rattle.dec_fix.proofs.significand.exponent.Goals as goal

pub overflow_sub-c : goal.overflow_sub-c
overflow_sub-c c = (digit_range c.args.digits.now c.loop-c.c-index c.requires.digits (search rules)).0

pub loop-c-preserved : goal.loop-c-preserved
loop-c-preserved c = rw (value_after-more 0 c.args.digits.now c.loop-c.c-index (search rules)) (omega (arith, c.min-n.ensures, c.from.ensures, c.loop-c.invariant))
