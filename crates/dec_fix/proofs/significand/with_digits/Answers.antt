use Rattle.std.proofs.Common.{arith, rules}
use Rattle.dec_fix.proofs.Digits.{digit_range, value_after-more}
use Rattle.dec_fix.proofs.significand.with_digits.Goals as goal

pub overflow_sub-c : goal.overflow_sub-c
overflow_sub-c c = (digit_range c.args.digits.now c.loop-c.c-index c.requires.digits (search rules)).0

pub with_digit-kept-requires-clause-digit : goal.with_digit-kept-requires-clause-digit
with_digit-kept-requires-clause-digit c = omega (arith, (digit_range c.args.digits.now c.loop-c.c-index c.requires.digits (search rules)).1)

pub loop-c-preserved : goal.loop-c-preserved
loop-c-preserved c = record {
  limit = search rules;
  zeros = omega arith;
  holds = λ n h. rw (value_after-more n c.args.digits.now c.loop-c.c-index (search rules), ← c.from.ensures) (c.with_digit-kept.ensures.holds _ (c.loop-c.invariant.holds n h));
}
