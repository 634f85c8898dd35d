use Rattle.std.proofs.Common.{◌≡◌, arith}
use Rattle.dec_fix.proofs.Scaling.{holds_zero, holds_digit}
use Rattle.dec_fix.proofs.significand.with_digit.Goals as goal

pub returns-then-digit-ne0-clause-holds : goal.returns-then-digit-ne0-clause-holds
returns-then-digit-ne0-clause-holds c = λ n h. rw (c.min.ensures, c.scaled-size.ensures) (holds_digit _ _ n _ c.requires.digit (omega arith) h)

pub returns-else-digit-ne0-clause-holds : goal.returns-else-digit-ne0-clause-holds
returns-else-digit-ne0-clause-holds c = λ n h. let e : c.args.digit ≡ 0 = omega arith in rw e (holds_zero _ _ n h)
