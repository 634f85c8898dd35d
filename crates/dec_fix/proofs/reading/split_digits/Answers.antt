use Rattle.std.proofs.Common.{◌≡◌, arith}
use Rattle.std.proofs.lemmas.Grind.{common_steps}
use Rattle.dec_fix.specs.Reading.{digits_front}
use Rattle.dec_fix.proofs.Digits.{digits_front-digits}
use Rattle.dec_fix.proofs.reading.split_digits.Goals as goal

pub returns-then-not-is_ascii_digit-clause-are : goal.returns-then-not-is_ascii_digit-clause-are
returns-then-not-is_ascii_digit-clause-are c =
    let e : c.split_at.result.0.now ≡ digits_front c.args.text.now = grind (arith, common_steps) in rw e (digits_front-digits c.args.text.now)

pub returns-clause-are : goal.returns-clause-are
returns-clause-are c =
    let e : c.split_at-2.result.0.now ≡ digits_front c.args.text.now = grind (arith, common_steps) in rw e (digits_front-digits c.args.text.now)
