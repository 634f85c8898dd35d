use Rattle.std.proofs.Common.{◌++◌, arith, length}
use Rattle.dec_fix.specs.inner.Significand.{IsSignificand}
use Rattle.dec_fix.specs.Spelling.{digits_number}
use Rattle.dec_fix.specs.declared.significand.TheConstants.{FAR}
use Rattle.dec_fix.proofs.Digits.{value_after-append}
use Rattle.dec_fix.proofs.Placed.{kept_start, kept_last, whole_up, whole_down}
use Rattle.dec_fix.proofs.reading.from_parts.Goals as goal

pub placed-requires-clause-last : goal.placed-requires-clause-last
placed-requires-clause-last c = kept_last _ _ _ (c.with_digits-kept.ensures.holds _ (c.with_digits.ensures.holds 0 kept_start))

pub placed-requires-else-parts-clause-last : goal.placed-requires-else-parts-clause-last
placed-requires-else-parts-clause-last c = kept_last _ _ _ (c.with_digits-kept.ensures.holds _ (c.with_digits.ensures.holds 0 kept_start))

pub returns-then-parts : goal.returns-then-parts
returns-then-parts c =
    let h : IsSignificand c.with_digits-kept.result.size c.with_digits-kept.result.zeros (digits_number (c.args.parts.whole.now ++ c.args.parts.fraction.now)) =
    rw (value_after-append 0 c.args.parts.whole.now c.args.parts.fraction.now) (c.with_digits-kept.ensures.holds _ (c.with_digits.ensures.holds 0 kept_start)) in
    rw c.if-parts.true
    (whole_down c.args.parts.negative _ _ _ _ (digits_number c.args.parts.exponent.now) FAR _ h
    (λ size e last. rw (← c.exponent-power.ensures) (c.placed.ensures size e last)) (omega arith))

pub returns-else-parts : goal.returns-else-parts
returns-else-parts c =
    let h : IsSignificand c.with_digits-kept.result.size c.with_digits-kept.result.zeros (digits_number (c.args.parts.whole.now ++ c.args.parts.fraction.now)) =
    rw (value_after-append 0 c.args.parts.whole.now c.args.parts.fraction.now) (c.with_digits-kept.ensures.holds _ (c.with_digits.ensures.holds 0 kept_start)) in
    rw c.if-parts.false
    (whole_up c.args.parts.negative c.with_digits-kept.result.size c.with_digits-kept.result.zeros (digits_number (c.args.parts.whole.now ++ c.args.parts.fraction.now)) (length c.args.parts.fraction.now) (digits_number c.args.parts.exponent.now) FAR _ h
    (λ size e last. rw (← c.exponent-power.ensures) (c.placed-else-parts.ensures size e last)) (omega arith))
