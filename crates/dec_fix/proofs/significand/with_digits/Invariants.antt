use Rattle.std.proofs.Common.{ℕ, ◌+◌, ◌^◌, ◌≤◌, take}
use Rattle.dec_fix.specs.Spelling.{digits_number_after}
use Rattle.dec_fix.specs.inner.Significand.{IsSignificand}
use Rattle.dec_fix.proofs.significand.with_digits.Given as goal

abbrev pub invariant-loop-c : goal.invariant-loop-c
invariant-loop-c l = record {
  limit : l.kept.size ≤ 10 ^ 30;
  zeros : l.kept.zeros ≤ l.fn.so_far.zeros + l.c-index;
  holds : (n : ℕ) → IsSignificand l.fn.so_far.size l.fn.so_far.zeros n → IsSignificand l.kept.size l.kept.zeros (digits_number_after n (take l.c-index l.digits));
}
