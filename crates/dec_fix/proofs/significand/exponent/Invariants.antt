use Rattle.std.proofs.Common.{◌≡◌, take, min}
use Rattle.dec_fix.specs.Spelling.{digits_number}
use Rattle.dec_fix.proofs.significand.exponent.Given as goal

abbrev pub invariant-loop-c : goal.invariant-loop-c
invariant-loop-c l = l.n ≡ min (digits_number (take l.c-index l.digits)) 1180591620717411303424
