use Rattle.std.proofs.Common.{◌≡◌, ◌++◌, take, drop}
use Rattle.dec_fix.specs.Reading.{digits_front, digits_rest}
use Rattle.dec_fix.proofs.reading.split_digits.Given as goal

abbrev pub invariant-loop-i : goal.invariant-loop-i
invariant-loop-i l = record {
  front : digits_front l.text ≡ take l.i l.text ++ digits_front (drop l.i l.text);
  rest : digits_rest l.text ≡ digits_rest (drop l.i l.text);
}
