use Rattle.std.proofs.Common.{◌≡◌, ◌/◌, ◌^◌, ◌++◌}
use Rattle.dec_fix.specs.Writing.{last_digits}
use Rattle.dec_fix.proofs.writing.put_last.Given as goal

abbrev pub invariant-loop : goal.invariant-loop
invariant-loop l = record {
  text : l.text ≡ last_digits l.counter l.n ++ l.fn.text;
  rest : l.left ≡ l.n / 10 ^ l.counter;
}
