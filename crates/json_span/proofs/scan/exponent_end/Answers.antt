use Rattle.std.proofs.Common.{◌≡◌, ◌+◌, ℕ, ◌<◌, length, drop, true, false, sym, List, Result, Ok, Err}
use Rattle.grammar.specs.Grammar.{seq, empty}
use Rattle.grammar.specs.Predict.{first, begins}
use Rattle.json_span.specs.Grammar.{digits, exp, optional, either_byte}
use Rattle.json_span.specs.Predictive.{ahead}
use Rattle.json_span.specs.inner.Scan.{ReadsTo, Scans}
use Rattle.json_span.specs.declared.bytes.Class.TheVariants.{Exponent}
use Rattle.json_span.proofs.Scans as scan
use Rattle.json_span.proofs.Classes as row
use Rattle.json_span.proofs.scan.exponent_end.Goals as goal

of_digits : (text : List ℕ) (at sign : ℕ) (r : Result ℕ ℕ) → at < length text → begins (first ahead (either_byte 69 101)) (drop at text) ≡ true → ReadsTo (optional (either_byte 43 45)) text (at + 1) sign → Scans digits text sign r → Scans (optional exp) text at r
of_digits text at sign (Ok end) h e s x = scan.reach_some text exp at end (scan.reach_both text (either_byte 69 101) (seq (optional (either_byte 43 45)) digits) at (at + 1) end (row.reach_class text Exponent at h e)
    (scan.reach_both text (optional (either_byte 43 45)) digits (at + 1) sign end s x))
of_digits text at sign (Err stop) h e s x = scan.halt_left text exp empty at stop (scan.padded (first ahead (either_byte 69 101)) (drop at text) true e)
    (scan.halt_second text (either_byte 69 101) (seq (optional (either_byte 43 45)) digits) at (at + 1) stop (row.reach_class text Exponent at h e)
    (scan.halt_second text (optional (either_byte 43 45)) digits (at + 1) sign stop s x))

pub returns-then-has : goal.returns-then-has
returns-then-has c = of_digits c.args.text.now c.args.at c.sign_end.result c.some_digits_end.result c.if-has.ensures.bound (sym c.if-has.ensures.test) c.sign_end.ensures c.some_digits_end.ensures

pub returns-else-has : goal.returns-else-has
returns-else-has c = scan.reach_empty c.args.text.now exp c.args.at c.requires (scan.padded (first ahead (either_byte 69 101)) (drop c.args.at c.args.text.now) false (sym c.if-has.ensures.test))
