use Rattle.std.proofs.Common.{◌≡◌, ◌+◌, ℕ, ◌<◌, length, drop, true, false, sym, List, Result, Ok, Err}
use Rattle.grammar.specs.Grammar.{empty, within}
use Rattle.grammar.specs.Predict.{begins}
use Rattle.json_span.specs.Grammar.{digits, frac, optional, one}
use Rattle.json_span.specs.inner.Scan.{Scans}
use Rattle.json_span.specs.declared.bytes.Class.TheVariants.{One}
use Rattle.json_span.proofs.Scans as scan
use Rattle.json_span.proofs.Classes as row
use Rattle.json_span.proofs.scan.fraction_end.Goals as goal

of_digits : (text : List ℕ) (at : ℕ) (r : Result ℕ ℕ) → at < length text → begins (within 46 46) (drop at text) ≡ true → Scans digits text (at + 1) r → Scans (optional frac) text at r
of_digits text at (Ok end) h e x = scan.reach_some text frac at end (scan.reach_both text (one 46) digits at (at + 1) end (row.reach_class text (One 46) at h e) x)
of_digits text at (Err stop) h e x = scan.halt_left text frac empty at stop (scan.padded (within 46 46) (drop at text) true e)
    (scan.halt_second text (one 46) digits at (at + 1) stop (row.reach_class text (One 46) at h e) x)

pub returns-then-has : goal.returns-then-has
returns-then-has c = of_digits c.args.text.now c.args.at c.some_digits_end.result c.if-has.ensures.bound (sym c.if-has.ensures.test) c.some_digits_end.ensures

pub returns-else-has : goal.returns-else-has
returns-else-has c = scan.reach_empty c.args.text.now frac c.args.at c.requires (scan.padded (within 46 46) (drop c.args.at c.args.text.now) false (sym c.if-has.ensures.test))
