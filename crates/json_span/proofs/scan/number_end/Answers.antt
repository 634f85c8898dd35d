use Rattle.std.proofs.Common.{ℕ, List, Result, Ok, Err}
use Rattle.std.proofs.lemmas.Result.{err_from_is_err_and}
use Rattle.grammar.specs.Grammar.{named, seq}
use Rattle.json_span.specs.Grammar.{int, frac, exp, optional, one, number}
use Rattle.json_span.specs.inner.Scan.{ReadsTo, Scans}
use Rattle.json_span.proofs.Scans as scan
use Rattle.json_span.proofs.scan.number_end.Goals as goal

last : (text : List ℕ) (at a b : ℕ) (r : Result ℕ ℕ) → ReadsTo (optional (one 45)) text at a → ReadsTo int text a b → (e : ℕ) → ReadsTo (optional frac) text b e → Scans (optional exp) text e r → Scans (named number) text at r
last text at a b (Ok end) m w e f x = scan.reach_name text number at end (scan.reach_both text (optional (one 45)) (seq int (seq (optional frac) (optional exp))) at a end m
    (scan.reach_both text int (seq (optional frac) (optional exp)) a b end w (scan.reach_both text (optional frac) (optional exp) b e end f x)))
last text at a b (Err stop) m w e f x = scan.halt_name text number at stop (scan.halt_second text (optional (one 45)) (seq int (seq (optional frac) (optional exp))) at a stop m
    (scan.halt_second text int (seq (optional frac) (optional exp)) a b stop w (scan.halt_second text (optional frac) (optional exp) b e stop f x)))

pub returns-in_err-fraction : goal.returns-in_err-fraction
returns-in_err-fraction c = let p = err_from_is_err_and c.from_residual.result c.from_residual.ensures.1 in rw (p.1, p.2)
    (scan.halt_name c.args.text.now number c.args.at c.in_err-fraction.field-0.0 (scan.halt_second c.args.text.now (optional (one 45)) (seq int (seq (optional frac) (optional exp))) c.args.at c.minus_end-whole.result c.in_err-fraction.field-0.0 c.minus_end-whole.ensures
    (scan.halt_first c.args.text.now int (seq (optional frac) (optional exp)) c.minus_end-whole.result c.in_err-fraction.field-0.0 c.in_err-fraction.ensures)))

pub returns-in_err-exponent : goal.returns-in_err-exponent
returns-in_err-exponent c = let p = err_from_is_err_and c.from_residual-in_err-exponent.result c.from_residual-in_err-exponent.ensures.1 in rw (p.1, p.2)
    (scan.halt_name c.args.text.now number c.args.at c.in_err-exponent.field-0.0 (scan.halt_second c.args.text.now (optional (one 45)) (seq int (seq (optional frac) (optional exp))) c.args.at c.minus_end-whole.result c.in_err-exponent.field-0.0 c.minus_end-whole.ensures
    (scan.halt_second c.args.text.now int (seq (optional frac) (optional exp)) c.minus_end-whole.result c.in_ok-fraction.fraction c.in_err-exponent.field-0.0 c.in_ok-fraction.ensures
    (scan.halt_first c.args.text.now (optional frac) (optional exp) c.in_ok-fraction.fraction c.in_err-exponent.field-0.0 c.in_err-exponent.ensures))))

pub returns : goal.returns
returns c = last c.args.text.now c.args.at c.minus_end-whole.result c.in_ok-fraction.fraction c.exponent_end.result c.minus_end-whole.ensures c.in_ok-fraction.ensures c.in_ok-exponent.exponent c.in_ok-exponent.ensures c.exponent_end.ensures
