use Rattle.std.proofs.Common.{drop, true, false, refl, sym, Err}
use Rattle.std.proofs.lemmas.Result.{err_from_is_err_and}
use Rattle.grammar.specs.Grammar.{seq}
use Rattle.grammar.specs.Predict.{first}
use Rattle.json_span.specs.Grammar.{hex, not_d, letter_d, behind_d}
use Rattle.json_span.specs.Predictive.{ahead}
use Rattle.json_span.proofs.Scans as scan
use Rattle.json_span.proofs.string.unicode_end.Goals as goal

pub returns-then-has : goal.returns-then-has
returns-then-has c = scan.scan_left c.args.text.now (seq not_d (seq hex (seq hex hex))) (seq letter_d behind_d) c.args.at c.row_end.result refl
    (scan.padded (first ahead not_d) (drop c.args.at c.args.text.now) true (sym c.if-has.ensures.test)) c.row_end.ensures

pub returns-in_err-second : goal.returns-in_err-second
returns-in_err-second c = let p = err_from_is_err_and c.from_residual.result c.from_residual.ensures.1 in rw (p.1, p.2)
    (scan.scan_right c.args.text.now (seq not_d (seq hex (seq hex hex))) (seq letter_d behind_d) c.args.at (Err c.in_err-second.field-0.0) refl
    (scan.padded (first ahead not_d) (drop c.args.at c.args.text.now) false (sym c.if-has.ensures.test))
    (scan.halt_first c.args.text.now letter_d behind_d c.args.at c.in_err-second.field-0.0 c.in_err-second.ensures))

pub returns : goal.returns
returns c = scan.scan_right c.args.text.now (seq not_d (seq hex (seq hex hex))) (seq letter_d behind_d) c.args.at c.behind_d_end.result refl
    (scan.padded (first ahead not_d) (drop c.args.at c.args.text.now) false (sym c.if-has.ensures.test))
    (scan.scan_then c.args.text.now letter_d behind_d c.args.at c.in_ok-second.second c.behind_d_end.result c.in_ok-second.ensures c.behind_d_end.ensures)
