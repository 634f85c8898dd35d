use Rattle.std.proofs.lemmas.Result.{err_from_is_err_and}
use Rattle.std.proofs.Common.{arith}
use Rattle.grammar.specs.Grammar.{seq, named}
use Rattle.grammar.specs.Predict.{on_empty}
use Rattle.json_span.specs.Grammar.{string, ws}
use Rattle.json_span.specs.Predictive.{symbol}
use Rattle.json_span.proofs.Scans as scan
use Rattle.json_span.proofs.skip.before_end.Goals as goal

pub returns-in_err-name-in-Curly : goal.returns-in_err-name-in-Curly
returns-in_err-name-in-Curly c = let p = err_from_is_err_and c.from_residual.result c.from_residual.ensures.1 in rw (p.1, p.2, c.in-Curly.is)
    (scan.halt_first c.args.text.now (named string) (seq ws (symbol 58)) c.args.at c.in_err-name-in-Curly.field-0.0 c.in_err-name-in-Curly.ensures)

pub returns-in-Square : goal.returns-in-Square
returns-in-Square c = rw c.in-Square.is (record { forward = omega arith; within_text = c.requires; steers = on_empty })

pub returns-in_ok-name-in-Curly : goal.returns-in_ok-name-in-Curly
returns-in_ok-name-in-Curly c = rw c.in-Curly.is
    (scan.scan_then c.args.text.now (named string) (seq ws (symbol 58)) c.args.at c.in_ok-name-in-Curly.name c.colon_end.result c.in_ok-name-in-Curly.ensures c.colon_end.ensures)
