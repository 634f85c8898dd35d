use Rattle.std.proofs.lemmas.Result.{err_from_is_err_and}
use Rattle.json_span.specs.Grammar.{ws, one}
use Rattle.json_span.specs.Predictive.{symbol}
use Rattle.json_span.proofs.Scans as scan
use Rattle.json_span.proofs.skip.colon_end.Goals as goal

pub returns-in_err-end : goal.returns-in_err-end
returns-in_err-end c = let p = err_from_is_err_and c.from_residual.result c.from_residual.ensures.1 in rw (p.1, p.2)
    (scan.halt_second c.args.text.now ws (symbol 58) c.args.at c.blanks_end-colon.result c.in_err-end.field-0.0 c.blanks_end-colon.ensures
    (scan.halt_first c.args.text.now (one 58) ws c.blanks_end-colon.result c.in_err-end.field-0.0 c.in_err-end.ensures))

pub returns : goal.returns
returns c = scan.reach_both c.args.text.now ws (symbol 58) c.args.at c.blanks_end-colon.result c.blanks_end.result c.blanks_end-colon.ensures
    (scan.reach_both c.args.text.now (one 58) ws c.blanks_end-colon.result c.in_ok-end.end c.blanks_end.result c.in_ok-end.ensures c.blanks_end.ensures)
