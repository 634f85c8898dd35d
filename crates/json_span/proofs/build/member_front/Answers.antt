use Rattle.std.proofs.lemmas.Result.{err_from_is_err_and}
use Rattle.grammar.specs.Grammar.{named, seq}
use Rattle.json_span.specs.Grammar.{string, ws}
use Rattle.json_span.specs.Predictive.{symbol}
use Rattle.json_span.proofs.Scans as scan
use Rattle.json_span.proofs.build.member_front.Goals as goal

pub returns-in_err-own-clause-stop : goal.returns-in_err-own-clause-stop
returns-in_err-own-clause-stop c =
    let p = err_from_is_err_and c.from_residual.result c.from_residual.ensures.1 in
    rw (p.1, p.2) (scan.halt_first c.args.text.now (named string) (seq ws (symbol 58)) c.args.at c.in_err-own.field-0.0 c.in_err-own.ensures.stop)

pub returns-in_err-value-clause-stop : goal.returns-in_err-value-clause-stop
returns-in_err-value-clause-stop c =
    let p = err_from_is_err_and c.from_residual-in_err-value.result c.from_residual-in_err-value.ensures.1 in
    rw (p.1, p.2) (scan.halt_second c.args.text.now (named string) (seq ws (symbol 58)) c.args.at c.in_ok-own.own.end c.in_err-value.field-0.0 c.in_ok-own.ensures.ok.reads c.in_err-value.ensures)
