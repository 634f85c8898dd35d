use Rattle.std.proofs.Common.{sym, subst}
use Rattle.std.proofs.lemmas.Result.{err_from_is_err_and}
use Rattle.json_span.specs.Grammar.{ws}
use Rattle.json_span.specs.Predictive.{more_of}
use Rattle.json_span.specs.inner.Alternatives.{bracket_of}
use Rattle.json_span.specs.inner.Scan.{Halts}
use Rattle.json_span.proofs.Scans as scan
use Rattle.json_span.proofs.Skips as skip
use Rattle.json_span.proofs.build.next_of.Goals as goal

pub returns-in_err-end-clause-stop : goal.returns-in_err-end-clause-stop
returns-in_err-end-clause-stop c =
    let T = c.args.text.now in
    let stop = c.in_err-end.field-0.0 in
    let p = err_from_is_err_and c.from_residual.result c.from_residual.ensures.1 in
    rw (p.1, p.2) (scan.halt_second T ws (more_of (bracket_of c.args.bracket)) c.args.at c.blanks_end-behind.result stop c.blanks_end-behind.ensures
    (skip.not_closed T (bracket_of c.args.bracket) c.blanks_end-behind.result stop (sym c.if-has.ensures.test) (subst (λ z. Halts z T c.blanks_end-behind.result stop) c.close.ensures c.in_err-end.ensures)))
