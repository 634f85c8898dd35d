use Rattle.std.proofs.Common.{refl, Ok, Err}
use Rattle.std.proofs.lemmas.Result.{err_from_is_err_and}
use Rattle.grammar.specs.Grammar.{named}
use Rattle.json_span.specs.Grammar.{value}
use Rattle.json_span.specs.inner.Skipping.{closing_of}
use Rattle.json_span.specs.declared.alternative.Alternative.TheVariants.{Scalar}
use Rattle.json_span.proofs.Scans as scan
use Rattle.json_span.proofs.AlternativesRead.{value_scan, no_value}
use Rattle.json_span.proofs.Skips as skip
use Rattle.json_span.proofs.skip.begin.Goals as goal

pub returns-in_err-end-in-Some-Scalar-clause-stop : goal.returns-in_err-end-in-Some-Scalar-clause-stop
returns-in_err-end-in-Some-Scalar-clause-stop c =
    let T = c.args.text.now in
    let p = err_from_is_err_and c.from_residual.result c.from_residual.ensures.1 in
    rw (p.1, p.2) (scan.halt_first T (named value) (closing_of c.args.brackets.now.items) c.args.at c.in_err-end-in-Some-Scalar.field-0.0
    (value_scan T c.args.at (Scalar c.in-Some-Scalar.scalar) (Err c.in_err-end-in-Some-Scalar.field-0.0) (rw c.in-Some-Scalar.field-0-is at c.in-Some-Scalar.ensures.found) c.in_err-end-in-Some-Scalar.ensures))

pub returns-in_ok-end-in-Some-Scalar-clause-leads : goal.returns-in_ok-end-in-Some-Scalar-clause-leads
returns-in_ok-end-in-Some-Scalar-clause-leads c =
    let T = c.args.text.now in
    let end = c.in_ok-end-in-Some-Scalar.end in
    skip.past T (named value) (closing_of c.args.brackets.now.items) c.args.at end (value_scan T c.args.at (Scalar c.in-Some-Scalar.scalar) (Ok end) (rw c.in-Some-Scalar.field-0-is at c.in-Some-Scalar.ensures.found) c.in_ok-end-in-Some-Scalar.ensures)

pub returns-in_ok-end-in-Some-Scalar-clause-forward : goal.returns-in_ok-end-in-Some-Scalar-clause-forward
returns-in_ok-end-in-Some-Scalar-clause-forward c =
    let T = c.args.text.now in
    let end = c.in_ok-end-in-Some-Scalar.end in
    skip.reach_past T (named value) c.args.at end refl c.requires (value_scan T c.args.at (Scalar c.in-Some-Scalar.scalar) (Ok end) (rw c.in-Some-Scalar.field-0-is at c.in-Some-Scalar.ensures.found) c.in_ok-end-in-Some-Scalar.ensures)

pub returns-in-None-clause-stop : goal.returns-in-None-clause-stop
returns-in-None-clause-stop c =
    let T = c.args.text.now in
    scan.halt_first T (named value) (closing_of c.args.brackets.now.items) c.args.at c.args.at (no_value T c.args.at c.requires c.in-None.ensures.none)
