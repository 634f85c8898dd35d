use Rattle.std.proofs.Common.{◌+◌, ◌<◌, length, drop, refl, sym, subst, arith}
use Rattle.std.proofs.lemmas.Result.{err_from_is_err_and}
use Rattle.std.specs.Prelude.{slice_range}
use Rattle.json_span.specs.Reading.{StringAt}
use Rattle.json_span.proofs.Skips.{reach_past}
use Rattle.json_span.specs.Grammar.{char, one}
use Rattle.grammar.specs.Grammar.{seq, many}
use Rattle.json_span.proofs.Strings as string
use Rattle.json_span.proofs.names.read_name.Goals as goal

pub returns-then-not-has-clause-stop : goal.returns-then-not-has-clause-stop
returns-then-not-has-clause-stop c = string.no_string c.args.text.now c.args.at c.requires.within (sym c.if-not-has.ensures.test)

pub returns-then-has-clause-ok : goal.returns-then-has-clause-ok
returns-then-has-clause-ok c =
    let T = c.args.text.now in
    let plain = c.plain_end-plain.result in
    let lt : c.args.at < length T = c.if-not-has.ensures.bound in
    let x = c.plain_end-plain.ensures.plain in
    let (reads, stands) = string.plain_string T c.args.at plain lt (sym c.if-not-has.ensures.test) x c.if-has.ensures.bound (sym c.if-has.ensures.test) in
    record { start = refl; reads = reads; long = omega (arith, x.forward); plain = λ _. subst (λ e. StringAt (drop c.args.at T) (slice_range T (c.args.at + 1) e) (drop (plain + 1) T)) (omega arith) stands }

pub returns-in_err-end-clause-stop : goal.returns-in_err-end-clause-stop
returns-in_err-end-clause-stop c =
    let T = c.args.text.now in
    let lt : c.args.at < length T = c.if-not-has.ensures.bound in
    let p = err_from_is_err_and c.from_residual.result c.from_residual.ensures.1 in
    rw (p.1, p.2) (string.bad_string T c.args.at c.in_err-end.field-0.0 lt (sym c.if-not-has.ensures.test) c.in_err-end.ensures)

pub returns-clause-ok : goal.returns-clause-ok
returns-clause-ok c =
    let T = c.args.text.now in
    let lt : c.args.at < length T = c.if-not-has.ensures.bound in
    let x = c.in_ok-end.ensures in
    let (s, k) = string.has_content T (c.args.at + 1) c.in_ok-end.end x in
    let (reads, stands) = string.any_string T s c.args.at c.in_ok-end.end lt (sym c.if-not-has.ensures.test) x k in
    let past = reach_past T (seq (many char) (one 34)) (c.args.at + 1) c.in_ok-end.end refl (omega arith) x in
    record { start = refl; reads = reads; long = omega (arith, past); plain = λ e. cc }
