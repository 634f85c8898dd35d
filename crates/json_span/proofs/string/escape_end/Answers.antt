use Rattle.std.proofs.Common.{◌+◌, refl, sym, Err}
use Rattle.std.proofs.lemmas.Result.{err_from_is_err_and}
use Rattle.grammar.specs.Grammar.{seq}
use Rattle.json_span.specs.Grammar.{short, unicode, one}
use Rattle.json_span.specs.declared.bytes.Class.TheVariants.{Short}
use Rattle.json_span.proofs.Scans as scan
use Rattle.json_span.proofs.Classes as row
use Rattle.json_span.proofs.string.escape_end.Goals as goal

pub returns-then-has : goal.returns-then-has
returns-then-has c = scan.reach_first c.args.text.now short (seq (one 117) unicode) c.args.at (c.args.at + 1) refl (sym c.if-has.ensures.test)
    (row.reach_class c.args.text.now Short c.args.at c.if-has.ensures.bound (sym c.if-has.ensures.test))

pub returns-in_err-digits : goal.returns-in_err-digits
returns-in_err-digits c = let p = err_from_is_err_and c.from_residual.result c.from_residual.ensures.1 in rw (p.1, p.2)
    (scan.scan_right c.args.text.now short (seq (one 117) unicode) c.args.at (Err c.in_err-digits.field-0.0) refl (sym c.if-has.ensures.test)
    (scan.halt_first c.args.text.now (one 117) unicode c.args.at c.in_err-digits.field-0.0 c.in_err-digits.ensures))

pub returns : goal.returns
returns c = scan.scan_right c.args.text.now short (seq (one 117) unicode) c.args.at c.unicode_end.result refl (sym c.if-has.ensures.test)
    (scan.scan_then c.args.text.now (one 117) unicode c.args.at c.in_ok-digits.digits c.unicode_end.result c.in_ok-digits.ensures c.unicode_end.ensures)
