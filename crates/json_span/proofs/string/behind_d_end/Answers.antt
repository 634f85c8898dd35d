use Rattle.std.proofs.Common.{drop, true, false, refl, sym}
use Rattle.grammar.specs.Grammar.{seq, byte, within}
use Rattle.json_span.specs.Grammar.{hex, high_digit, low_escape}
use Rattle.json_span.proofs.Scans as scan
use Rattle.json_span.proofs.string.behind_d_end.Goals as goal

pub returns-then-has : goal.returns-then-has
returns-then-has c = scan.scan_left c.args.text.now (seq (byte 48 55) (seq hex hex)) (seq high_digit (seq hex (seq hex low_escape))) c.args.at c.row_end.result refl
    (scan.padded (within 48 55) (drop c.args.at c.args.text.now) true (sym c.if-has.ensures.test)) c.row_end.ensures

pub returns-else-has : goal.returns-else-has
returns-else-has c = scan.scan_right c.args.text.now (seq (byte 48 55) (seq hex hex)) (seq high_digit (seq hex (seq hex low_escape))) c.args.at c.row_end-else-has.result refl
    (scan.padded (within 48 55) (drop c.args.at c.args.text.now) false (sym c.if-has.ensures.test)) c.row_end-else-has.ensures
