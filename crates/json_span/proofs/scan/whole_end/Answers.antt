use Rattle.std.proofs.Common.{◌+◌, drop, false, refl, sym}
use Rattle.grammar.specs.Grammar.{many, seq, byte, within}
use Rattle.json_span.specs.Grammar.{digit, one}
use Rattle.json_span.specs.declared.bytes.Class.TheVariants.{One, FirstDigit}
use Rattle.json_span.proofs.Scans as scan
use Rattle.json_span.proofs.Classes as row
use Rattle.json_span.proofs.scan.whole_end.Goals as goal

pub returns-then-has : goal.returns-then-has
returns-then-has c = scan.reach_first c.args.text.now (one 48) (seq (byte 49 57) (many digit)) c.args.at (c.args.at + 1) refl (sym c.if-has.ensures.test) (row.reach_class c.args.text.now (One 48) c.args.at c.if-has.ensures.bound (sym c.if-has.ensures.test))

pub returns-then-has-2 : goal.returns-then-has-2
returns-then-has-2 c = scan.reach_right c.args.text.now (one 48) (seq (byte 49 57) (many digit)) c.args.at c.digits_end.result (sym c.if-has.ensures.test)
    (scan.reach_both c.args.text.now (byte 49 57) (many digit) c.args.at (c.args.at + 1) c.digits_end.result
    (row.reach_class c.args.text.now FirstDigit c.args.at c.if-has-2.ensures.bound (sym c.if-has-2.ensures.test)) c.digits_end.ensures)

pub returns-else-has-2 : goal.returns-else-has-2
returns-else-has-2 c = scan.halt_neither c.args.text.now (one 48) (seq (byte 49 57) (many digit)) c.args.at refl refl c.requires (sym c.if-has.ensures.test)
    (scan.padded (within 49 57) (drop c.args.at c.args.text.now) false (sym c.if-has-2.ensures.test))
