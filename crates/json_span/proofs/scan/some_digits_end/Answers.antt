use Rattle.std.proofs.Common.{◌+◌, sym}
use Rattle.grammar.specs.Grammar.{many}
use Rattle.json_span.specs.Grammar.{digit}
use Rattle.json_span.specs.declared.bytes.Class.TheVariants.{Digit}
use Rattle.json_span.proofs.Scans as scan
use Rattle.json_span.proofs.Classes as row
use Rattle.json_span.proofs.scan.some_digits_end.Goals as goal

pub returns-then-has : goal.returns-then-has
returns-then-has c = scan.reach_both c.args.text.now digit (many digit) c.args.at (c.args.at + 1) c.digits_end.result
    (row.reach_class c.args.text.now Digit c.args.at c.if-has.ensures.bound (sym c.if-has.ensures.test)) c.digits_end.ensures

pub returns-else-has : goal.returns-else-has
returns-else-has c = scan.halt_first c.args.text.now digit (many digit) c.args.at c.args.at (row.halt_class c.args.text.now Digit c.args.at c.requires (sym c.if-has.ensures.test))
