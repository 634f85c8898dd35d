use Rattle.std.proofs.Common.{◌+◌, sym}
use Rattle.json_span.specs.Grammar.{either_byte}
use Rattle.json_span.specs.declared.bytes.Class.TheVariants.{Sign}
use Rattle.json_span.proofs.Scans as scan
use Rattle.json_span.proofs.Classes as row
use Rattle.json_span.proofs.scan.sign_end.Goals as goal

pub returns-then-has : goal.returns-then-has
returns-then-has c = scan.reach_some c.args.text.now (either_byte 43 45) c.args.at (c.args.at + 1) (row.reach_class c.args.text.now (Sign) c.args.at c.if-has.ensures.bound (sym c.if-has.ensures.test))

pub returns-else-has : goal.returns-else-has
returns-else-has c = scan.reach_empty c.args.text.now (either_byte 43 45) c.args.at c.requires (sym c.if-has.ensures.test)
