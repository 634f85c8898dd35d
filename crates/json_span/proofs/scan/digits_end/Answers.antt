use Rattle.std.proofs.Common.{◌+◌, ◌<◌, length, sym, arith}
use Rattle.json_span.specs.Grammar.{digit}
use Rattle.json_span.specs.declared.bytes.Class.TheVariants.{Digit}
use Rattle.json_span.proofs.Scans as scan
use Rattle.json_span.proofs.Classes as row
use Rattle.json_span.proofs.scan.digits_end.Goals as goal

pub loop-end-preserved : goal.loop-end-preserved
loop-end-preserved c =
    let h : c.loop-end.end < length c.args.text.now = c.loop-end-test.ensures.bound in
    (omega arith, λ e x. c.loop-end.invariant.1 e (scan.reach_round c.args.text.now digit c.loop-end.end (c.loop-end.end + 1) e (row.reach_class c.args.text.now Digit c.loop-end.end h (sym c.loop-end-test.ensures.test)) x))

pub returns : goal.returns
returns c = c.loop-end.invariant.1 c.loop-end.end (scan.reach_none c.args.text.now digit c.loop-end.end c.loop-end.invariant.0 (sym c.loop-end-test.ensures.test))
