use Rattle.std.proofs.Common.{◌≡◌, ◌^◌, ◌<◌, ◌++◌}
use Rattle.std.specs.Fmt.{decimal}
use Rattle.dec_fix.proofs.writing.put_whole.Given as goal

abbrev pub invariant-loop-left : goal.invariant-loop-left
invariant-loop-left l = record {
  small : l.left < 10 ^ 40;
  text : decimal l.left ++ l.text ≡ decimal l.n ++ l.fn.text;
}

abbrev pub decreases-loop-left : goal.decreases-loop-left
decreases-loop-left l = l.left
