use Rattle.std.proofs.Common.{arith, ◌∙◌, ap, length, length-append}
use Rattle.std.specs.Fmt.{decimal}
use Rattle.std.proofs.lemmas.Fmt.{length-decimal-le_wide}
use Rattle.dec_fix.proofs.LastDigits.{decimal_more, decimal_last, decimal_room}
use Rattle.dec_fix.proofs.writing.put_whole.Goals as goal

pub put-requires : goal.put-requires
put-requires c = decimal_room c.loop-left.left c.args.n c.loop-left.text c.args.text.now c.loop-left.invariant.text c.loop-left.invariant.small c.requires.small c.requires.room

pub put-requires-2 : goal.put-requires-2
put-requires-2 c = decimal_room c.loop-left.left c.args.n c.loop-left.text c.args.text.now c.loop-left.invariant.text c.loop-left.invariant.small c.requires.small c.requires.room

pub loop-left-preserved : goal.loop-left-preserved
loop-left-preserved c = record {
  small = omega arith;
  text = rw (c.put.ensures, c.without_last-rest.ensures.rest, c.without_last-rest.ensures.last) (decimal_more c.loop-left.left c.loop-left.text _ (omega arith) c.loop-left.invariant.small c.loop-left.invariant.text);
}

pub returns-clause-length : goal.returns-clause-length
returns-clause-length c = omega (arith, ap length (c.put-2.ensures ∙ decimal_last c.loop-left.left c.loop-left.text _ (omega arith) c.loop-left.invariant.text), length-append (decimal c.args.n) c.args.text.now, length-decimal-le_wide 40 c.args.n (omega arith) c.requires.small (omega arith))

pub returns-clause-text : goal.returns-clause-text
returns-clause-text c = c.put-2.ensures ∙ decimal_last c.loop-left.left c.loop-left.text _ (omega arith) c.loop-left.invariant.text
