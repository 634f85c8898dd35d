use Rattle.std.proofs.Common.{◌≡◌, ℕ, arith, subst}
use Rattle.token_cells.specs.inner.Blocks.{IsLine}
use Rattle.token_cells.specs.inner.Kept.{texts_of}
use Rattle.token_cells.proofs.FoundBlocks.{line_more}
use Rattle.token_cells.proofs.block.last_from.Goals as goal

pub loop-n-preserved : goal.loop-n-preserved
loop-n-preserved c =
    line_more (texts_of c.args.pages.now) c.args.kepts.now c.args.i c.args.many c.args.first.now c.loop-n.last.now c.in-Some.next.now c.new-glues.result c.loop-n.n
    c.new-glues.ensures c.loop-n.invariant c.loop-n-test.true (c.in-Some.ensures (texts_of c.args.pages.now) c.requires.from) (c.are_next.ensures c.if-not-are_next.false)

pub returns : goal.returns
returns c =
    let end : c.loop-n.n ≡ c.args.many = omega (arith, c.loop-n-test.false, c.loop-n.invariant.within) in
    subst (λ (n : ℕ). IsLine (texts_of c.args.pages.now) c.args.kepts.now c.args.i c.args.many c.args.first.now c.loop-n.last.now n) end c.loop-n.invariant
