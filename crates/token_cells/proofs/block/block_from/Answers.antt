use Rattle.std.proofs.Common.{sym, ◌∙◌}
use Rattle.token_cells.specs.inner.Blocks.{AreFrom}
use Rattle.token_cells.specs.inner.Kept.{texts_of}
use Rattle.token_cells.proofs.FoundBlocks.{line_one}
use Rattle.token_cells.proofs.block.block_from.Goals as goal

pub last_from-end-requires-clause-first : goal.last_from-end-requires-clause-first
last_from-end-requires-clause-first c =
    let kept = c.in-Some.kept in
    let (pages, of_pages) = c.requires.from in
    let from : AreFrom (texts_of kept.pages.now) c.args.kepts.now = λ i k is. of_pages i k is ∙ sym (of_pages c.args.i kept (c.kept_of.ensures kept c.in-Some.is)) in
    line_one (texts_of kept.pages.now) c.args.kepts.now c.args.i c.args.many c.in-Some-fragments_at.first.now c.requires.within
    (c.in-Some-fragments_at.ensures (texts_of kept.pages.now) from) (c.are_in_order.ensures c.if-not-are_in_order.false)
