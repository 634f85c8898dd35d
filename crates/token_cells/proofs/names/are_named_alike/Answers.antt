use Rattle.transforms.specs.declared.platform.Platform.TheVariants.{Android, Swift}
use Rattle.token_cells.proofs.AlikeRows.{alike_more, alike_past}
use Rattle.token_cells.proofs.names.are_named_alike.Goals as goal

pub loop-row-preserved : goal.loop-row-preserved
loop-row-preserved c = λ pages rest.
    c.loop-row.invariant pages
    (alike_more Android Swift pages c.args.rows.now c.loop-row.row-index c.row-item.result c.loop-row-test.true c.row-item.is
    (c.is_named_alike.ensures pages c.if-not-is_named_alike.false) rest)

pub returns : goal.returns
returns c = λ pages is. c.loop-row.invariant pages (alike_past Android Swift pages c.args.rows.now c.loop-row.row-index c.loop-row-test.false)
