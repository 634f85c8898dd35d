use Rattle.std.specs.FinMap as map
use Rattle.std.proofs.Common.{sym, subst, ◌∙◌}
use Rattle.token_cells.specs.Cell.{AreCells}
use Rattle.token_cells.proofs.gathering.Growing.end.Goals as goal

pub new-requires : goal.new-requires
new-requires c = (c.requires.added.cells, c.requires.added.hold, c.requires.added.shown)

pub new-requires-2 : goal.new-requires-2
new-requires-2 c = c.requires.named

pub returns-clause-cells : goal.returns-clause-cells
returns-clause-cells c =
    subst (AreCells c.args.flat c.args.cfg.now (map.entries c.args.flat)) (sym (c.new-2.ensures.cells ∙ c.in_ok-cells.ensures c.requires.added.cells c.requires.added.shown)) c.requires.added.are
