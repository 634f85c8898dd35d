use Rattle.token_cells.proofs.AddedTokens.{none_added}
use Rattle.token_cells.proofs.gathering.Growing.new.Goals as goal

pub returns : goal.returns
returns c = λ flat settings. none_added flat settings _ c.in_ok-pages.ensures c.in_ok-rows.ensures.items c.new-2.ensures
