use Rattle.theme_css.proofs.StrongestWins.{none_offered, strongest_wins}
use Rattle.theme_css.proofs.laws.cascade_laws.Goals as goal

pub returns-clause-wins : goal.returns-clause-wins
returns-clause-wins c = strongest_wins

pub returns-clause-none : goal.returns-clause-none
returns-clause-none c = none_offered
