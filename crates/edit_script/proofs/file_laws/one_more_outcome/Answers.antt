use Rattle.edit_script.proofs.Outcomes.{outcome_fits, outcome_leaves, outcome_makes, outcome_unfit}
use Rattle.edit_script.proofs.file_laws.one_more_outcome.Goals as goal

pub returns : goal.returns
returns c = record { fits = outcome_fits; files = outcome_leaves; made = outcome_makes; unfit = outcome_unfit }
