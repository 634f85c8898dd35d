use Rattle.edit_script.proofs.UnfitEvents.{no_made, one_more_made, outcome_made, made_bound}
use Rattle.edit_script.proofs.file_laws.made_lengths.Goals as goal

pub returns : goal.returns
returns c = record { none = no_made; more = one_more_made; outcome = outcome_made; bound = made_bound }
