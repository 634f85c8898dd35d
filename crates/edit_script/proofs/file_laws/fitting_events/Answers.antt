use Rattle.edit_script.proofs.UnfitEvents.{none_fits, first_fits, one_more_fits, first_unfit}
use Rattle.edit_script.proofs.file_laws.fitting_events.Goals as goal

pub returns : goal.returns
returns c = record { none = none_fits; first = λ bytes es script. first_fits es script.1; more = one_more_fits; unfit = first_unfit }
