use Rattle.edit_script.proofs.UnfitEvents.{fits_or_not, not_both, one_first}
use Rattle.edit_script.proofs.file_laws.one_unfit.Goals as goal

pub returns : goal.returns
returns c = record { some = fits_or_not; apart = not_both; one = one_first }
