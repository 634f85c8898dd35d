use Rattle.edit_script.proofs.UnfitEvents.{whole_files, whole_count, whole_fits}
use Rattle.edit_script.proofs.file_laws.whole_events.Goals as goal

pub returns : goal.returns
returns c = record { files = whole_files; count = whole_count; fits = whole_fits }
