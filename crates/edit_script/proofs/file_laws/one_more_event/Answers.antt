use Rattle.edit_script.proofs.Standing.{empty_files, put_files, del_files, move_files, patch_files, commit_files, outcome_files}
use Rattle.edit_script.proofs.file_laws.one_more_event.Goals as goal

pub returns : goal.returns
returns c = record { none = empty_files; put = put_files; del = del_files; moved = move_files; patched = patch_files; commit = commit_files; outcome = outcome_files }
