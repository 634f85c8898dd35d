use Rattle.edit_script.proofs.Deltas.{no_commits, more_commits, stream_is}
use Rattle.edit_script.proofs.laws.stream_parts.Goals as goal

pub returns : goal.returns
returns c = record { none = no_commits; more = more_commits; end = stream_is }
