-- With which status a run ends that has memory enough and whose source and sink do not fail: its arguments and the bytes
-- that the source has left decide it. No error sink stands here.
use Rattle.std.specs.Prelude.{◌≡◌, ◌<◌, ◌≤◌, ◌⊎◌, ℕ, Bool, true, false, List, length, Option, None, Some, IfSome}
use Rattle.edit_script.specs.Script.{EventData, IsScript}
use Rattle.edit_script.specs.Files.{EveryFits, IsUnfit, commit_count}
use Rattle.edit_script.specs.Delta.{Delta}
use Rattle.tk_io.specs.FilesData.{FilesData}
use Rattle.command_words.specs.declared.command.Command.{Command}
use Rattle.command_words.specs.declared.command.Command.TheVariants.{Build, Replay, Stats, Gen}
use Rattle.generated_script.specs.Script.{script_of}
use Rattle.token_cli.specs.Headline.{AreCommits, events_for, is_refused, last_held, most_bytes}
use Rattle.token_cli.specs.declared.status.Status.{Status}
use Rattle.token_cli.specs.declared.status.Status.TheVariants as status

-- whether a refusal is held after the last of the commits of these events, each of them built from nothing
abbrev pub EndsIn : List EventData → Bool → Type 0
EndsIn es refused =
    (held : List FilesData) × (deltas : List Delta) × AreCommits es held deltas × (length held ≡ commit_count es)
    × (is_refused (last_held held) ≡ refused)

-- the status of a command over these bytes: all is written, with a refusal held at the end or none, or they are no script,
-- or an event of it does not fit
abbrev pub IsStatusOf : Command → List ℕ → Status → Type 0
IsStatusOf c script status.Done = (es : List EventData) × IsScript script es × EveryFits es × EndsIn (events_for c es) false
IsStatusOf c script status.Refused = (es : List EventData) × IsScript script es × EveryFits es × EndsIn (events_for c es) true
IsStatusOf c script status.BadScript = (es : List EventData) → IsScript script es → ⊥
IsStatusOf c script status.Usage = ⊥
IsStatusOf c script status.ReadFault = ⊥
IsStatusOf c script status.WriteFault = ⊥
IsStatusOf c script status.NoMemory = ⊥
IsStatusOf c script status.TooLong = ⊥
IsStatusOf c script status.BadEvent = (es : List EventData) × IsScript script es × ((number : ℕ) × IsUnfit es number)

-- .. where they are those of a source, which may have too many
abbrev pub IsStatusOfSource : Command → List ℕ → Status → Type 0
IsStatusOfSource c script s =
    ((length script ≤ most_bytes) × IsStatusOf c script s) ⊎ ((most_bytes < length script) × (s ≡ status.TooLong))

-- .. of arguments, where the source tells what it has left; `gen` does not ask it
abbrev pub IsStatusFor : Option Command → Option (List ℕ) → Status → Type 0
IsStatusFor None left s = s ≡ status.Usage
IsStatusFor (Some Build) left s = IfSome left (λ script. IsStatusOfSource Build script s)
IsStatusFor (Some Replay) left s = IfSome left (λ script. IsStatusOfSource Replay script s)
IsStatusFor (Some Stats) left s = IfSome left (λ script. IsStatusOfSource Stats script s)
IsStatusFor (Some (Gen seed size)) left s = IsStatusOf (Gen seed size) (script_of seed size) s
