-- How a run ends, by what its main job answers.
use Rattle.std.specs.Prelude.{◌≡◌, ◌⊎◌, ℕ, Bool, List, take, Option, None, Result, Ok, Err}
use Rattle.tk_io.specs.Causes.{Rose}
use Rattle.edit_script.specs.Script.{EventData, IsScript, IsScriptStop}
use Rattle.edit_script.specs.Files.{EveryFits, IsUnfit, as_one_commit, commit_count}
use Rattle.command_words.specs.declared.command.Command.{Command}
use Rattle.token_cli.specs.Report.{error_text}
use Rattle.token_cli.specs.Course.{Course}
use Rattle.token_cli.specs.Headline.{commits_before, events_for, telling_of, WroteWhole, WrotePart, WroteUpTo, WroteFrontUpTo}
use Rattle.token_cli.specs.Headline.{WroteEvents, WroteSome, StopsAt, WroteAll, RefusesEvent, RefusesScript, FailsToRead, FailsToWrite, RunsOut, TakesTooMuch}
use Rattle.token_cli.specs.declared.telling.Telling.{Telling}
use Rattle.token_cli.specs.declared.telling.Telling.TheVariants.{Records}
use Rattle.token_cli.specs.declared.stop.Stop.{Stop}
use Rattle.token_cli.specs.declared.stop.Stop.TheVariants as stop
use Rattle.token_cli.specs.declared.status.Status.{Status}
use Rattle.token_cli.specs.declared.status.Status.TheVariants as status

-- how the events of a script are told: how a commit is, of which events the commits are told, and how many of those come
-- before the event with a number
pub record Way : Type 0 where
  pub telling : Telling
  pub told : List EventData
  pub before : ℕ → ℕ

-- each commit of the events is told
abbrev pub each_commit : Telling → List EventData → Way
each_commit telling es = record { telling = telling; told = es; before = λ number. commit_count (take number es) }

-- one commit is told, at their end
abbrev pub one_commit : List EventData → Way
one_commit es = record { telling = Records; told = as_one_commit es; before = λ number. 0 }

-- .. as a command tells them
abbrev pub way_of : Command → List EventData → Way
way_of c es = record { telling = telling_of c; told = events_for c es; before = commits_before c es }

-- a part was written of what is told of the events in this way
abbrev pub WroteSomeBy : Way → List EventData → Option (List ℕ) → Option (List ℕ) → Type 0
WroteSomeBy way es old new =
    (EveryFits es × WrotePart way.telling way.told old new)
    ⊎ ((number : ℕ) × IsUnfit es number × WroteFrontUpTo way.telling way.told (way.before number) old new)

-- what was written of the events when telling them in this way ends so, and how the count of faults went
abbrev pub Writes : Result Bool Stop → Way → List EventData → Option (List ℕ) → Option (List ℕ) → ℕ → ℕ → Type 0
Writes (Ok refused) way es old new before now = EveryFits es × WroteWhole way.telling way.told refused old new
Writes (Err stop.NoMemory) way es old new before now = WroteSomeBy way es old new
Writes (Err stop.WriteFault) way es old new before now = Rose before now × WroteSomeBy way es old new
Writes (Err (stop.BadEvent number)) way es old new before now =
    IsUnfit es number × WroteUpTo way.telling way.told (way.before number) old new
Writes (Err stop.Usage) way es old new before now = ⊥
Writes (Err (stop.BadScript at)) way es old new before now = ⊥
Writes (Err stop.ReadFault) way es old new before now = ⊥
Writes (Err stop.TooLong) way es old new before now = ⊥

abbrev pub status_of : Result Bool Stop → Status
status_of (Ok Bool.true) = status.Refused
status_of (Ok Bool.false) = status.Done
status_of (Err stop.Usage) = status.Usage
status_of (Err (stop.BadScript at)) = status.BadScript
status_of (Err stop.ReadFault) = status.ReadFault
status_of (Err stop.WriteFault) = status.WriteFault
status_of (Err stop.NoMemory) = status.NoMemory
status_of (Err stop.TooLong) = status.TooLong
status_of (Err (stop.BadEvent number)) = status.BadEvent

-- the byte at which a script is refused, or the number of the event that is
abbrev pub place_of : Result Bool Stop → ℕ
place_of (Err (stop.BadScript at)) = at
place_of (Err stop.Usage) = 0
place_of (Err stop.ReadFault) = 0
place_of (Err stop.WriteFault) = 0
place_of (Err stop.NoMemory) = 0
place_of (Err stop.TooLong) = 0
place_of (Err (stop.BadEvent number)) = number
place_of (Ok refused) = 0

-- what is said of a stop
abbrev pub stop_text : Stop → List ℕ
stop_text s = error_text (status_of (Err s)) (place_of (Err s))

-- some events of which the script tells, and of which this holds
abbrev pub OfScript : List ℕ → (List EventData → Type 0) → Type 0
OfScript script claim = (es : List EventData) × IsScript script es × claim es

-- what was made of the bytes of a script when it ends so
abbrev pub Scripted : Result Bool Stop → Command → List ℕ → Option (List ℕ) → Option (List ℕ) → ℕ → ℕ → Type 0
Scripted (Ok refused) c script old new before now = OfScript script (λ es. WroteEvents c es refused old new)
Scripted (Err stop.NoMemory) c script old new before now =
    (new ≡ old) ⊎ OfScript script (λ es. WroteSome c es old new)
Scripted (Err stop.WriteFault) c script old new before now =
    Rose before now × OfScript script (λ es. WroteSome c es old new)
Scripted (Err (stop.BadEvent number)) c script old new before now =
    OfScript script (λ es. StopsAt c es number old new)
Scripted (Err (stop.BadScript at)) c script old new before now = (new ≡ old) × IsScriptStop script at
Scripted (Err stop.Usage) c script old new before now = ⊥
Scripted (Err stop.ReadFault) c script old new before now = ⊥
Scripted (Err stop.TooLong) c script old new before now = ⊥

-- how the main job ends: all was written, or why not
abbrev pub Ends : Result Bool Stop → Option Command → Course → Type 0
Ends (Ok refused) command t = WroteAll command t.left t.rest refused t.old t.new
Ends (Err stop.Usage) command t = command ≡ None
Ends (Err (stop.BadScript at)) command t = RefusesScript t.left t.rest t.old t.new at
Ends (Err stop.ReadFault) command t = FailsToRead t.reads t.reads_now t.old t.new
Ends (Err stop.WriteFault) command t = FailsToWrite command t.left t.rest t.writes t.writes_now t.old t.new
Ends (Err stop.NoMemory) command t = RunsOut command t.left t.rest t.old t.new
Ends (Err (stop.BadEvent number)) command t = RefusesEvent command t.left t.rest t.old t.new number
Ends (Err stop.TooLong) command t = TakesTooMuch t.left t.rest t.old t.new
