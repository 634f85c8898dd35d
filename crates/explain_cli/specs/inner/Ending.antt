-- How a run ends, by what its main job answers.
use Rattle.std.specs.Prelude.{◌≡◌, ◌+◌, ℕ, List, Option, None, Some, Result, Ok, Err}
use Rattle.tk_io.specs.Causes.{Rose}
use Rattle.tk_io.specs.Reading.{TakesExactly}
use Rattle.edit_script.specs.Files.{IsUnfit}
use Rattle.edit_script.specs.Script.{EventData, IsScript, IsScriptStop}
use Rattle.token_cli.specs.Headline.{HasUnfitEvent, IsNoScript, most_bytes}
use Rattle.token_cli.specs.declared.stop.Stop.{Stop}
use Rattle.token_cli.specs.declared.stop.Stop.TheVariants as stop
use Rattle.explain_cli.specs.Asked.{AsksNothing}
use Rattle.explain_cli.specs.Explained.{CutOf, CutShort, RefusedOf, Refuses, WroteAll, WroteOf, status_by}
use Rattle.explain_cli.specs.Report.{error_text}
use Rattle.explain_cli.specs.declared.answer.Refusal.{Refusal}
use Rattle.explain_cli.specs.declared.asking.Question.{Question}
use Rattle.explain_cli.specs.declared.status.ExplainStatus.{ExplainStatus}
use Rattle.explain_cli.specs.declared.status.ExplainStatus.TheVariants as status

-- a run that was not stopped wrote an answer, or tells why there is none
abbrev pub Ended : Type 0
Ended = Result (Option Refusal) Stop

abbrev pub status_of : Ended → ExplainStatus
status_of (Ok why) = status_by why
status_of (Err stop.Usage) = status.Usage
status_of (Err (stop.BadScript at)) = status.BadScript
status_of (Err stop.ReadFault) = status.ReadFault
status_of (Err stop.WriteFault) = status.WriteFault
status_of (Err stop.NoMemory) = status.NoMemory
status_of (Err stop.TooLong) = status.TooLong
status_of (Err (stop.BadEvent number)) = status.BadEvent

-- the byte at which a script is refused, or the number of the event that is
abbrev pub place_of : Ended → ℕ
place_of (Err (stop.BadScript at)) = at
place_of (Err stop.Usage) = 0
place_of (Err stop.ReadFault) = 0
place_of (Err stop.WriteFault) = 0
place_of (Err stop.NoMemory) = 0
place_of (Err stop.TooLong) = 0
place_of (Err (stop.BadEvent number)) = number
place_of (Ok why) = 0

-- what is said of a run that ended so
abbrev pub ended_text : Ended → List ℕ
ended_text e = error_text (status_of e) (place_of e)

-- what was written of the events, where the run was not stopped
abbrev pub WroteBy : Option Refusal → List EventData → Question → Option (List ℕ) → Option (List ℕ) → Type 0
WroteBy None es q old new = WroteOf es q old new
WroteBy (Some why) es q old new = RefusedOf why es q old new

-- what was made of the bytes of a script when it ends so
abbrev pub Scripted : Ended → List ℕ → Question → Option (List ℕ) → Option (List ℕ) → ℕ → ℕ → Type 0
Scripted (Ok why) text q old new before now = (es : List EventData) × IsScript text es × WroteBy why es q old new
Scripted (Err (stop.BadScript at)) text q old new before now = (new ≡ old) × IsScriptStop text at
Scripted (Err (stop.BadEvent number)) text q old new before now = (new ≡ old) × ((es : List EventData) × IsScript text es × IsUnfit es number)
Scripted (Err stop.WriteFault) text q old new before now = Rose before now × ((es : List EventData) × IsScript text es × CutOf es q old new)
Scripted (Err stop.NoMemory) text q old new before now = new ≡ old
Scripted (Err stop.Usage) text q old new before now = ⊥
Scripted (Err stop.ReadFault) text q old new before now = ⊥
Scripted (Err stop.TooLong) text q old new before now = ⊥

-- what a source had left before and after, what a sink was given, and the counts of their faults
pub record Course : Type 0 where
  pub left : Option (List ℕ)
  pub rest : Option (List ℕ)
  pub reads : ℕ
  pub reads_now : ℕ
  pub old : Option (List ℕ)
  pub new : Option (List ℕ)
  pub faults : ℕ
  pub faults_now : ℕ

abbrev pub course : Option (List ℕ) → Option (List ℕ) → ℕ → ℕ → Option (List ℕ) → Option (List ℕ) → ℕ → ℕ → Course
course left rest reads reads_now old new faults faults_now = record {
  left = left;
  rest = rest;
  reads = reads;
  reads_now = reads_now;
  old = old;
  new = new;
  faults = faults;
  faults_now = faults_now;
}

-- how a run ends that was not stopped
abbrev pub Answers : Option Refusal → List (List ℕ) → Course → Type 0
Answers None words t = WroteAll words t.left t.rest t.old t.new
Answers (Some why) words t = Refuses why words t.left t.rest t.old t.new

-- how the main job ends for these words
abbrev pub Ends : Ended → List (List ℕ) → Course → Type 0
Ends (Ok why) words t = Answers why words t
Ends (Err stop.Usage) words t = AsksNothing words
Ends (Err (stop.BadScript at)) words t = IsNoScript t.left t.rest at × (t.new ≡ t.old)
Ends (Err (stop.BadEvent number)) words t = HasUnfitEvent t.left t.rest number × (t.new ≡ t.old)
Ends (Err stop.ReadFault) words t = Rose t.reads t.reads_now × (t.new ≡ t.old)
Ends (Err stop.WriteFault) words t = Rose t.faults t.faults_now × CutShort words t.left t.rest t.old t.new
Ends (Err stop.NoMemory) words t = t.new ≡ t.old
Ends (Err stop.TooLong) words t = TakesExactly (most_bytes + 1) t.left t.rest × (t.new ≡ t.old)
