-- What a run promises, by the command that its arguments are, by how the run went for the source and the sink, by what
-- the error sink held before and after and the counts of its faults, and by the status.
use Rattle.std.specs.Prelude.{◌≡◌, ◌≢◌, ◌<◌, ◌≤◌, ◌⊎◌, ℕ, Bool, true, false, List, length, Option, None, Some}
use Rattle.tk_io.specs.Causes.{Rose}
use Rattle.tk_io.specs.Reading.{TakesAtMost}
use Rattle.edit_script.specs.Script.{EventData, IsScript}
use Rattle.edit_script.specs.Files.{EveryFits, IsUnfit}
use Rattle.command_words.specs.declared.command.Command.{Command}
use Rattle.command_words.specs.declared.command.Command.TheVariants.{Gen}
use Rattle.token_cli.specs.Course.{Course}
use Rattle.token_cli.specs.Headline.{FailsToRead, FailsToWrite, IsScriptOf, RefusesEvent, RefusesScript, RunsOut, TakesTooMuch, WroteAll, WroteEvents}
use Rattle.token_cli.specs.Headline.{most_bytes, reads_source}
use Rattle.token_cli.specs.Outcome.{IsStatusFor}
use Rattle.token_cli.specs.Report.{error_text, Reports, whole_status}
use Rattle.token_cli.specs.declared.status.Status.{Status}
use Rattle.token_cli.specs.declared.status.Status.TheVariants as status

pub record Runs (command : Option Command) (t : Course) (said said_now : Option (List ℕ)) (reports reports_now : ℕ) (result : Status) : Type 0 where
  -- The headline: all was written, and no refusal is held at the end, ..
  pub done : result ≡ status.Done → WroteAll command t.left t.rest false t.old t.new
  -- .. or one is.
  pub refused : result ≡ status.Refused → WroteAll command t.left t.rest true t.old t.new
  -- Both are said exactly where all was written: where the sink tells that it was, nothing else is.
  pub all : (c : Command) → (script : List ℕ) → (es : List EventData) → (before : List ℕ) → (refusal : Bool)
      → command ≡ Some c → IsScriptOf c t.left script → IsScript script es → t.old ≡ Some before
      → WroteEvents c es refusal t.old t.new → result ≡ whole_status refusal
  -- Memory, the source's faults and the sink's aside, the arguments and the bytes that the source had left decide it.
  pub decided : result ≢ status.NoMemory → (Rose t.reads t.reads_now → ⊥) → (Rose t.writes t.writes_now → ⊥)
      → IsStatusFor command t.left result
  -- The usage is told only of arguments that are no command, ..
  pub usage : result ≡ status.Usage → command ≡ None
  -- .. and of them it is, or memory ran out; nothing is written for them.
  pub words : command ≡ None → ((result ≡ status.Usage) ⊎ (result ≡ status.NoMemory)) × (t.new ≡ t.old)
  -- `gen` reads nothing, and each of its events fits: nothing that reading or an event can bring is answered.
  pub generated : (seed size : ℕ) → command ≡ Some (Gen seed size)
      → (result ≢ status.BadScript) × (result ≢ status.ReadFault) × (result ≢ status.TooLong) × (result ≢ status.BadEvent)
  -- What was read to the end is no script, and the place where it is refused is said.
  pub bad_script : result ≡ status.BadScript → (at : ℕ) × RefusesScript t.left t.rest t.old t.new at
      × Reports said said_now reports reports_now (error_text result at)
  -- An event does not fit, its number is said, and all that comes before it was written.
  pub bad_event : result ≡ status.BadEvent → (number : ℕ) × RefusesEvent command t.left t.rest t.old t.new number
      × Reports said said_now reports reports_now (error_text result number)
  -- A fault is answered only where its count rose.
  pub read_fault : result ≡ status.ReadFault → FailsToRead t.reads t.reads_now t.old t.new
  pub write_fault : result ≡ status.WriteFault → FailsToWrite command t.left t.rest t.writes t.writes_now t.old t.new
  -- Where memory ran out, nothing was written, or a part.
  pub memory : result ≡ status.NoMemory → RunsOut command t.left t.rest t.old t.new
  -- A script is too long exactly where one byte more than the limit was taken.
  pub too_long : result ≡ status.TooLong → TakesTooMuch t.left t.rest t.old t.new
  pub taken : (result ≡ status.TooLong → ⊥) → TakesAtMost most_bytes t.left t.rest
  -- Where the script has a reading, each event fits and nothing fails, all is written, or memory ran out; ..
  pub complete : (c : Command) → (script : List ℕ) → (es : List EventData) → command ≡ Some c → reads_source c ≡ true
      → t.left ≡ Some script → length script ≤ most_bytes → IsScript script es → EveryFits es
      → (Rose t.reads t.reads_now → ⊥) → (Rose t.writes t.writes_now → ⊥)
      → (result ≡ status.Done) ⊎ ((result ≡ status.Refused) ⊎ (result ≡ status.NoMemory))
  -- .. for `gen`, whatever the source does.
  pub generates : (seed size : ℕ) → command ≡ Some (Gen seed size) → (Rose t.writes t.writes_now → ⊥)
      → (result ≡ status.Done) ⊎ ((result ≡ status.Refused) ⊎ (result ≡ status.NoMemory))
  -- Where an event does not fit and nothing fails, that is said, or memory ran out.
  pub unfit : (c : Command) → (script : List ℕ) → (es : List EventData) → (number : ℕ) → command ≡ Some c
      → reads_source c ≡ true → t.left ≡ Some script → length script ≤ most_bytes → IsScript script es → IsUnfit es number
      → (Rose t.reads t.reads_now → ⊥) → (Rose t.writes t.writes_now → ⊥)
      → (result ≡ status.BadEvent) ⊎ (result ≡ status.NoMemory)
  -- Where the script has no reading and reading doesn't fail, that is said, or memory ran out.
  pub unread : (c : Command) → (script : List ℕ) → command ≡ Some c → reads_source c ≡ true
      → t.left ≡ Some script → length script ≤ most_bytes → ((es : List EventData) → IsScript script es → ⊥)
      → (Rose t.reads t.reads_now → ⊥) → (result ≡ status.BadScript) ⊎ (result ≡ status.NoMemory)
  -- Where the script is longer than the limit and reading doesn't fail, that is said, or memory ran out.
  pub endless : (c : Command) → (script : List ℕ) → command ≡ Some c → reads_source c ≡ true
      → t.left ≡ Some script → most_bytes < length script → (Rose t.reads t.reads_now → ⊥)
      → (result ≡ status.TooLong) ⊎ (result ≡ status.NoMemory)
  -- The error text was appended whole, or a part of it was and the error sink failed.
  pub error : (result ≡ status.BadScript → ⊥) → (result ≡ status.BadEvent → ⊥)
      → Reports said said_now reports reports_now (error_text result 0)
