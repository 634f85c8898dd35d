-- How a run ends, by what its main job answers.
use Rattle.std.specs.Prelude.{◌≡◌, ◌≢◌, ◌+◌, ℕ, List, [], ◌++◌, codes, Option, Result, Ok, Err}
use Rattle.tk_io.specs.Causes.{Rose}
use Rattle.tk_io.specs.Reading.{TakesExactly}
use Rattle.edit_script.specs.Files.{IsUnfit}
use Rattle.edit_script.specs.Script.{EventData, IsScript, IsScriptStop}
use Rattle.json_span.specs.Spelling.{string_text}
use Rattle.token_cli.specs.Headline.{HasUnfitEvent, IsNoScript, most_bytes}
use Rattle.token_cli.specs.declared.stop.Stop.{Stop}
use Rattle.token_cli.specs.declared.stop.Stop.TheVariants as stop
use Rattle.theme_css.specs.Themes.{HasBadName, HasRefusal}
use Rattle.theme_cli.specs.Report.{error_text, refused_text}
use Rattle.theme_cli.specs.Themed.{CutOf, CutShort, OfFiles, TellsName, TellsRefusal, WroteAll, WroteOf}
use Rattle.theme_cli.specs.declared.answer.ThemeAnswer.{ThemeAnswer}
use Rattle.theme_cli.specs.declared.answer.ThemeAnswer.TheVariants as answer
use Rattle.theme_cli.specs.declared.status.ThemeStatus.{ThemeStatus}
use Rattle.theme_cli.specs.declared.status.ThemeStatus.TheVariants as status

abbrev pub status_of : Result ThemeAnswer Stop → ThemeStatus
status_of (Ok (answer.Sheet sheet)) = status.Done
status_of (Ok (answer.Refused path)) = status.Refused
status_of (Ok (answer.Name text)) = status.Name
status_of (Err stop.Usage) = status.Usage
status_of (Err (stop.BadScript at)) = status.BadScript
status_of (Err stop.ReadFault) = status.ReadFault
status_of (Err stop.WriteFault) = status.WriteFault
status_of (Err stop.NoMemory) = status.NoMemory
status_of (Err stop.TooLong) = status.TooLong
status_of (Err (stop.BadEvent number)) = status.BadEvent

-- the byte at which a script is refused, or the number of the event that is
abbrev pub place_of : Result ThemeAnswer Stop → ℕ
place_of (Ok a) = 0
place_of (Err stop.Usage) = 0
place_of (Err (stop.BadScript at)) = at
place_of (Err stop.ReadFault) = 0
place_of (Err stop.WriteFault) = 0
place_of (Err stop.NoMemory) = 0
place_of (Err stop.TooLong) = 0
place_of (Err (stop.BadEvent number)) = number

-- the sheet, the path of the refusal, or the spelling of the name
abbrev pub matter_of : Result ThemeAnswer Stop → List ℕ
matter_of (Ok (answer.Sheet sheet)) = sheet
matter_of (Ok (answer.Refused path)) = path
matter_of (Ok (answer.Name text)) = text
matter_of (Err s) = []

-- what is said of a stop
abbrev pub stop_text : Stop → List ℕ
stop_text s = error_text (status_of (Err s)) (place_of (Err s)) []

-- .. and of an answer
abbrev pub answer_text : ThemeAnswer → List ℕ
answer_text (answer.Sheet sheet) = []
answer_text (answer.Refused path) = refused_text path
answer_text (answer.Name text) = codes "tokc_themes: name " ++ text ++ codes "\n"

abbrev pub ended_text : Result ThemeAnswer Stop → List ℕ
ended_text (Ok a) = answer_text a
ended_text (Err s) = stop_text s

-- what was made of the bytes of a script when it ends so
abbrev pub Scripted : Result ThemeAnswer Stop → List ℕ → Option (List ℕ) → Option (List ℕ) → ℕ → ℕ → Type 0
Scripted (Ok (answer.Sheet sheet)) text old new before now = (es : List EventData) × IsScript text es × WroteOf es old new
Scripted (Ok (answer.Refused path)) text old new before now =
    (new ≡ old) × ((es : List EventData) × IsScript text es × OfFiles es (λ files. HasRefusal files path))
Scripted (Ok (answer.Name spelled)) text old new before now =
    (new ≡ old) × ((name : List ℕ) × (spelled ≡ string_text name)
    × ((es : List EventData) × IsScript text es × OfFiles es (λ files. HasBadName files name)))
Scripted (Err (stop.BadScript at)) text old new before now = (new ≡ old) × IsScriptStop text at
Scripted (Err (stop.BadEvent number)) text old new before now = (new ≡ old) × ((es : List EventData) × IsScript text es × IsUnfit es number)
Scripted (Err stop.WriteFault) text old new before now = Rose before now × ((es : List EventData) × IsScript text es × CutOf es old new)
Scripted (Err stop.NoMemory) text old new before now = new ≡ old
Scripted (Err stop.Usage) text old new before now = ⊥
Scripted (Err stop.ReadFault) text old new before now = ⊥
Scripted (Err stop.TooLong) text old new before now = ⊥

-- what a source had left before and after, what a sink was given, and the counts of their faults
pub record Course : Type 0 where
  pub left : Option (List ℕ)
  pub rest : Option (List ℕ)
  pub reads : ℕ
  pub reads_now : ℕ
  pub old : Option (List ℕ)
  pub new : Option (List ℕ)
  pub faults : ℕ
  pub faults_now : ℕ

abbrev pub course : Option (List ℕ) → Option (List ℕ) → ℕ → ℕ → Option (List ℕ) → Option (List ℕ) → ℕ → ℕ → Course
course left rest reads reads_now old new faults faults_now = record {
  left = left;
  rest = rest;
  reads = reads;
  reads_now = reads_now;
  old = old;
  new = new;
  faults = faults;
  faults_now = faults_now;
}

-- how the main job ends for so many words
abbrev pub Ends : Result ThemeAnswer Stop → ℕ → Course → Type 0
Ends (Ok (answer.Sheet sheet)) words t = (words ≡ 0) × WroteAll t.left t.rest t.old t.new
Ends (Ok (answer.Refused path)) words t = (words ≡ 0) × TellsRefusal t.left t.rest path × (t.new ≡ t.old)
Ends (Ok (answer.Name text)) words t =
    (words ≡ 0) × ((name : List ℕ) × (text ≡ string_text name) × TellsName t.left t.rest name) × (t.new ≡ t.old)
Ends (Err stop.Usage) words t = words ≢ 0
Ends (Err (stop.BadScript at)) words t = IsNoScript t.left t.rest at × (t.new ≡ t.old)
Ends (Err (stop.BadEvent number)) words t = HasUnfitEvent t.left t.rest number × (t.new ≡ t.old)
Ends (Err stop.ReadFault) words t = Rose t.reads t.reads_now × (t.new ≡ t.old)
Ends (Err stop.WriteFault) words t = Rose t.faults t.faults_now × CutShort t.left t.rest t.old t.new
Ends (Err stop.NoMemory) words t = t.new ≡ t.old
Ends (Err stop.TooLong) words t = TakesExactly (most_bytes + 1) t.left t.rest × (t.new ≡ t.old)
