-- What comes of files, and what is written of it.
use Rattle.std.specs.Prelude.{◌≡◌, ℕ, List, Option, Result, Ok, Err}
use Rattle.std.specs.Io.KnownBytes.{Appends}
use Rattle.tk_io.specs.FilesData.{FilesData}
use Rattle.tk_io.specs.Writing.{AppendsPart}
use Rattle.edit_script.specs.Script.{EventData}
use Rattle.json_span.specs.Spelling.{string_text}
use Rattle.theme_css.specs.Themes.{HasBadName, HasRefusal, IsThemeSheet}
use Rattle.theme_css.specs.declared.stop.ThemeStop.{ThemeStop}
use Rattle.theme_css.specs.declared.stop.ThemeStop.TheVariants as stop
use Rattle.theme_cli.specs.Themed.{OfFiles}
use Rattle.theme_cli.specs.declared.answer.ThemeAnswer.{ThemeAnswer}
use Rattle.theme_cli.specs.declared.answer.ThemeAnswer.TheVariants as answer

-- the answer where there is no sheet
abbrev pub IsReasonOf : ThemeStop → ThemeAnswer → Type 0
IsReasonOf (stop.Refused path) a = a ≡ answer.Refused path
IsReasonOf (stop.Name name) a = a ≡ answer.Name (string_text name)
IsReasonOf stop.NoMemory a = ⊥

abbrev pub IsAnswerTo : Result (List ℕ) ThemeStop → ThemeAnswer → Type 0
IsAnswerTo (Ok sheet) a = a ≡ answer.Sheet sheet
IsAnswerTo (Err s) a = IsReasonOf s a

-- the answer is that of files
abbrev pub IsAnswerOf : ThemeAnswer → FilesData → Type 0
IsAnswerOf (answer.Sheet sheet) files = IsThemeSheet files sheet
IsAnswerOf (answer.Refused path) files = HasRefusal files path
IsAnswerOf (answer.Name text) files = (name : List ℕ) × (text ≡ string_text name) × HasBadName files name

-- .. after all events
abbrev pub IsAnswerAfter : List EventData → ThemeAnswer → Type 0
IsAnswerAfter es a = OfFiles es (IsAnswerOf a)

-- what is written of an answer: a sheet whole, and else nothing
abbrev pub WrittenOf : ThemeAnswer → Option (List ℕ) → Option (List ℕ) → Type 0
WrittenOf (answer.Sheet sheet) old new = Appends old new sheet
WrittenOf (answer.Refused path) old new = new ≡ old
WrittenOf (answer.Name text) old new = new ≡ old

-- .. and where writing fails
abbrev pub LeftOf : ThemeAnswer → Option (List ℕ) → Option (List ℕ) → Type 0
LeftOf (answer.Sheet sheet) old new = AppendsPart old new sheet
LeftOf (answer.Refused path) old new = ⊥
LeftOf (answer.Name text) old new = ⊥
