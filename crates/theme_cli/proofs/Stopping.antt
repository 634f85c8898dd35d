-- A run that stops or has an answer: what was written then, and what is said of it.
use Rattle.std.proofs.Common.{◌≡◌, ◌∙◌, ℕ, List, [], codes, Option, Result, Ok, Err, ap, sym, subst, refl}
use Rattle.std.specs.Prelude.{IfOk, IfErr, IsErrAnd}
use Rattle.tk_io.specs.Causes.{Rose}
use Rattle.tk_io.specs.FilesData.{FilesData}
use Rattle.edit_script.specs.Files.{IsUnfit}
use Rattle.edit_script.specs.Script.{EventData, IsScript, IsScriptStop}
use Rattle.edit_script.specs.declared.script.ScriptStop.{ScriptStop}
use Rattle.edit_script.specs.declared.script.ScriptStop.TheVariants as script
use Rattle.file_plan.specs.declared.loading.LoadStop.{LoadStop}
use Rattle.file_plan.specs.declared.loading.LoadStop.TheVariants as load
use Rattle.json_span.specs.Spelling.{string_text}
use Rattle.token_cli.specs.Report.{said_of}
use Rattle.token_cli.specs.inner.Causes.{of_load, of_script}
use Rattle.token_cli.specs.declared.stop.Stop.{Stop}
use Rattle.token_cli.specs.declared.stop.Stop.TheVariants as stop
use Rattle.theme_css.specs.Themes.{IsThemeSheet, IsThemeStop}
use Rattle.theme_css.specs.declared.stop.ThemeStop.{ThemeStop}
use Rattle.theme_css.specs.declared.stop.ThemeStop.TheVariants as reason
use Rattle.theme_cli.specs.Report.{error_text}
use Rattle.theme_cli.specs.inner.Answer.{IsAnswerAfter, IsAnswerOf, IsAnswerTo, LeftOf, WrittenOf}
use Rattle.theme_cli.specs.inner.Ending.{Scripted, ended_text, matter_of, place_of, status_of, stop_text}
use Rattle.theme_cli.specs.declared.answer.ThemeAnswer.{ThemeAnswer}
use Rattle.theme_cli.specs.declared.answer.ThemeAnswer.TheVariants as answer
use Rattle.theme_cli.specs.declared.status.ThemeStatus.{ThemeStatus}
use Rattle.theme_cli.specs.declared.status.ThemeStatus.TheVariants as status
use Rattle.theme_cli.proofs.Endings.{Ended, said_by, scripted_err}

-- what is made of an answer to files is an answer of them
pub answered : (files : FilesData) (sheet : Result (List ℕ) ThemeStop) (a : ThemeAnswer) → IfOk sheet (IsThemeSheet files) → IfErr sheet (IsThemeStop files) → IsAnswerTo sheet a → IsAnswerOf a files
answered files (Ok sheet) a is none e = subst (λ (x : ThemeAnswer). IsAnswerOf x files) (sym e) is
answered files (Err (reason.Refused path)) a is none e = subst (λ (x : ThemeAnswer). IsAnswerOf x files) (sym e) none
answered files (Err (reason.Name name)) a is none e = subst (λ (x : ThemeAnswer). IsAnswerOf x files) (sym e) (name, refl, none)
answered files (Err reason.NoMemory) a is none e = absurd e

-- A script that was not read.
unread : (s : ScriptStop) (text : List ℕ) (held : Option (List ℕ)) (faults : ℕ) → ((at : ℕ) → s ≡ script.BadScript at → IsScriptStop text at) → Scripted (Err (of_script s)) text held held faults faults
unread (script.BadScript at) text held faults bad = (refl, bad at refl)
unread script.NoMemory text held faults bad = refl

pub scripted_unread : (r : Ended) (s : ScriptStop) (text : List ℕ) (held : Option (List ℕ)) (faults : ℕ) → IsErrAnd r (λ e. e ≡ of_script s) → ((at : ℕ) → s ≡ script.BadScript at → IsScriptStop text at) → Scripted r text held held faults faults
scripted_unread r s text held faults is bad = scripted_err r (of_script s) text held held faults faults is (unread s text held faults bad)

-- A script whose files were not loaded.
unloaded : (s : LoadStop) (text : List ℕ) (es : List EventData) (held : Option (List ℕ)) (faults : ℕ) → IsScript text es → ((number : ℕ) → s ≡ load.Unfit number → IsUnfit es number) → Scripted (Err (of_load s)) text held held faults faults
unloaded (load.Unfit number) text es held faults is unfit = (refl, (es, is, unfit number refl))
unloaded load.NoMemory text es held faults is unfit = refl

pub scripted_unloaded : (r : Ended) (s : LoadStop) (text : List ℕ) (es : List EventData) (held : Option (List ℕ)) (faults : ℕ) → IsErrAnd r (λ e. e ≡ of_load s) → IsScript text es → ((number : ℕ) → s ≡ load.Unfit number → IsUnfit es number) → Scripted r text held held faults faults
scripted_unloaded r s text es held faults is reads unfit = scripted_err r (of_load s) text held held faults faults is (unloaded s text es held faults reads unfit)

-- An answer of which all was written that is to be, ..
pub scripted_written : (a : ThemeAnswer) (text : List ℕ) (es : List EventData) (old new : Option (List ℕ)) (before now : ℕ) → IsScript text es → IsAnswerAfter es a → WrittenOf a old new → Scripted (Ok a) text old new before now
scripted_written (answer.Sheet sheet) text es old new before now is after written = (es, is, (sheet, after, written))
scripted_written (answer.Refused path) text es old new before now is after written = (written, (es, is, after))
scripted_written (answer.Name spelled) text es old new before now is after written =
    let (fits, (files, stand, (name, same, bad))) = after in
    (written, (name, same, (es, is, (fits, (files, stand, bad)))))

-- .. or a part of it.
unwritten : (a : ThemeAnswer) (text : List ℕ) (es : List EventData) (old new : Option (List ℕ)) (before now : ℕ) → IsScript text es → IsAnswerAfter es a → LeftOf a old new → Rose before now → Scripted (Err stop.WriteFault) text old new before now
unwritten (answer.Sheet sheet) text es old new before now is after left rose = (rose, (es, is, (sheet, after, left)))
unwritten (answer.Refused path) text es old new before now is after left rose = absurd left
unwritten (answer.Name spelled) text es old new before now is after left rose = absurd left

pub scripted_unwritten : (r : Ended) (a : ThemeAnswer) (text : List ℕ) (es : List EventData) (old new : Option (List ℕ)) (before now : ℕ) → IsErrAnd r (λ e. e ≡ stop.WriteFault) → IsScript text es → IsAnswerAfter es a → LeftOf a old new → Rose before now → Scripted r text old new before now
scripted_unwritten r a text es old new before now e is after left rose = scripted_err r stop.WriteFault text old new before now e (unwritten a text es old new before now is after left rose)

-- What is said of a run.

-- .. that names neither a place nor what is refused
placeless : (r : Ended) → (status_of r ≡ status.BadScript → ⊥) → (status_of r ≡ status.BadEvent → ⊥) → (status_of r ≡ status.Refused → ⊥) → (status_of r ≡ status.Name → ⊥) → ended_text r ≡ error_text (status_of r) 0 []
placeless (Ok (answer.Sheet sheet)) not fit good named = refl
placeless (Ok (answer.Refused path)) not fit good named = absurd (good refl)
placeless (Ok (answer.Name text)) not fit good named = absurd (named refl)
placeless (Err stop.Usage) not fit good named = refl
placeless (Err (stop.BadScript at)) not fit good named = absurd (not refl)
placeless (Err stop.ReadFault) not fit good named = refl
placeless (Err stop.WriteFault) not fit good named = refl
placeless (Err stop.NoMemory) not fit good named = refl
placeless (Err stop.TooLong) not fit good named = refl
placeless (Err (stop.BadEvent number)) not fit good named = absurd (fit refl)

pub text_of_status : (r : Ended) (s : ThemeStatus) → s ≡ status_of r → (s ≡ status.BadScript → ⊥) → (s ≡ status.BadEvent → ⊥) → (s ≡ status.Refused → ⊥) → (s ≡ status.Name → ⊥) → ended_text r ≡ error_text s 0 []
text_of_status r s e not fit good named =
    placeless r (λ is. not (e ∙ is)) (λ is. fit (e ∙ is)) (λ is. good (e ∙ is)) (λ is. named (e ∙ is)) ∙ ap (λ x. error_text x 0 []) (sym e)

-- .. that ended with a status
pub refused_said : (r : Ended) (s : ThemeStatus) → s ≡ status_of r → s ≡ status.Refused → ended_text r ≡ error_text s 0 (matter_of r)
refused_said r s e is = ap ended_text (said_by r status.Refused (sym e ∙ is)) ∙ ap (λ x. error_text x 0 (matter_of r)) (sym is)

pub name_said : (r : Ended) (s : ThemeStatus) (name : List ℕ) → s ≡ status_of r → s ≡ status.Name → matter_of r ≡ string_text name → ended_text r ≡ error_text s 0 name
name_said r s name e is spelled =
    ap ended_text (said_by r status.Name (sym e ∙ is)) ∙ (ap (λ text. ended_text (Ok (answer.Name text))) spelled ∙ ap (λ x. error_text x 0 name) (sym is))

pub script_said : (r : Ended) (s : ThemeStatus) → s ≡ status_of r → s ≡ status.BadScript → ended_text r ≡ error_text s (place_of r) []
script_said r s e is = ap ended_text (said_by r status.BadScript (sym e ∙ is)) ∙ ap (λ x. error_text x (place_of r) []) (sym is)

pub event_said : (r : Ended) (s : ThemeStatus) → s ≡ status_of r → s ≡ status.BadEvent → ended_text r ≡ error_text s (place_of r) []
event_said r s e is = ap ended_text (said_by r status.BadEvent (sym e ∙ is)) ∙ ap (λ x. error_text x (place_of r) []) (sym is)

-- What token_cli says of a stop is the text of its status.
pub said : (s : Stop) → said_of (codes "tokc_themes") (codes "usage: tokc_themes\n") s ≡ stop_text s
said stop.Usage = refl
said (stop.BadScript at) = refl
said stop.ReadFault = refl
said stop.WriteFault = refl
said stop.NoMemory = refl
said stop.TooLong = refl
said (stop.BadEvent number) = refl
