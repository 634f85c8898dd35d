-- A run that stops: what was written then, and what is said of it.
use Rattle.std.proofs.Common.{◌≡◌, ◌==◌, ℕ, suc, Bool, not, false, true, List, [], ◌∷◌, codes, length, arith, Option, Ok, Err, ap, sym, refl, ◌∙◌}
use Rattle.std.proofs.lemmas.Bool.{ne_eqb}
use Rattle.std.specs.Prelude.{IsErrAnd}
use Rattle.edit_script.specs.Files.{IsUnfit}
use Rattle.edit_script.specs.Script.{EventData, IsScript, IsScriptStop}
use Rattle.edit_script.specs.declared.script.ScriptStop.{ScriptStop}
use Rattle.edit_script.specs.declared.script.ScriptStop.TheVariants as script
use Rattle.file_plan.specs.declared.loading.LoadStop.{LoadStop}
use Rattle.file_plan.specs.declared.loading.LoadStop.TheVariants as load
use Rattle.all_breaks.specs.Told.{ToldBreak}
use Rattle.token_cli.specs.Report.{said_of}
use Rattle.token_cli.specs.inner.Causes.{of_load, of_script}
use Rattle.token_cli.specs.declared.stop.Stop.{Stop}
use Rattle.check_cli.specs.Checked.{has_break}
use Rattle.check_cli.specs.Report.{error_text}
use Rattle.check_cli.specs.inner.Ending.{Scripted, place_of, status_of, stop_text}
use Rattle.token_cli.specs.declared.stop.Stop.TheVariants as stop
use Rattle.check_cli.specs.declared.status.CheckStatus.{CheckStatus}
use Rattle.check_cli.specs.declared.status.CheckStatus.TheVariants as status
use Rattle.check_cli.proofs.Endings.{Ended, scripted_err}

-- whether there is a break
later : (n : ℕ) → (suc n == 0) ≡ false
later n = ne_eqb (suc n) 0 (λ e. omega (arith, e))

pub broken_is : (told : List ToldBreak) (empty : Bool) → empty ≡ (length told == 0) → has_break told ≡ not empty
broken_is [] empty is = sym (ap not is)
broken_is (t ∷ ts) empty is = sym (ap not (is ∙ later (length ts)))

-- A script that was not read.
unread : (s : ScriptStop) (text : List ℕ) (held : Option (List ℕ)) (faults : ℕ) → ((at : ℕ) → s ≡ script.BadScript at → IsScriptStop text at) → Scripted (Err (of_script s)) text held held faults faults
unread (script.BadScript at) text held faults bad = (refl, bad at refl)
unread script.NoMemory text held faults bad = refl

pub scripted_unread : (r : Ended) (s : ScriptStop) (text : List ℕ) (held : Option (List ℕ)) (faults : ℕ) → IsErrAnd r (λ e. e ≡ of_script s) → ((at : ℕ) → s ≡ script.BadScript at → IsScriptStop text at) → Scripted r text held held faults faults
scripted_unread r s text held faults is bad = scripted_err r (of_script s) text held held faults faults is (unread s text held faults bad)

-- A script whose files were not loaded.
unloaded : (s : LoadStop) (text : List ℕ) (es : List EventData) (held : Option (List ℕ)) (faults : ℕ) → IsScript text es → ((number : ℕ) → s ≡ load.Unfit number → IsUnfit es number) → Scripted (Err (of_load s)) text held held faults faults
unloaded (load.Unfit number) text es held faults is unfit = (refl, (es, is, unfit number refl))
unloaded load.NoMemory text es held faults is unfit = refl

pub scripted_unloaded : (r : Ended) (s : LoadStop) (text : List ℕ) (es : List EventData) (held : Option (List ℕ)) (faults : ℕ) → IsErrAnd r (λ e. e ≡ of_load s) → IsScript text es → ((number : ℕ) → s ≡ load.Unfit number → IsUnfit es number) → Scripted r text held held faults faults
scripted_unloaded r s text es held faults is reads unfit = scripted_err r (of_load s) text held held faults faults is (unloaded s text es held faults reads unfit)

-- The text of a status that names no place.
placeless : (r : Ended) → (status_of r ≡ status.BadScript → ⊥) → (status_of r ≡ status.BadEvent → ⊥) → error_text (status_of r) (place_of r) ≡ error_text (status_of r) 0
placeless (Ok false) not fit = refl
placeless (Ok true) not fit = refl
placeless (Err stop.Usage) not fit = refl
placeless (Err (stop.BadScript at)) not fit = absurd (not refl)
placeless (Err stop.ReadFault) not fit = refl
placeless (Err stop.WriteFault) not fit = refl
placeless (Err stop.NoMemory) not fit = refl
placeless (Err stop.TooLong) not fit = refl
placeless (Err (stop.BadEvent number)) not fit = absurd (fit refl)

pub text_of_status : (r : Ended) (s : CheckStatus) → s ≡ status_of r → (s ≡ status.BadScript → ⊥) → (s ≡ status.BadEvent → ⊥) → error_text (status_of r) (place_of r) ≡ error_text s 0
text_of_status r s e not fit = placeless r (λ is. not (e ∙ is)) (λ is. fit (e ∙ is)) ∙ ap (λ x. error_text x 0) (sym e)

-- What token_cli says of a stop is the text of its status.
pub said : (s : Stop) → said_of (codes "tokc_check") (codes "usage: tokc_check\n") s ≡ stop_text s
said stop.Usage = refl
said (stop.BadScript at) = refl
said stop.ReadFault = refl
said stop.WriteFault = refl
said stop.NoMemory = refl
said stop.TooLong = refl
said (stop.BadEvent number) = refl
