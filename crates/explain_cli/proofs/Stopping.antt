-- A run that stops: what was written then, and what is said of it.
use Rattle.std.proofs.Common.{◌≡◌, ◌⊎◌, inl, inr, ℕ, List, codes, Option, Ok, Err, ap, sym, refl, ◌∙◌}
use Rattle.std.specs.Prelude.{IsErrAnd}
use Rattle.edit_script.specs.Files.{IsUnfit}
use Rattle.edit_script.specs.Script.{EventData, IsScript, IsScriptStop}
use Rattle.edit_script.specs.declared.script.ScriptStop.{ScriptStop}
use Rattle.edit_script.specs.declared.script.ScriptStop.TheVariants as script
use Rattle.file_plan.specs.declared.loading.LoadStop.{LoadStop}
use Rattle.file_plan.specs.declared.loading.LoadStop.TheVariants as load
use Rattle.token_cli.specs.Report.{said_of}
use Rattle.token_cli.specs.inner.Causes.{of_load, of_script}
use Rattle.token_cli.specs.declared.stop.Stop.{Stop}
use Rattle.token_cli.specs.declared.stop.Stop.TheVariants as stop
use Rattle.explain_cli.specs.Report.{error_text}
use Rattle.explain_cli.specs.declared.asking.Question.{Question}
use Rattle.explain_cli.specs.declared.status.ExplainStatus.{ExplainStatus}
use Rattle.explain_cli.specs.declared.status.ExplainStatus.TheVariants as status
use Rattle.explain_cli.specs.inner.Ending.{Ended, Scripted, ended_text, status_of}
use Rattle.explain_cli.proofs.Endings.{scripted_err}

-- A script that was not read.
unread : (s : ScriptStop) (text : List ℕ) (q : Question) (held : Option (List ℕ)) (faults : ℕ) → ((at : ℕ) → s ≡ script.BadScript at → IsScriptStop text at) → Scripted (Err (of_script s)) text q held held faults faults
unread (script.BadScript at) text q held faults bad = (refl, bad at refl)
unread script.NoMemory text q held faults bad = refl

pub scripted_unread : (r : Ended) (s : ScriptStop) (text : List ℕ) (q : Question) (held : Option (List ℕ)) (faults : ℕ) → IsErrAnd r (λ e. e ≡ of_script s)
    → ((at : ℕ) → s ≡ script.BadScript at → IsScriptStop text at) → Scripted r text q held held faults faults
scripted_unread r s text q held faults is bad = scripted_err r (of_script s) text q held held faults faults is (unread s text q held faults bad)

-- A script whose files were not loaded.
unloaded : (s : LoadStop) (text : List ℕ) (q : Question) (es : List EventData) (held : Option (List ℕ)) (faults : ℕ) → IsScript text es → ((number : ℕ) → s ≡ load.Unfit number → IsUnfit es number)
    → Scripted (Err (of_load s)) text q held held faults faults
unloaded (load.Unfit number) text q es held faults is unfit = (refl, (es, is, unfit number refl))
unloaded load.NoMemory text q es held faults is unfit = refl

pub scripted_unloaded : (r : Ended) (s : LoadStop) (text : List ℕ) (q : Question) (es : List EventData) (held : Option (List ℕ)) (faults : ℕ) → IsErrAnd r (λ e. e ≡ of_load s) → IsScript text es
    → ((number : ℕ) → s ≡ load.Unfit number → IsUnfit es number) → Scripted r text q held held faults faults
scripted_unloaded r s text q es held faults is reads unfit = scripted_err r (of_load s) text q held held faults faults is (unloaded s text q es held faults reads unfit)

-- The text of a status that names no place.
placeless : (r : Ended) → (status_of r ≡ status.BadScript → ⊥) → (status_of r ≡ status.BadEvent → ⊥) → ended_text r ≡ error_text (status_of r) 0
placeless (Ok why) not fit = refl
placeless (Err stop.Usage) not fit = refl
placeless (Err (stop.BadScript at)) not fit = absurd (not refl)
placeless (Err stop.ReadFault) not fit = refl
placeless (Err stop.WriteFault) not fit = refl
placeless (Err stop.NoMemory) not fit = refl
placeless (Err stop.TooLong) not fit = refl
placeless (Err (stop.BadEvent number)) not fit = absurd (fit refl)

pub text_of_status : (r : Ended) (s : ExplainStatus) → s ≡ status_of r → (s ≡ status.BadScript → ⊥) → (s ≡ status.BadEvent → ⊥) → ended_text r ≡ error_text s 0
text_of_status r s e not fit = placeless r (λ is. not (e ∙ is)) (λ is. fit (e ∙ is)) ∙ ap (λ x. error_text x 0) (sym e)

-- What token_cli says of a stop is the text of its status.
pub said : (s : Stop) → said_of (codes "tokc_explain") (codes "usage: tokc_explain show PERM PLACE | check CERT\n") s ≡ ended_text (Err s)
said stop.Usage = refl
said (stop.BadScript at) = refl
said stop.ReadFault = refl
said stop.WriteFault = refl
said stop.NoMemory = refl
said stop.TooLong = refl
said (stop.BadEvent number) = refl

-- A run whose words ask nothing, or for which memory ran out.
pub usage_or_memory : (r : Ended) (s : ExplainStatus) → s ≡ status_of r → (r ≡ Err stop.Usage) ⊎ (r ≡ Err stop.NoMemory) → (s ≡ status.Usage) ⊎ (s ≡ status.NoMemory)
usage_or_memory r s e (inl is) = inl (e ∙ ap status_of is)
usage_or_memory r s e (inr is) = inr (e ∙ ap status_of is)
