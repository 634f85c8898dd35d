-- A run that stops: what a store keeps then, and that it is not said to have the outputs.
use Rattle.std.proofs.Common.{◌≡◌, ◌≢◌, ℕ, Bool, true, false, List, Option, Some, None, Ok, Err, ap, sym, refl, ◌∙◌}
use Rattle.std.specs.Prelude.{IfSome, IsErrAnd}
use Rattle.tk_io.specs.FilesData.{FilesData}
use Rattle.edit_script.specs.Script.{EventData, IsScript, IsScriptStop}
use Rattle.edit_script.specs.Files.{EveryFits, IsUnfit}
use Rattle.file_plan.specs.declared.loading.LoadStop.{LoadStop}
use Rattle.file_plan.specs.declared.loading.LoadStop.TheVariants as load
use Rattle.edit_script.specs.declared.script.ScriptStop.{ScriptStop}
use Rattle.edit_script.specs.declared.script.ScriptStop.TheVariants as script
use Rattle.out_store.specs.Effects.{FaultsBy}
use Rattle.out_store.specs.Kept.{IsBadSlot, Kept}
use Rattle.out_store.specs.declared.slot.Slot.{Slot}
use Rattle.out_store.specs.declared.stop.SyncStop.{SyncStop}
use Rattle.out_store.specs.declared.stop.SyncStop.TheVariants as sync
use Rattle.store_cli.specs.Report.{error_text}
use Rattle.store_cli.specs.Stored.{HadBadSlot}
use Rattle.store_cli.specs.inner.Ending.{Scripted, of_load, of_script, of_sync, place_of, status_of}
use Rattle.store_cli.specs.declared.stop.Stop.{Stop}
use Rattle.store_cli.specs.declared.stop.Stop.TheVariants as stop
use Rattle.store_cli.specs.declared.status.StoreStatus.{StoreStatus}
use Rattle.store_cli.specs.declared.status.StoreStatus.TheVariants as status
use Rattle.store_cli.proofs.Endings.{Ended, said_by, scripted_err}

-- A script that was not read.
unread : (s : ScriptStop) (text : List ℕ) (held : Option FilesData) (faults : ℕ) → ((at : ℕ) → s ≡ script.BadScript at → IsScriptStop text at) → Scripted (Err (of_script s)) text held held faults faults
unread (script.BadScript at) text held faults bad = (refl, bad at refl)
unread script.NoMemory text held faults bad = tt

pub scripted_unread : (r : Ended) (s : ScriptStop) (text : List ℕ) (held : Option FilesData) (faults : ℕ) → IsErrAnd r (λ e. e ≡ of_script s) → ((at : ℕ) → s ≡ script.BadScript at → IsScriptStop text at) → Scripted r text held held faults faults
scripted_unread r s text held faults is bad = scripted_err r (of_script s) text held held faults faults is (unread s text held faults bad)

-- A script whose files were not loaded.
unloaded : (s : LoadStop) (text : List ℕ) (es : List EventData) (held : Option FilesData) (faults : ℕ) → IsScript text es → ((number : ℕ) → s ≡ load.Unfit number → IsUnfit es number) → Scripted (Err (of_load s)) text held held faults faults
unloaded (load.Unfit number) text es held faults is unfit = (refl, (es, is, unfit number refl))
unloaded load.NoMemory text es held faults is unfit = tt

pub scripted_unloaded : (r : Ended) (s : LoadStop) (text : List ℕ) (es : List EventData) (held : Option FilesData) (faults : ℕ) → IsErrAnd r (λ e. e ≡ of_load s) → IsScript text es → ((number : ℕ) → s ≡ load.Unfit number → IsUnfit es number) → Scripted r text held held faults faults
scripted_unloaded r s text es held faults is reads unfit = scripted_err r (of_load s) text held held faults faults is (unloaded s text es held faults reads unfit)

had_bad : (held : Option FilesData) (s : Slot) → IfSome held (λ m. IsBadSlot m s × (Kept m → ⊥)) → HadBadSlot held
had_bad None s h = tt
had_bad (Some m) s h = ((s, h.0), h.1)

-- A store that was not brought.
unstored : (s : SyncStop) (text : List ℕ) (old new : Option FilesData) (before now : ℕ) → ((es : List EventData) × IsScript text es × EveryFits es)
    → ((at : Slot) → s ≡ sync.BadManifest at → IfSome old (λ m. IsBadSlot m at × (Kept m → ⊥))) → FaultsBy s before now → Scripted (Err (of_sync s)) text old new before now
unstored sync.StoreFault text old new before now made bad faults = (faults.1, made)
unstored (sync.BadManifest at) text old new before now made bad faults = (had_bad old at (bad at refl), made)
unstored sync.NoMemory text old new before now made bad faults = tt

pub scripted_unstored : (r : Ended) (s : SyncStop) (text : List ℕ) (old new : Option FilesData) (before now : ℕ) → IsErrAnd r (λ e. e ≡ of_sync s) → ((es : List EventData) × IsScript text es × EveryFits es)
    → ((at : Slot) → s ≡ sync.BadManifest at → IfSome old (λ m. IsBadSlot m at × (Kept m → ⊥))) → FaultsBy s before now → Scripted r text old new before now
scripted_unstored r s text old new before now is made bad faults = scripted_err r (of_sync s) text old new before now is (unstored s text old new before now made bad faults)

-- the store had a bad slot, and so the run is not said to be done
abbrev pub IsBlocked : Ended → Option FilesData → Type 0
IsBlocked r held = IfSome held (λ m. (s : Slot) → IsBadSlot m s → (refused : Bool) → r ≢ Ok refused)

no_answer : (r : Ended) (x : Stop) (refused : Bool) → IsErrAnd r (λ e. e ≡ x) → r ≢ Ok refused
no_answer (Ok y) x refused h e = absurd h
no_answer (Err y) x refused h e = absurd (cc)

pub blocked_err : (r : Ended) (x : Stop) (held : Option FilesData) → IsErrAnd r (λ e. e ≡ x) → IsBlocked r held
blocked_err r x None h = tt
blocked_err r x (Some m) h = λ s bad refused. no_answer r x refused h

-- .. where the store was brought, it had none
pub blocked_ok : (r : Ended) (held : Option FilesData) → IfSome held (λ m. (s : Slot) → IsBadSlot m s → false ≡ true) → IsBlocked r held
blocked_ok r None h = tt
blocked_ok r (Some m) h = λ s bad refused e. let none : false ≡ true = h s bad in absurd (cc)

pub blocked_status : (r : Ended) (result : StoreStatus) (held : Option FilesData) → result ≡ status_of r → IsBlocked r held
    → IfSome held (λ m. (s : Slot) → IsBadSlot m s → (result ≢ status.Done) × (result ≢ status.Refused))
blocked_status r result None e h = tt
blocked_status r result (Some m) e h = λ s bad. (λ is. h s bad false (said_by r status.Done (sym e ∙ is)), λ is. h s bad true (said_by r status.Refused (sym e ∙ is)))

-- The text of a status that names no place.
placeless : (r : Ended) → (status_of r ≡ status.BadScript → ⊥) → (status_of r ≡ status.BadEvent → ⊥) → error_text (status_of r) (place_of r) ≡ error_text (status_of r) 0
placeless (Ok false) not fit = refl
placeless (Ok true) not fit = refl
placeless (Err stop.Usage) not fit = refl
placeless (Err (stop.BadScript at)) not fit = absurd (not refl)
placeless (Err stop.ReadFault) not fit = refl
placeless (Err stop.NoMemory) not fit = refl
placeless (Err stop.TooLong) not fit = refl
placeless (Err stop.StoreFault) not fit = refl
placeless (Err stop.BadManifest) not fit = refl
placeless (Err (stop.BadEvent number)) not fit = absurd (fit refl)

pub text_of_status : (r : Ended) (s : StoreStatus) → s ≡ status_of r → (s ≡ status.BadScript → ⊥) → (s ≡ status.BadEvent → ⊥) → error_text (status_of r) (place_of r) ≡ error_text s 0
text_of_status r s e not fit = placeless r (λ is. not (e ∙ is)) (λ is. fit (e ∙ is)) ∙ ap (λ x. error_text x 0) (sym e)
