-- What a status says of the main job's answer.
use Rattle.std.proofs.Common.{◌≡◌, ◌∙◌, ◌⊎◌, ◌≤◌, ℕ, Bool, true, false, List, length, Option, Some, None, Result, Ok, Err, ap, sym, subst, refl, inl, inr}
use Rattle.std.specs.Prelude.{IfSome}
use Rattle.std.proofs.lemmas.Option.{none-some}
use Rattle.edit_script.specs.Script.{EventData, IsScript}
use Rattle.edit_script.specs.Files.{EveryFits, IsUnfit}
use Rattle.edit_script.proofs.Readings.{one_reading}
use Rattle.edit_script.proofs.UnfitEvents.{not_both}
use Rattle.command_words.specs.declared.command.Command.{Command}
use Rattle.command_words.specs.declared.command.Command.TheVariants.{Build, Replay, Stats, Gen}
use Rattle.token_cli.specs.inner.Ending.{Scripted, place_of, status_of}
use Rattle.token_cli.specs.Headline.{IsLeftBy, IsScriptOf, OfBytes, OfEvents, most_bytes, reads_source}
use Rattle.token_cli.specs.Report.{whole_status}
use Rattle.token_cli.proofs.ScriptsRead.{at_some}
use Rattle.token_cli.specs.declared.stop.Stop.{Stop}
use Rattle.token_cli.specs.declared.stop.Stop.TheVariants as stop
use Rattle.token_cli.specs.declared.status.Status.{Status}
use Rattle.token_cli.specs.declared.status.Status.TheVariants as status

abbrev Ended : Type 0
Ended = Result Bool Stop

-- the answer that a status and a place come from
abbrev pub ended_of : Status → ℕ → Ended
ended_of status.Done at = Ok false
ended_of status.Refused at = Ok true
ended_of status.Usage at = Err stop.Usage
ended_of status.BadScript at = Err (stop.BadScript at)
ended_of status.ReadFault at = Err stop.ReadFault
ended_of status.WriteFault at = Err stop.WriteFault
ended_of status.NoMemory at = Err stop.NoMemory
ended_of status.TooLong at = Err stop.TooLong
ended_of status.BadEvent at = Err (stop.BadEvent at)

ended_back : (r : Ended) → r ≡ ended_of (status_of r) (place_of r)
ended_back (Ok false) = refl
ended_back (Ok true) = refl
ended_back (Err stop.Usage) = refl
ended_back (Err (stop.BadScript at)) = refl
ended_back (Err stop.ReadFault) = refl
ended_back (Err stop.WriteFault) = refl
ended_back (Err stop.NoMemory) = refl
ended_back (Err stop.TooLong) = refl
ended_back (Err (stop.BadEvent number)) = refl

pub said_by : (r : Ended) (s : Status) → status_of r ≡ s → r ≡ ended_of s (place_of r)
said_by r s e = ended_back r ∙ ap (λ x. ended_of x (place_of r)) e

pub stopped_as : (r : Ended) (s : Status) → s ≡ status_of r → (r ≡ Err stop.Usage) ⊎ (r ≡ Err stop.NoMemory) → (s ≡ status.Usage) ⊎ (s ≡ status.NoMemory)
stopped_as r s e (inl usage) = inl (e ∙ ap status_of usage)
stopped_as r s e (inr memory) = inr (e ∙ ap status_of memory)

-- the answers but for those that are ruled out
pub all_written : (r : Ended) → (r ≡ Err stop.ReadFault → ⊥) → (r ≡ Err stop.WriteFault → ⊥) → (r ≡ Err stop.TooLong → ⊥) → (r ≡ Err stop.Usage → ⊥) → ((at : ℕ) → r ≡ Err (stop.BadScript at) → ⊥) → ((number : ℕ) → r ≡ Err (stop.BadEvent number) → ⊥) → (status_of r ≡ status.Done) ⊎ ((status_of r ≡ status.Refused) ⊎ (status_of r ≡ status.NoMemory))
all_written (Ok false) read write long usage bad unfit = inl refl
all_written (Ok true) read write long usage bad unfit = inr (inl refl)
all_written (Err stop.NoMemory) read write long usage bad unfit = inr (inr refl)
all_written (Err stop.Usage) read write long usage bad unfit = absurd (usage refl)
all_written (Err stop.WriteFault) read write long usage bad unfit = absurd (write refl)
all_written (Err (stop.BadScript at)) read write long usage bad unfit = absurd (bad at refl)
all_written (Err stop.ReadFault) read write long usage bad unfit = absurd (read refl)
all_written (Err stop.TooLong) read write long usage bad unfit = absurd (long refl)
all_written (Err (stop.BadEvent number)) read write long usage bad unfit = absurd (unfit number refl)

pub not_read : (r : Ended) → ((refused : Bool) → r ≡ Ok refused → ⊥) → (r ≡ Err stop.ReadFault → ⊥) → (r ≡ Err stop.WriteFault → ⊥) → (r ≡ Err stop.TooLong → ⊥) → (r ≡ Err stop.Usage → ⊥) → ((number : ℕ) → r ≡ Err (stop.BadEvent number) → ⊥) → (status_of r ≡ status.BadScript) ⊎ (status_of r ≡ status.NoMemory)
not_read (Ok refused) wrote read write long usage unfit = absurd (wrote refused refl)
not_read (Err stop.NoMemory) wrote read write long usage unfit = inr refl
not_read (Err stop.Usage) wrote read write long usage unfit = absurd (usage refl)
not_read (Err stop.WriteFault) wrote read write long usage unfit = absurd (write refl)
not_read (Err (stop.BadScript at)) wrote read write long usage unfit = inl refl
not_read (Err stop.ReadFault) wrote read write long usage unfit = absurd (read refl)
not_read (Err stop.TooLong) wrote read write long usage unfit = absurd (long refl)
not_read (Err (stop.BadEvent number)) wrote read write long usage unfit = absurd (unfit number refl)

pub too_many : (r : Ended) → ((refused : Bool) → r ≡ Ok refused → ⊥) → (r ≡ Err stop.ReadFault → ⊥) → (r ≡ Err stop.WriteFault → ⊥) → (r ≡ Err stop.Usage → ⊥) → ((at : ℕ) → r ≡ Err (stop.BadScript at) → ⊥) → ((number : ℕ) → r ≡ Err (stop.BadEvent number) → ⊥) → (status_of r ≡ status.TooLong) ⊎ (status_of r ≡ status.NoMemory)
too_many (Ok refused) wrote read write usage bad unfit = absurd (wrote refused refl)
too_many (Err stop.NoMemory) wrote read write usage bad unfit = inr refl
too_many (Err stop.Usage) wrote read write usage bad unfit = absurd (usage refl)
too_many (Err stop.WriteFault) wrote read write usage bad unfit = absurd (write refl)
too_many (Err (stop.BadScript at)) wrote read write usage bad unfit = absurd (bad at refl)
too_many (Err stop.ReadFault) wrote read write usage bad unfit = absurd (read refl)
too_many (Err stop.TooLong) wrote read write usage bad unfit = inl refl
too_many (Err (stop.BadEvent number)) wrote read write usage bad unfit = absurd (unfit number refl)

pub not_fit : (r : Ended) → ((refused : Bool) → r ≡ Ok refused → ⊥) → (r ≡ Err stop.ReadFault → ⊥) → (r ≡ Err stop.WriteFault → ⊥) → (r ≡ Err stop.TooLong → ⊥) → (r ≡ Err stop.Usage → ⊥) → ((at : ℕ) → r ≡ Err (stop.BadScript at) → ⊥) → (status_of r ≡ status.BadEvent) ⊎ (status_of r ≡ status.NoMemory)
not_fit (Ok refused) wrote read write long usage bad = absurd (wrote refused refl)
not_fit (Err stop.NoMemory) wrote read write long usage bad = inr refl
not_fit (Err stop.Usage) wrote read write long usage bad = absurd (usage refl)
not_fit (Err stop.WriteFault) wrote read write long usage bad = absurd (write refl)
not_fit (Err (stop.BadScript at)) wrote read write long usage bad = absurd (bad at refl)
not_fit (Err stop.ReadFault) wrote read write long usage bad = absurd (read refl)
not_fit (Err stop.TooLong) wrote read write long usage bad = absurd (long refl)
not_fit (Err (stop.BadEvent number)) wrote read write long usage bad = inl refl

-- a claim about a script that isn't too long
abbrev Short : (List ℕ → Type 0) → List ℕ → Type 0
Short claim script = (length script ≤ most_bytes) × claim script

-- what holds of the script that a command acts on
of_bytes : (c : Command) (left : Option (List ℕ)) (claim : List ℕ → Type 0) (script : List ℕ) → IsScriptOf c left script → OfBytes c left claim → claim script
of_bytes Build left claim script told h = (at_some script left (Short claim) told h).1
of_bytes Replay left claim script told h = (at_some script left (Short claim) told h).1
of_bytes Stats left claim script told h = (at_some script left (Short claim) told h).1
of_bytes (Gen seed size) left claim script is h = subst claim (sym is) h

-- .. where it is that of the source
of_given : (c : Command) (left : Option (List ℕ)) (claim : List ℕ → Type 0) (script : List ℕ) → reads_source c ≡ true → left ≡ Some script → OfBytes c left claim → (length script ≤ most_bytes) × claim script
of_given Build left claim script reads told h = at_some script left (Short claim) told h
of_given Replay left claim script reads told h = at_some script left (Short claim) told h
of_given Stats left claim script reads told h = at_some script left (Short claim) told h
of_given (Gen seed size) left claim script reads told h = absurd (cc)

-- what was made of a script, by a claim about its events
abbrev pub Made : Option Command → Option (List ℕ) → Option (List ℕ) → (Command → List EventData → Type 0) → Type 0
Made command left rest claim = IfSome command (λ c. IsLeftBy c left rest × OfEvents c left (claim c))

-- .. says of these events, where they are the script's
pub of_events : (command : Option Command) (left rest : Option (List ℕ)) (claim : Command → List EventData → Type 0) (c : Command) (script : List ℕ) (es : List EventData) → command ≡ Some c → IsScriptOf c left script → IsScript script es → Made command left rest claim → claim c es
of_events command left rest claim c script es which told is h =
    let M : Command → Type 0 = λ x. IsLeftBy x left rest × OfEvents x left (claim x) in
    let S : List ℕ → Type 0 = λ s. (fs : List EventData) × IsScript s fs × claim c fs in
    let (fs, is_too, holds) = of_bytes c left S script told (at_some c command M which h).1 in
    subst (claim c) (one_reading script fs es is_too is) holds

-- .. and of the script of the source
pub of_script : (command : Option Command) (left rest : Option (List ℕ)) (claim : Command → List EventData → Type 0) (c : Command) (script : List ℕ) → command ≡ Some c → reads_source c ≡ true → left ≡ Some script → Made command left rest claim → (length script ≤ most_bytes) × ((es : List EventData) × IsScript script es × claim c es)
of_script command left rest claim c script which reads told h =
    let M : Command → Type 0 = λ x. IsLeftBy x left rest × OfEvents x left (claim x) in
    let S : List ℕ → Type 0 = λ s. (fs : List EventData) × IsScript s fs × claim c fs in
    of_given c left S script reads told (at_some c command M which h).1

-- arguments are a command or none
pub no_command : (command : Option Command) (c : Command) → command ≡ Some c → command ≡ None → ⊥
no_command command c some none = none-some c (sym none ∙ some)

-- all was written, so that is said
pub whole_said : (r : Ended) (refused : Bool) → ((x : Bool) → r ≡ Ok x → x ≡ refused) → ((why : Stop) → r ≡ Err why → ⊥) → status_of r ≡ status_of (Ok refused)
whole_said (Ok x) refused same none = ap (λ b. status_of (Ok b)) (same x refl)
whole_said (Err why) refused same none = absurd (none why refl)

-- a run that stopped for none of the causes did not stop
pub no_stop : (r : Ended) → (r ≡ Err stop.Usage → ⊥) → ((at : ℕ) → r ≡ Err (stop.BadScript at) → ⊥) → (r ≡ Err stop.ReadFault → ⊥) → (r ≡ Err stop.WriteFault → ⊥) → (r ≡ Err stop.NoMemory → ⊥) → (r ≡ Err stop.TooLong → ⊥) → ((number : ℕ) → r ≡ Err (stop.BadEvent number) → ⊥) → (why : Stop) → r ≡ Err why → ⊥
no_stop r usage bad read write memory long unfit stop.Usage e = usage e
no_stop r usage bad read write memory long unfit (stop.BadScript at) e = bad at e
no_stop r usage bad read write memory long unfit stop.ReadFault e = read e
no_stop r usage bad read write memory long unfit stop.WriteFault e = write e
no_stop r usage bad read write memory long unfit stop.NoMemory e = memory e
no_stop r usage bad read write memory long unfit stop.TooLong e = long e
no_stop r usage bad read write memory long unfit (stop.BadEvent number) e = unfit number e

pub said : (refused : Bool) → status_of (Ok refused) ≡ whole_status refused
said true = refl
said false = refl

-- where a script is one, it isn't refused
pub never_bad : (r : Ended) (c : Command) (script : List ℕ) (es : List EventData) (old new : Option (List ℕ)) (before now : ℕ) → Scripted r c script old new before now → IsScript script es → (at : ℕ) → r ≡ Err (stop.BadScript at) → ⊥
never_bad r c script es old new before now h reads at e =
    let P : Ended → Type 0 = λ x. Scripted x c script old new before now in
    (subst P e h).1.none es reads

-- where every event fits, none is refused
pub never_unfit : (r : Ended) (c : Command) (script : List ℕ) (es : List EventData) (old new : Option (List ℕ)) (before now : ℕ) → Scripted r c script old new before now → IsScript script es → EveryFits es → (number : ℕ) → r ≡ Err (stop.BadEvent number) → ⊥
never_unfit r c script es old new before now h reads fits number e =
    let P : Ended → Type 0 = λ x. Scripted x c script old new before now in
    let (fs, is, (unfit, wrote)) = subst P e h in
    not_both es number fits (subst (λ (l : List EventData). IsUnfit l number) (one_reading script fs es is reads) unfit)
