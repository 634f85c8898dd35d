-- The arguments and the bytes that a source has left decide the status.
use Rattle.std.proofs.Common.{◌≡◌, ◌∙◌, ◌⊎◌, ◌≤◌, ℕ, Bool, true, false, List, length, Option, Some, None, IfSome, Result, Ok, Err, ap, sym, subst, refl, inl, inr, arith}
use Rattle.std.proofs.lemmas.Option.{none-some}
use Rattle.tk_io.specs.Causes.{Rose}
use Rattle.edit_script.specs.Script.{EventData, IsScript, IsScriptStop}
use Rattle.edit_script.specs.Files.{EveryFits, IsUnfit}
use Rattle.edit_script.proofs.Readings.{one_reading}
use Rattle.edit_script.proofs.UnfitEvents.{not_both}
use Rattle.build_plain.specs.Laws.{OneBuild}
use Rattle.command_words.specs.declared.command.Command.{Command}
use Rattle.command_words.specs.declared.command.Command.TheVariants.{Build, Replay, Stats, Gen}
use Rattle.generated_script.specs.Script.{script_of}
use Rattle.token_cli.specs.Course.{Course}
use Rattle.token_cli.specs.Headline.{StopsAt, WroteEvents, WroteWhole, events_for, is_refused, last_held, most_bytes, reads_source, telling_of}
use Rattle.token_cli.specs.Outcome.{EndsIn, IsStatusFor, IsStatusOf, IsStatusOfSource}
use Rattle.token_cli.specs.Report.{whole_status}
use Rattle.token_cli.specs.inner.Ending.{Ends, status_of}
use Rattle.token_cli.specs.declared.stop.Stop.{Stop}
use Rattle.token_cli.specs.declared.stop.Stop.TheVariants as stop
use Rattle.token_cli.specs.declared.status.Status.{Status}
use Rattle.token_cli.specs.declared.status.Status.TheVariants as status
use Rattle.token_cli.specs.declared.telling.Telling.{Telling}
use Rattle.token_cli.proofs.Outcomes.{of_script}
use Rattle.token_cli.proofs.ScriptsRead.{at_some, taken}
use Rattle.token_cli.proofs.Streams.{one_held}

abbrev Ended : Type 0
Ended = Result Bool Stop

-- what was written whole ends in what is held at its end
ends_in : (told : Telling) (es : List EventData) (refused : Bool) (old new : Option (List ℕ)) → WroteWhole told es refused old new → EndsIn es refused
ends_in told es refused old new (held, deltas, works, commits, done, count, ends, text) = (held, deltas, commits, count, ends)

-- all was written, and that is said
whole_is : (c : Command) (script : List ℕ) (es : List EventData) (refused : Bool) → IsScript script es → EveryFits es → EndsIn (events_for c es) refused → IsStatusOf c script (status_of (Ok refused))
whole_is c script es true is fits ends = (es, is, fits, ends)
whole_is c script es false is fits ends = (es, is, fits, ends)

module _ (command : Option Command) (t : Course) where
  abbrev Wrote : Bool → Command → List EventData → Type 0
  Wrote refused c es = WroteEvents c es refused t.old t.new

  abbrev Stopped : ℕ → Command → List EventData → Type 0
  Stopped number c es = StopsAt c es number t.old t.new

  -- .. of a script that the source had left
  of_source : (c : Command) (script : List ℕ) → command ≡ Some c → reads_source c ≡ true → t.left ≡ Some script
      → (r : Ended) → Ends r command t → (r ≡ Err stop.NoMemory → ⊥) → (Rose t.reads t.reads_now → ⊥) → (Rose t.writes t.writes_now → ⊥)
      → IsStatusOfSource c script (status_of r)
  of_source c script which reads told (Ok refused) ends memory no_read no_write =
      let (short, (es, is, (fits, wrote))) = of_script command t.left t.rest (Wrote refused) c script which reads told ends in
      inl (short, whole_is c script es refused is fits (ends_in (telling_of c) (events_for c es) refused t.old t.new wrote))
  of_source c script which reads told (Err (stop.BadEvent number)) ends memory no_read no_write =
      let (short, (es, is, (unfit, wrote))) = of_script command t.left t.rest (Stopped number) c script which reads told ends in
      inl (short, (es, is, (number, unfit)))
  of_source c script which reads told (Err (stop.BadScript at)) ends memory no_read no_write =
      let (short, refusal) = at_some script t.left (λ s. (length s ≤ most_bytes) × IsScriptStop s at) told ends.1.1 in
      inl (short, refusal.none)
  of_source c script which reads told (Err stop.TooLong) ends memory no_read no_write =
      let long = taken 67108865 script t.left t.rest told ends.0 in
      inr (omega (arith, long), refl)
  of_source c script which reads told (Err stop.Usage) ends memory no_read no_write = absurd (none-some c (sym ends ∙ which))
  of_source c script which reads told (Err stop.ReadFault) ends memory no_read no_write = absurd (no_read ends.0)
  of_source c script which reads told (Err stop.WriteFault) ends memory no_read no_write = absurd (no_write ends.0)
  of_source c script which reads told (Err stop.NoMemory) ends memory no_read no_write = absurd (memory refl)

-- .. of the script of `gen`
of_numbers : (seed size : ℕ) (t : Course) (r : Ended) → Ends r (Some (Gen seed size)) t → (r ≡ Err stop.NoMemory → ⊥)
    → ((at : ℕ) → r ≡ Err (stop.BadScript at) → ⊥) → (r ≡ Err stop.ReadFault → ⊥) → (r ≡ Err stop.TooLong → ⊥) → ((number : ℕ) → r ≡ Err (stop.BadEvent number) → ⊥) → (Rose t.writes t.writes_now → ⊥)
    → IsStatusOf (Gen seed size) (script_of seed size) (status_of r)
of_numbers seed size t (Ok refused) ends memory bad read long unfit no_write =
    let (es, is, (fits, wrote)) = ends.1 in
    whole_is (Gen seed size) (script_of seed size) es refused is fits (ends_in (telling_of (Gen seed size)) es refused t.old t.new wrote)
of_numbers seed size t (Err (stop.BadScript at)) ends memory bad read long unfit no_write = absurd (bad at refl)
of_numbers seed size t (Err stop.ReadFault) ends memory bad read long unfit no_write = absurd (read refl)
of_numbers seed size t (Err stop.TooLong) ends memory bad read long unfit no_write = absurd (long refl)
of_numbers seed size t (Err stop.NoMemory) ends memory bad read long unfit no_write = absurd (memory refl)
of_numbers seed size t (Err stop.WriteFault) ends memory bad read long unfit no_write = absurd (no_write ends.0)
of_numbers seed size t (Err (stop.BadEvent number)) ends memory bad read long unfit no_write = absurd (unfit number refl)
of_numbers seed size t (Err stop.Usage) ends memory bad read long unfit no_write = absurd (none-some (Gen seed size) (sym ends))

-- a claim about what a source has left, which may not be told
if_told : (left : Option (List ℕ)) (P : List ℕ → Type 0) → ((script : List ℕ) → left ≡ Some script → P script) → IfSome left P
if_told None P h = tt
if_told (Some script) P h = h script refl

-- an answer for arguments that are none
of_none : (r : Ended) → (r ≡ Err stop.NoMemory → ⊥) → (r ≡ Err stop.Usage) ⊎ (r ≡ Err stop.NoMemory) → status_of r ≡ status.Usage
of_none r memory (inl usage) = ap status_of usage
of_none r memory (inr out) = absurd (memory out)

-- .. and of any arguments
pub decided_by : (command : Option Command) (t : Course) (r : Ended) → Ends r command t
    → (command ≡ None → (r ≡ Err stop.Usage) ⊎ (r ≡ Err stop.NoMemory))
    → ((seed size : ℕ) → command ≡ Some (Gen seed size) → ((at : ℕ) → r ≡ Err (stop.BadScript at) → ⊥) × (r ≡ Err stop.ReadFault → ⊥) × (r ≡ Err stop.TooLong → ⊥) × ((number : ℕ) → r ≡ Err (stop.BadEvent number) → ⊥))
    → (r ≡ Err stop.NoMemory → ⊥) → (Rose t.reads t.reads_now → ⊥) → (Rose t.writes t.writes_now → ⊥)
    → IsStatusFor command t.left (status_of r)
decided_by None t r ends usage numbers memory no_read no_write = of_none r memory (usage refl)
decided_by (Some Build) t r ends usage numbers memory no_read no_write =
    if_told t.left (λ script. IsStatusOfSource Build script (status_of r)) (λ script told. of_source (Some Build) t Build script refl refl told r ends memory no_read no_write)
decided_by (Some Replay) t r ends usage numbers memory no_read no_write =
    if_told t.left (λ script. IsStatusOfSource Replay script (status_of r)) (λ script told. of_source (Some Replay) t Replay script refl refl told r ends memory no_read no_write)
decided_by (Some Stats) t r ends usage numbers memory no_read no_write =
    if_told t.left (λ script. IsStatusOfSource Stats script (status_of r)) (λ script told. of_source (Some Stats) t Stats script refl refl told r ends memory no_read no_write)
decided_by (Some (Gen seed size)) t r ends usage numbers memory no_read no_write =
    let (bad, read, long, unfit) = numbers seed size refl in
    of_numbers seed size t r ends memory bad read long unfit no_write

-- Two statuses of one run are one.

-- all events of the script fit, and a refusal is held at their end or none
abbrev EndsWhole : Command → List ℕ → Bool → Type 0
EndsWhole c script refused = (es : List EventData) × IsScript script es × EveryFits es × EndsIn (events_for c es) refused

-- an event of the script does not fit
abbrev HasUnfit : List ℕ → Type 0
HasUnfit script = (es : List EventData) × IsScript script es × ((number : ℕ) × IsUnfit es number)

-- what a status says: all was written, or an event does not fit, or there is no script
abbrev Says : Command → List ℕ → Status → Type 0
Says c script s =
    ((refused : Bool) × (s ≡ whole_status refused) × EndsWhole c script refused)
    ⊎ (((s ≡ status.BadEvent) × HasUnfit script)
    ⊎ ((s ≡ status.BadScript) × ((es : List EventData) → IsScript script es → ⊥)))

says : (c : Command) (script : List ℕ) (s : Status) → IsStatusOf c script s → Says c script s
says c script status.Done h = inl (false, refl, h)
says c script status.Refused h = inl (true, refl, h)
says c script status.BadScript h = inr (inr (refl, h))
says c script status.BadEvent h = inr (inl (refl, h))
says c script status.Usage h = absurd h
says c script status.ReadFault h = absurd h
says c script status.WriteFault h = absurd h
says c script status.NoMemory h = absurd h
says c script status.TooLong h = absurd h

one_refusal : (one : OneBuild) (es : List EventData) (x y : Bool) → EndsIn es x → EndsIn es y → x ≡ y
one_refusal one es x y (held, deltas, commits, count, ends) (others, changes, all, total, ends_too) =
    sym ends ∙ (ap (λ h. is_refused (last_held h)) (one_held one es held others deltas changes commits all (count ∙ sym total)) ∙ ends_too)

-- not every event fits where one does not
fits_or_unfit : (c : Command) (script : List ℕ) (refused : Bool) → EndsWhole c script refused → HasUnfit script → ⊥
fits_or_unfit c script refused (es, reads, fits, ends) (fs, reads_too, (number, unfit)) =
    not_both es number fits (subst (λ (l : List EventData). IsUnfit l number) (one_reading script fs es reads_too reads) unfit)

one_saying : (one : OneBuild) (c : Command) (script : List ℕ) (a b : Status) → Says c script a → Says c script b → a ≡ b
one_saying one c script a b (inl (x, is_a, (es, reads, fits, ends))) (inl (y, is_b, (fs, reads_too, fits_too, ends_too))) =
    let same : es ≡ fs = one_reading script es fs reads reads_too in
    let P : List EventData → Type 0 = λ l. EndsIn (events_for c l) y in
    is_a ∙ (ap whole_status (one_refusal one (events_for c es) x y ends (subst P (sym same) ends_too)) ∙ sym is_b)
one_saying one c script a b (inl (x, is_a, whole)) (inr (inl (is_b, unfit))) = absurd (fits_or_unfit c script x whole unfit)
one_saying one c script a b (inl (x, is_a, whole)) (inr (inr (is_b, none))) = absurd (none whole.0 whole.1)
one_saying one c script a b (inr (inl (is_a, unfit))) (inl (y, is_b, whole)) = absurd (fits_or_unfit c script y whole unfit)
one_saying one c script a b (inr (inl (is_a, unfit))) (inr (inl (is_b, unfit_too))) = is_a ∙ sym is_b
one_saying one c script a b (inr (inl (is_a, unfit))) (inr (inr (is_b, none))) = absurd (none unfit.0 unfit.1)
one_saying one c script a b (inr (inr (is_a, none))) (inl (y, is_b, whole)) = absurd (none whole.0 whole.1)
one_saying one c script a b (inr (inr (is_a, none))) (inr (inl (is_b, unfit))) = absurd (none unfit.0 unfit.1)
one_saying one c script a b (inr (inr (is_a, none))) (inr (inr (is_b, none_too))) = is_a ∙ sym is_b

one_of_bytes : (one : OneBuild) (c : Command) (script : List ℕ) (a b : Status) → IsStatusOf c script a → IsStatusOf c script b → a ≡ b
one_of_bytes one c script a b left right = one_saying one c script a b (says c script a left) (says c script b right)

one_of_source : (one : OneBuild) (c : Command) (script : List ℕ) (a b : Status) → IsStatusOfSource c script a → IsStatusOfSource c script b → a ≡ b
one_of_source one c script a b (inl (short, left)) (inl (short_too, right)) = one_of_bytes one c script a b left right
one_of_source one c script a b (inl (short, left)) (inr (long, right)) = absurd (omega (arith, short, long))
one_of_source one c script a b (inr (long, left)) (inl (short, right)) = absurd (omega (arith, short, long))
one_of_source one c script a b (inr (long, left)) (inr (long_too, right)) = left ∙ sym right

pub one_for : (one : OneBuild) (command : Option Command) (script : List ℕ) (a b : Status) → IsStatusFor command (Some script) a → IsStatusFor command (Some script) b → a ≡ b
one_for one None script a b left right = left ∙ sym right
one_for one (Some Build) script a b left right = one_of_source one Build script a b left right
one_for one (Some Replay) script a b left right = one_of_source one Replay script a b left right
one_for one (Some Stats) script a b left right = one_of_source one Stats script a b left right
one_for one (Some (Gen seed size)) script a b left right = one_of_bytes one (Gen seed size) (script_of seed size) a b left right
