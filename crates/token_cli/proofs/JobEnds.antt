-- How the main job ends, by what the calls in it answer.
use Rattle.std.proofs.Common.{◌≡◌, ◌+◌, ◌≤◌, inl, inr, ℕ, Bool, true, List, length, Option, Some, None, Result, Ok, Err, sym, subst, refl}
use Rattle.std.specs.Prelude.{IsErrAnd}
use Rattle.std.specs.Io.KnownBytes.{Consumes, IsAtEnd}
use Rattle.tk_io.specs.Causes.{Rose}
use Rattle.tk_io.specs.Reading.{TakesExactly}
use Rattle.tk_io.specs.declared.source.ReadStop.{ReadStop}
use Rattle.tk_io.specs.declared.source.ReadStop.TheVariants as reading
use Rattle.command_words.specs.declared.command.Command.{Command}
use Rattle.command_words.specs.declared.command.Command.TheVariants.{Build, Replay, Stats, Gen}
use Rattle.command_words.specs.declared.command.WordStop.{WordStop}
use Rattle.command_words.specs.declared.command.WordStop.TheVariants as words
use Rattle.generated_script.specs.Script.{script_of}
use Rattle.edit_script.specs.Script.{IsScriptStop}
use Rattle.token_cli.specs.Headline.{IsLeftBy, OfBytes, StopsAt, WroteEvents, WroteSome, most_bytes, reads_source}
use Rattle.token_cli.specs.inner.Causes.{of_read, of_words}
use Rattle.token_cli.proofs.ScriptsRead.{of_source}
use Rattle.token_cli.specs.Course.{Course, course}
use Rattle.token_cli.specs.inner.Ending.{Ends, OfScript, Scripted}
use Rattle.token_cli.specs.declared.stop.Stop.{Stop}
use Rattle.token_cli.specs.declared.stop.Stop.TheVariants as stop

abbrev Ended : Type 0
Ended = Result Bool Stop

-- one answer is this one
pub ends_as : (r : Ended) (command : Option Command) (t : Course) → Ends r command t → (x : Ended) → r ≡ x → Ends x command t
ends_as r command t h x e = subst (λ (y : Ended). Ends y command t) e h

-- .. by its cause
pub ends_err : (r : Ended) (x : Stop) (command : Option Command) (t : Course) → IsErrAnd r (λ e. e ≡ x) → Ends (Err x) command t → Ends r command t
ends_err (Ok y) x command t h ends = absurd h
ends_err (Err e) x command t h ends = subst (λ (s : Stop). Ends (Err s) command t) (sym h) ends

-- Reading that stopped.
pub read_ends : (s : ReadStop) (command : Option Command) (left rest : Option (List ℕ)) (reads reads_now : ℕ) (out : Option (List ℕ)) (writes : ℕ)
    → (s ≡ reading.ReadFault → Rose reads reads_now) → (s ≡ reading.TooLong → TakesExactly (most_bytes + 1) left rest)
    → Ends (Err (of_read s)) command (course left rest reads reads_now out out writes writes)
read_ends reading.ReadFault command left rest reads reads_now out writes rose long = (rose refl, refl)
read_ends reading.TooLong command left rest reads reads_now out writes rose long = (long refl, refl)
read_ends reading.NoMemory command left rest reads reads_now out writes rose long = inl refl

-- Words that are no command.
pub words_end : (s : WordStop) (command : Option Command) (left : Option (List ℕ)) (reads : ℕ) (out : Option (List ℕ)) (writes : ℕ)
    → (s ≡ words.Usage → command ≡ None) → Ends (Err (of_words s)) command (course left left reads reads out out writes writes)
words_end words.Usage command left reads out writes none = none refl
words_end words.NoMemory command left reads out writes none = inl refl

-- A script that was read to its end.

module _ (c : Command) (reads_it : reads_source c ≡ true) (left rest : Option (List ℕ)) (script : List ℕ) (all : Consumes left rest script) (end : IsAtEnd rest) (short : length script ≤ most_bytes) where
  left_by : (d : Command) → reads_source d ≡ true → IsLeftBy d left rest
  left_by Build is = end
  left_by Replay is = end
  left_by Stats is = end
  left_by (Gen seed size) is = absurd (cc)

  of_bytes : (d : Command) → reads_source d ≡ true → (claim : List ℕ → Type 0) → claim script → OfBytes d left claim
  of_bytes Build is claim holds = of_source left rest script claim all end short holds
  of_bytes Replay is claim holds = of_source left rest script claim all end short holds
  of_bytes Stats is claim holds = of_source left rest script claim all end short holds
  of_bytes (Gen seed size) is claim holds = absurd (cc)

  module _ (reads reads_now : ℕ) (old new : Option (List ℕ)) (writes writes_now : ℕ) where
    part_of : OfScript script (λ es. WroteSome c es old new) → OfBytes c left (λ s. OfScript s (λ es. WroteSome c es old new))
    part_of part = of_bytes c reads_it (λ s. OfScript s (λ es. WroteSome c es old new)) part

    pub source_ends : (r : Ended) → Scripted r c script old new writes writes_now → Ends r (Some c) (course left rest reads reads_now old new writes writes_now)
    source_ends (Ok refused) made = (left_by c reads_it, of_bytes c reads_it (λ s. OfScript s (λ es. WroteEvents c es refused old new)) made)
    source_ends (Err stop.NoMemory) (inl same) = inl same
    source_ends (Err stop.NoMemory) (inr part) = inr (left_by c reads_it, part_of part)
    source_ends (Err stop.WriteFault) (rose, part) = (rose, (left_by c reads_it, part_of part))
    source_ends (Err (stop.BadEvent number)) made = (left_by c reads_it, of_bytes c reads_it (λ s. OfScript s (λ es. StopsAt c es number old new)) made)
    source_ends (Err (stop.BadScript at)) (same, bad) = (same, (end, of_source left rest script (λ s. IsScriptStop s at) all end short bad))
    source_ends (Err stop.Usage) made = absurd made
    source_ends (Err stop.ReadFault) made = absurd made
    source_ends (Err stop.TooLong) made = absurd made

-- A script that is made of numbers.
pub generated_ends : (seed size : ℕ) (left : Option (List ℕ)) (reads : ℕ) (old new : Option (List ℕ)) (writes writes_now : ℕ) (r : Ended)
    → Scripted r (Gen seed size) (script_of seed size) old new writes writes_now → ((at : ℕ) → r ≡ Err (stop.BadScript at) → ⊥)
    → Ends r (Some (Gen seed size)) (course left left reads reads old new writes writes_now)
generated_ends seed size left reads old new writes writes_now (Ok refused) made never = (refl, made)
generated_ends seed size left reads old new writes writes_now (Err stop.NoMemory) (inl same) never = inl same
generated_ends seed size left reads old new writes writes_now (Err stop.NoMemory) (inr part) never = inr (refl, part)
generated_ends seed size left reads old new writes writes_now (Err stop.WriteFault) (rose, part) never = (rose, (refl, part))
generated_ends seed size left reads old new writes writes_now (Err (stop.BadEvent number)) made never = (refl, made)
generated_ends seed size left reads old new writes writes_now (Err (stop.BadScript at)) made never = absurd (never at refl)
generated_ends seed size left reads old new writes writes_now (Err stop.Usage) made never = absurd made
generated_ends seed size left reads old new writes writes_now (Err stop.ReadFault) made never = absurd made
generated_ends seed size left reads old new writes writes_now (Err stop.TooLong) made never = absurd made
