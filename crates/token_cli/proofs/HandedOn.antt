-- How a run ends over a sink that gathers, by how its main job ends and what becomes of what is held then.
use Rattle.std.proofs.Common.{◌≡◌, ◌⊎◌, inl, inr, ℕ, Bool, List, [], Option, Some, None, Result, Ok, Err, sym, refl, subst}
use Rattle.std.proofs.KnownBytes.{Keeps-refl}
use Rattle.std.proofs.lemmas.Option.{none-some}
use Rattle.std.specs.Io.KnownBytes.{Keeps}
use Rattle.tk_io.specs.Causes.{Rose}
use Rattle.edit_script.specs.Script.{EventData, IsScript}
use Rattle.command_words.specs.declared.command.Command.{Command}
use Rattle.command_words.specs.declared.command.Command.TheVariants.{Build, Replay, Stats, Gen}
use Rattle.token_cli.specs.Course.{course}
use Rattle.token_cli.specs.Headline.{OfBytes, OfSource, StopsAt, WroteEvents, WroteLess, WroteSome}
use Rattle.token_cli.specs.inner.Ending.{Ends}
use Rattle.token_cli.specs.inner.Gathered.{HandsOn}
use Rattle.token_cli.specs.declared.stop.Stop.{Stop}
use Rattle.token_cli.specs.declared.stop.Stop.TheVariants as stop
use Rattle.token_cli.proofs.Fronts.{IsBehind, all_less, none_held, nothing_given, some_less, stop_less}
use Rattle.token_cli.proofs.Outcomes.{Made}

abbrev Ended : Type 0
Ended = Result Bool Stop

-- a claim about the events of a script follows from another
of_source_as : (left : Option (List ℕ)) (P Q : List ℕ → Type 0) → ((script : List ℕ) → P script → Q script) → OfSource left P → OfSource left Q
of_source_as None P Q so h = tt
of_source_as (Some script) P Q so h = (h.0, so script h.1)

of_bytes_as : (c : Command) (left : Option (List ℕ)) (P Q : List ℕ → Type 0) → ((script : List ℕ) → P script → Q script) → OfBytes c left P → OfBytes c left Q
of_bytes_as Build left P Q so h = of_source_as left P Q so h
of_bytes_as Replay left P Q so h = of_source_as left P Q so h
of_bytes_as Stats left P Q so h = of_source_as left P Q so h
of_bytes_as (Gen seed size) left P Q so h = so _ h

made_as : (command : Option Command) (left rest : Option (List ℕ)) (P Q : Command → List EventData → Type 0) → ((c : Command) (es : List EventData) → P c es → Q c es) → Made command left rest P → Made command left rest Q
made_as None left rest P Q so h = tt
made_as (Some c) left rest P Q so h = (
  h.0,
  of_bytes_as c left (λ script. (es : List EventData) × IsScript script es × P c es) (λ script. (es : List EventData) × IsScript script es × Q c es)
      (λ script m. let (es, is, holds) = m in (es, is, so c es holds)) h.1,
)

-- a run of no command ends as before
stays : (ended r : Ended) (held : List ℕ) (first mid now : ℕ) → HandsOn ended r held first mid now → (ended ≡ Err stop.Usage) ⊎ (ended ≡ Err stop.NoMemory) → (r ≡ Err stop.Usage) ⊎ (r ≡ Err stop.NoMemory)
stays ended r held first mid now hands (inl usage) = inl (subst (λ (e : Ended). HandsOn e r held first mid now) usage hands).0
stays ended r held first mid now hands (inr memory) = inr (subst (λ (e : Ended). HandsOn e r held first mid now) memory hands)

module _ (left rest : Option (List ℕ)) (reads reads_now : ℕ) (old given last : Option (List ℕ)) (held : List ℕ) (writes mid writes_now : ℕ)
    (behind : IsBehind old given last held) where
  -- what was written, by what is known of it, and how the run ends
  abbrev IsEnd : Option Command → Ended → Type 0
  IsEnd command r =
      (known : Option (List ℕ)) × Keeps known last × Ends r command (course left rest reads reads_now old known writes writes_now) × (command ≡ None → known ≡ old)

  -- all was handed on
  whole : (c : Command) (r : Ended) → held ≡ [] → Ends r (Some c) (course left rest reads reads_now old given writes writes_now) → IsEnd (Some c) r
  whole c r none ends = (given, none_held given last held behind.1 none, ends, λ no. absurd (none-some c (sym no)))

  -- a part was
  part : (c : Command) (r : Ended) → Ends r (Some c) (course left rest reads reads_now old last writes writes_now) → IsEnd (Some c) r
  part c r ends = (last, Keeps-refl last, ends, λ no. absurd (none-some c (sym no)))

  -- nothing was given
  nothing : (command : Option Command) (r : Ended) → given ≡ old → Ends r command (course left rest reads reads_now old given writes writes_now) → IsEnd command r
  nothing command r same ends = (given, nothing_given old given last held behind same, ends, λ no. same)

  -- handing on failed after all of these claims were written
  fault : (c : Command) (claim : Command → List EventData → Type 0) → ((x : Command) (es : List EventData) → claim x es → WroteSome x es old last) → Rose writes writes_now → Made (Some c) left rest claim
      → IsEnd (Some c) (Err stop.WriteFault)
  fault c claim less rose made = part c (Err stop.WriteFault) (rose, made_as (Some c) left rest claim (λ x es. WroteSome x es old last) less made)

  abbrev less : (c : Command) → WroteLess (Some c) left rest old given → WroteLess (Some c) left rest old last
  less c h = made_as (Some c) left rest (λ x es. WroteSome x es old given) (λ x es. WroteSome x es old last) (some_less old given last held behind) h

  by_command : (c : Command) (ended r : Ended) → HandsOn ended r held writes mid writes_now → Ends ended (Some c) (course left rest reads reads_now old given writes mid) → IsEnd (Some c) r
  by_command c (Ok refused) r (inl (same, none, still)) ends = subst (IsEnd (Some c)) (sym same) (whole c (Ok refused) none ends)
  by_command c (Ok refused) r (inr (same, some, rose)) ends =
      subst (IsEnd (Some c)) (sym same) (fault c (λ x es. WroteEvents x es refused old given) (all_less old given last held behind some refused) rose ends)
  by_command c (Err (stop.BadEvent number)) r (inl (same, none, still)) ends = subst (IsEnd (Some c)) (sym same) (whole c (Err (stop.BadEvent number)) none ends)
  by_command c (Err (stop.BadEvent number)) r (inr (same, some, rose)) ends =
      subst (IsEnd (Some c)) (sym same) (fault c (λ x es. StopsAt x es number old given) (stop_less old given last held behind number) rose ends)
  by_command c (Err stop.NoMemory) r same (inl none) = subst (IsEnd (Some c)) (sym same) (nothing (Some c) (Err stop.NoMemory) none (inl none))
  by_command c (Err stop.NoMemory) r same (inr some) = subst (IsEnd (Some c)) (sym same) (part c (Err stop.NoMemory) (inr (less c some)))
  by_command c (Err stop.WriteFault) r (same, still) (rose, some) =
      subst (IsEnd (Some c)) (sym same) (part c (Err stop.WriteFault) (subst (Rose writes) (sym still) rose, less c some))
  by_command c (Err (stop.BadScript at)) r (same, still) ends = subst (IsEnd (Some c)) (sym same) (nothing (Some c) (Err (stop.BadScript at)) ends.0 ends)
  by_command c (Err stop.ReadFault) r (same, still) ends = subst (IsEnd (Some c)) (sym same) (nothing (Some c) (Err stop.ReadFault) ends.1 ends)
  by_command c (Err stop.TooLong) r (same, still) ends = subst (IsEnd (Some c)) (sym same) (nothing (Some c) (Err stop.TooLong) ends.1 ends)
  by_command c (Err stop.Usage) r hands ends = absurd (none-some c (sym ends))

  pub ends_so : (command : Option Command) (ended r : Ended) → HandsOn ended r held writes mid writes_now → Ends ended command (course left rest reads reads_now old given writes mid)
      → (command ≡ None → ((ended ≡ Err stop.Usage) ⊎ (ended ≡ Err stop.NoMemory)) × (given ≡ old)) → IsEnd command r
  ends_so None ended r hands ends words =
      let (which, same) = words refl in
      elim (stays ended r held writes mid writes_now hands which) [
        | inl is ↦ subst (IsEnd None) (sym is) (nothing None (Err stop.Usage) same refl)
        | inr is ↦ subst (IsEnd None) (sym is) (nothing None (Err stop.NoMemory) same (inl same))
      ]
  ends_so (Some c) ended r hands ends words = by_command c ended r hands ends
