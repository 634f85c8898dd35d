-- How a run ends, and what its status says.
use Rattle.std.proofs.Common.{◌≡◌, ◌⊎◌, inl, inr, ◌+◌, ◌≤◌, ◌<◌, ◌∙◌, ℕ, List, length, Option, None, Some, Ok, Err, ap, sym, subst, refl}
use Rattle.std.specs.Prelude.{IsErrAnd}
use Rattle.std.specs.Io.KnownBytes.{Consumes, IsAtEnd}
use Rattle.tk_io.specs.Causes.{Rose}
use Rattle.tk_io.specs.Reading.{TakesExactly}
use Rattle.tk_io.specs.declared.source.ReadStop.{ReadStop}
use Rattle.tk_io.specs.declared.source.ReadStop.TheVariants as reading
use Rattle.edit_script.specs.Script.{EventData, IsScript, IsScriptStop}
use Rattle.edit_script.specs.Files.{EveryFits, IsUnfit}
use Rattle.token_cli.specs.Headline.{most_bytes}
use Rattle.token_cli.specs.inner.Causes.{of_read}
use Rattle.token_cli.specs.declared.stop.Stop.{Stop}
use Rattle.token_cli.specs.declared.stop.Stop.TheVariants as stop
use Rattle.token_cli.proofs.ScriptsRead.{every_fits, has_none, is_read, longer, of_source, one_unfit, too_long}
use Rattle.explain_cli.specs.Asked.{Asks, AsksNothing}
use Rattle.explain_cli.specs.Explained.{CutOf, IsAnswered, RefusedOf, WroteOf}
use Rattle.explain_cli.specs.declared.answer.Refusal.TheVariants as refusal
use Rattle.explain_cli.specs.declared.asking.Question.{Question}
use Rattle.explain_cli.specs.declared.status.ExplainStatus.{ExplainStatus}
use Rattle.explain_cli.specs.declared.status.ExplainStatus.TheVariants as status
use Rattle.explain_cli.specs.inner.Ending.{Course, Ended, Ends, Scripted, course, place_of, status_of}

-- by an answer's cause
pub ends_err : (r : Ended) (x : Stop) (words : List (List ℕ)) (t : Course) → IsErrAnd r (λ e. e ≡ x) → Ends (Err x) words t → Ends r words t
ends_err (Ok y) x words t h ends = absurd h
ends_err (Err e) x words t h ends = subst (λ (s : Stop). Ends (Err s) words t) (sym h) ends

pub scripted_err : (r : Ended) (x : Stop) (text : List ℕ) (q : Question) (old new : Option (List ℕ)) (before now : ℕ) → IsErrAnd r (λ e. e ≡ x)
    → Scripted (Err x) text q old new before now → Scripted r text q old new before now
scripted_err (Ok y) x text q old new before now h made = absurd h
scripted_err (Err e) x text q old new before now h made = subst (λ (s : Stop). Scripted (Err s) text q old new before now) (sym h) made

-- Reading that stopped.
pub read_ends : (s : ReadStop) (words : List (List ℕ)) (left rest : Option (List ℕ)) (reads reads_now : ℕ) (held : Option (List ℕ)) (faults : ℕ)
    → (s ≡ reading.ReadFault → Rose reads reads_now) → (s ≡ reading.TooLong → TakesExactly (most_bytes + 1) left rest)
    → Ends (Err (of_read s)) words (course left rest reads reads_now held held faults faults)
read_ends reading.ReadFault words left rest reads reads_now held faults rose long = (rose refl, refl)
read_ends reading.TooLong words left rest reads reads_now held faults rose long = (long refl, refl)
read_ends reading.NoMemory words left rest reads reads_now held faults rose long = refl

-- A script that was read to its end.
module _ (left rest : Option (List ℕ)) (script : List ℕ) (all : Consumes left rest script) (end : IsAtEnd rest) (short : length script ≤ most_bytes)
    (words : List (List ℕ)) (q : Question) (asked : Asks words q) (reads reads_now : ℕ) (old new : Option (List ℕ)) (faults faults_now : ℕ) where
  pub source_ends : (r : Ended) → Scripted r script q old new faults faults_now → Ends r words (course left rest reads reads_now old new faults faults_now)
  source_ends (Ok None) made =
      (q, asked, end, of_source left rest script (λ text. (es : List EventData) × IsScript text es × WroteOf es q old new) all end short made)
  source_ends (Ok (Some why)) made =
      (q, asked, end, of_source left rest script (λ text. (es : List EventData) × IsScript text es × RefusedOf why es q old new) all end short made)
  source_ends (Err (stop.BadScript at)) (same, bad) = ((end, of_source left rest script (λ text. IsScriptStop text at) all end short bad), same)
  source_ends (Err (stop.BadEvent number)) (same, made) =
      ((end, of_source left rest script (λ text. (es : List EventData) × IsScript text es × IsUnfit es number) all end short made), same)
  source_ends (Err stop.NoMemory) made = made
  source_ends (Err stop.WriteFault) (rose, made) =
      (rose, (q, asked, end, of_source left rest script (λ text. (es : List EventData) × IsScript text es × CutOf es q old new) all end short made))
  source_ends (Err stop.Usage) made = absurd made
  source_ends (Err stop.ReadFault) made = absurd made
  source_ends (Err stop.TooLong) made = absurd made

-- What a status says of the answer.

abbrev pub ended_of : ExplainStatus → ℕ → Ended
ended_of status.Done at = Ok None
ended_of status.NoFile at = Ok (Some refusal.NoFile)
ended_of status.BadCertificate at = Ok (Some refusal.BadCertificate)
ended_of status.Refused at = Ok (Some refusal.Refused)
ended_of status.NoPermutation at = Ok (Some refusal.NoPermutation)
ended_of status.NoPlace at = Ok (Some refusal.NoPlace)
ended_of status.Usage at = Err stop.Usage
ended_of status.BadScript at = Err (stop.BadScript at)
ended_of status.ReadFault at = Err stop.ReadFault
ended_of status.WriteFault at = Err stop.WriteFault
ended_of status.NoMemory at = Err stop.NoMemory
ended_of status.TooLong at = Err stop.TooLong
ended_of status.BadEvent at = Err (stop.BadEvent at)

ended_back : (r : Ended) → r ≡ ended_of (status_of r) (place_of r)
ended_back (Ok None) = refl
ended_back (Ok (Some refusal.NoFile)) = refl
ended_back (Ok (Some refusal.BadCertificate)) = refl
ended_back (Ok (Some refusal.Refused)) = refl
ended_back (Ok (Some refusal.NoPermutation)) = refl
ended_back (Ok (Some refusal.NoPlace)) = refl
ended_back (Err stop.Usage) = refl
ended_back (Err (stop.BadScript at)) = refl
ended_back (Err stop.ReadFault) = refl
ended_back (Err stop.WriteFault) = refl
ended_back (Err stop.NoMemory) = refl
ended_back (Err stop.TooLong) = refl
ended_back (Err (stop.BadEvent number)) = refl

pub said_by : (r : Ended) (s : ExplainStatus) → status_of r ≡ s → r ≡ ended_of s (place_of r)
said_by r s e = ended_back r ∙ ap (λ x. ended_of x (place_of r)) e

-- the answer of a run that is told by this status ended so
pub ends_as : (r : Ended) (result s : ExplainStatus) (words : List (List ℕ)) (t : Course) → Ends r words t → result ≡ status_of r → result ≡ s → Ends (ended_of s (place_of r)) words t
ends_as r result s words t h e is = subst (λ (y : Ended). Ends y words t) (said_by r s (sym e ∙ is)) h

module _ (words : List (List ℕ)) (q : Question) (asked : Asks words q) (left rest : Option (List ℕ)) (script : List ℕ) (told : left ≡ Some script) (reads reads_now : ℕ) (unread : Rose reads reads_now → ⊥) (old new : Option (List ℕ)) (faults faults_now : ℕ) where
  abbrev there : Course
  there = course left rest reads reads_now old new faults faults_now

  pub completed : (r : Ended) → length script ≤ most_bytes → (es : List EventData) → IsScript script es → EveryFits es → (Rose faults faults_now → ⊥) → Ends r words there → IsAnswered (status_of r)
  completed (Ok why) short es is fits good h = inl (why, refl)
  completed (Err stop.NoMemory) short es is fits good h = inr refl
  completed (Err stop.Usage) short es is fits good h = absurd (h q asked)
  completed (Err (stop.BadScript at)) short es is fits good h = is_read left rest script told es at is h.0.1
  completed (Err stop.ReadFault) short es is fits good h = absurd (unread h.0)
  completed (Err stop.TooLong) short es is fits good h = too_long left rest script told h.0 short
  completed (Err stop.WriteFault) short es is fits good h = absurd (good h.0)
  completed (Err (stop.BadEvent number)) short es is fits good h = every_fits left rest script told es number is fits h.0.1

  pub refused_event : (r : Ended) → length script ≤ most_bytes → (es : List EventData) (number : ℕ) → IsScript script es → IsUnfit es number → Ends r words there → (status_of r ≡ status.BadEvent) ⊎ (status_of r ≡ status.NoMemory)
  refused_event (Ok None) short es number is unfit (other, asks, end, h) = one_unfit left rest script told es number is unfit (λ fs. WroteOf fs other old new) (λ fs made. made.1.0) h
  refused_event (Ok (Some why)) short es number is unfit (other, asks, end, h) = one_unfit left rest script told es number is unfit (λ fs. RefusedOf why fs other old new) (λ fs made. made.0.0) h
  refused_event (Err stop.NoMemory) short es number is unfit h = inr refl
  refused_event (Err stop.Usage) short es number is unfit h = absurd (h q asked)
  refused_event (Err (stop.BadScript at)) short es number is unfit h = is_read left rest script told es at is h.0.1
  refused_event (Err stop.ReadFault) short es number is unfit h = absurd (unread h.0)
  refused_event (Err stop.TooLong) short es number is unfit h = too_long left rest script told h.0 short
  refused_event (Err stop.WriteFault) short es number is unfit (rose, (other, asks, end, h)) = one_unfit left rest script told es number is unfit (λ fs. CutOf fs other old new) (λ fs made. made.1.0) h
  refused_event (Err (stop.BadEvent n)) short es number is unfit h = inl refl

  pub unreadable : (r : Ended) → length script ≤ most_bytes → ((es : List EventData) → IsScript script es → ⊥) → Ends r words there → (status_of r ≡ status.BadScript) ⊎ (status_of r ≡ status.NoMemory)
  unreadable (Ok None) short none (other, asks, end, h) = has_none left rest script told none (λ es. WroteOf es other old new) h
  unreadable (Ok (Some why)) short none (other, asks, end, h) = has_none left rest script told none (λ es. RefusedOf why es other old new) h
  unreadable (Err stop.NoMemory) short none h = inr refl
  unreadable (Err stop.Usage) short none h = absurd (h q asked)
  unreadable (Err (stop.BadScript at)) short none h = inl refl
  unreadable (Err stop.ReadFault) short none h = absurd (unread h.0)
  unreadable (Err stop.TooLong) short none h = too_long left rest script told h.0 short
  unreadable (Err stop.WriteFault) short none (rose, (other, asks, end, h)) = has_none left rest script told none (λ es. CutOf es other old new) h
  unreadable (Err (stop.BadEvent number)) short none h = has_none left rest script told none (λ es. IsUnfit es number) h.0.1

  pub endless : (r : Ended) → most_bytes < length script → Ends r words there → (status_of r ≡ status.TooLong) ⊎ (status_of r ≡ status.NoMemory)
  endless (Ok None) more (other, asks, end, h) = longer left rest script told more (λ text. (es : List EventData) × IsScript text es × WroteOf es other old new) h
  endless (Ok (Some why)) more (other, asks, end, h) = longer left rest script told more (λ text. (es : List EventData) × IsScript text es × RefusedOf why es other old new) h
  endless (Err stop.NoMemory) more h = inr refl
  endless (Err stop.Usage) more h = absurd (h q asked)
  endless (Err (stop.BadScript at)) more h = longer left rest script told more (λ text. IsScriptStop text at) h.0.1
  endless (Err stop.ReadFault) more h = absurd (unread h.0)
  endless (Err stop.TooLong) more h = inl refl
  endless (Err stop.WriteFault) more (rose, (other, asks, end, h)) = longer left rest script told more (λ text. (es : List EventData) × IsScript text es × CutOf es other old new) h
  endless (Err (stop.BadEvent number)) more h = longer left rest script told more (λ text. (es : List EventData) × IsScript text es × IsUnfit es number) h.0.1

-- Words that ask nothing, or memory that ran out over them.
pub question_ends : (s : Stop) (words : List (List ℕ)) (left : Option (List ℕ)) (reads : ℕ) (held : Option (List ℕ)) (faults : ℕ)
    → (s ≡ stop.Usage) ⊎ (s ≡ stop.NoMemory) → (s ≡ stop.Usage → AsksNothing words) → Ends (Err s) words (course left left reads reads held held faults faults)
question_ends s words left reads held faults (inl is) usage = subst (λ (x : Stop). Ends (Err x) words (course left left reads reads held held faults faults)) (sym is) (usage is)
question_ends s words left reads held faults (inr is) usage = subst (λ (x : Stop). Ends (Err x) words (course left left reads reads held held faults faults)) (sym is) refl
