-- How a run ends, and what its status says.
use Rattle.std.proofs.Common.{◌≡◌, ◌⊎◌, inl, inr, ◌+◌, ◌≤◌, ◌<◌, ◌∙◌, ℕ, List, length, Option, Some, Result, Ok, Err, ap, sym, subst, refl}
use Rattle.std.specs.Prelude.{IsErrAnd, IsErrOf}
use Rattle.std.specs.Io.KnownBytes.{Consumes, IsAtEnd}
use Rattle.tk_io.specs.Causes.{Rose}
use Rattle.tk_io.specs.FilesData.{FilesData}
use Rattle.tk_io.specs.Reading.{TakesExactly}
use Rattle.tk_io.specs.declared.source.ReadStop.{ReadStop}
use Rattle.tk_io.specs.declared.source.ReadStop.TheVariants as reading
use Rattle.edit_script.specs.Script.{EventData, IsScript, IsScriptStop}
use Rattle.edit_script.specs.Files.{AreFilesAfter, EveryFits, IsUnfit}
use Rattle.token_cli.specs.Headline.{most_bytes}
use Rattle.token_cli.specs.inner.Causes.{of_read}
use Rattle.token_cli.specs.declared.stop.Stop.{Stop}
use Rattle.token_cli.specs.declared.stop.Stop.TheVariants as stop
use Rattle.token_cli.proofs.ScriptsRead.{every_fits, has_none, is_read, longer, of_events, of_source, one_unfit, too_long}
use Rattle.theme_css.specs.Themes.{HasBadName, HasRefusal}
use Rattle.theme_cli.specs.Themed.{CutOf, IsStatusOf, OfFiles, WroteOf}
use Rattle.theme_cli.specs.inner.Ending.{Course, Ends, Scripted, course, matter_of, place_of, status_of}
use Rattle.theme_cli.specs.declared.answer.ThemeAnswer.{ThemeAnswer}
use Rattle.theme_cli.specs.declared.answer.ThemeAnswer.TheVariants as answer
use Rattle.theme_cli.specs.declared.status.ThemeStatus.{ThemeStatus}
use Rattle.theme_cli.specs.declared.status.ThemeStatus.TheVariants as status

abbrev pub Ended : Type 0
Ended = Result ThemeAnswer Stop

-- by an answer's cause
pub ends_err : (r : Ended) (x : Stop) (words : ℕ) (t : Course) → IsErrAnd r (λ e. e ≡ x) → Ends (Err x) words t → Ends r words t
ends_err (Ok y) x words t h ends = absurd h
ends_err (Err e) x words t h ends = subst (λ (s : Stop). Ends (Err s) words t) (sym h) ends

pub scripted_err : (r : Ended) (x : Stop) (text : List ℕ) (old new : Option (List ℕ)) (before now : ℕ) → IsErrAnd r (λ e. e ≡ x) → Scripted (Err x) text old new before now → Scripted r text old new before now
scripted_err (Ok y) x text old new before now h made = absurd h
scripted_err (Err e) x text old new before now h made = subst (λ (s : Stop). Scripted (Err s) text old new before now) (sym h) made

-- a run that did not stop since the script is too long read no more than the limit
pub not_long : {T : Type 0} (r : Ended) (s : ReadStop) → IsErrAnd r (λ e. e ≡ of_read s) → (r ≡ Err stop.TooLong → ⊥) → IsErrOf {T = T} (Err s) reading.TooLong → ⊥
not_long (Ok y) s h not is = absurd h
not_long {T} (Err e) s h not is = not (ap Err (h ∙ ap of_read (same s reading.TooLong is)))
  where
    same : (x y : ReadStop) → IsErrOf {T = T} (Err x) y → x ≡ y
    same x y e = cc

-- Reading that stopped.
pub read_ends : (s : ReadStop) (words : ℕ) (left rest : Option (List ℕ)) (reads reads_now : ℕ) (held : Option (List ℕ)) (faults : ℕ)
    → (s ≡ reading.ReadFault → Rose reads reads_now) → (s ≡ reading.TooLong → TakesExactly (most_bytes + 1) left rest)
    → Ends (Err (of_read s)) words (course left rest reads reads_now held held faults faults)
read_ends reading.ReadFault words left rest reads reads_now held faults rose long = (rose refl, refl)
read_ends reading.TooLong words left rest reads reads_now held faults rose long = (long refl, refl)
read_ends reading.NoMemory words left rest reads reads_now held faults rose long = refl

-- A script that was read to its end.
module _ (left rest : Option (List ℕ)) (script : List ℕ) (all : Consumes left rest script) (end : IsAtEnd rest) (short : length script ≤ most_bytes) (words : ℕ) (none : words ≡ 0) (reads reads_now : ℕ) (old new : Option (List ℕ)) (faults faults_now : ℕ) where
  pub source_ends : (r : Ended) → Scripted r script old new faults faults_now → Ends r words (course left rest reads reads_now old new faults faults_now)
  source_ends (Ok (answer.Sheet sheet)) made = (none, (end, of_source left rest script (λ text. (es : List EventData) × IsScript text es × WroteOf es old new) all end short made))
  source_ends (Ok (answer.Refused path)) (same, made) =
      (none, (end, of_source left rest script (λ text. (es : List EventData) × IsScript text es × OfFiles es (λ files. HasRefusal files path)) all end short made), same)
  source_ends (Ok (answer.Name text)) (same, made) =
      let (name, is, scripted) = made in
      (none, (name, is, (end, of_source left rest script (λ bytes. (es : List EventData) × IsScript bytes es × OfFiles es (λ files. HasBadName files name)) all end short scripted)), same)
  source_ends (Err (stop.BadScript at)) (same, bad) = ((end, of_source left rest script (λ text. IsScriptStop text at) all end short bad), same)
  source_ends (Err (stop.BadEvent number)) (same, made) = ((end, of_source left rest script (λ text. (es : List EventData) × IsScript text es × IsUnfit es number) all end short made), same)
  source_ends (Err stop.NoMemory) made = made
  source_ends (Err stop.WriteFault) (rose, made) = (rose, (end, of_source left rest script (λ text. (es : List EventData) × IsScript text es × CutOf es old new) all end short made))
  source_ends (Err stop.Usage) made = absurd made
  source_ends (Err stop.ReadFault) made = absurd made
  source_ends (Err stop.TooLong) made = absurd made

-- What a status says of the answer.

abbrev pub ended_of : ThemeStatus → ℕ → List ℕ → Ended
ended_of status.Done at matter = Ok (answer.Sheet matter)
ended_of status.Refused at matter = Ok (answer.Refused matter)
ended_of status.Usage at matter = Err stop.Usage
ended_of status.BadScript at matter = Err (stop.BadScript at)
ended_of status.ReadFault at matter = Err stop.ReadFault
ended_of status.WriteFault at matter = Err stop.WriteFault
ended_of status.NoMemory at matter = Err stop.NoMemory
ended_of status.TooLong at matter = Err stop.TooLong
ended_of status.BadEvent at matter = Err (stop.BadEvent at)
ended_of status.Name at matter = Ok (answer.Name matter)

ended_back : (r : Ended) → r ≡ ended_of (status_of r) (place_of r) (matter_of r)
ended_back (Ok (answer.Sheet sheet)) = refl
ended_back (Ok (answer.Refused path)) = refl
ended_back (Ok (answer.Name text)) = refl
ended_back (Err stop.Usage) = refl
ended_back (Err (stop.BadScript at)) = refl
ended_back (Err stop.ReadFault) = refl
ended_back (Err stop.WriteFault) = refl
ended_back (Err stop.NoMemory) = refl
ended_back (Err stop.TooLong) = refl
ended_back (Err (stop.BadEvent number)) = refl

pub said_by : (r : Ended) (s : ThemeStatus) → status_of r ≡ s → r ≡ ended_of s (place_of r) (matter_of r)
said_by r s e = ended_back r ∙ ap (λ x. ended_of x (place_of r) (matter_of r)) e

-- the answer of a run that is told by this status ended so
pub ends_as : (r : Ended) (result s : ThemeStatus) (words : ℕ) (t : Course) → Ends r words t → result ≡ status_of r → result ≡ s → Ends (ended_of s (place_of r) (matter_of r)) words t
ends_as r result s words t h e is = subst (λ (y : Ended). Ends y words t) (said_by r s (sym e ∙ is)) h

-- the status of the events' files, or memory ran out
abbrev pub IsOfFiles : List EventData → ThemeStatus → Type 0
IsOfFiles es s = ((files : FilesData) × AreFilesAfter es files × IsStatusOf files s) ⊎ (s ≡ status.NoMemory)

module _ (words : ℕ) (no_words : words ≡ 0) (left rest : Option (List ℕ)) (script : List ℕ) (told : left ≡ Some script) (reads reads_now : ℕ) (unread : Rose reads reads_now → ⊥) (old new : Option (List ℕ)) (faults faults_now : ℕ) where
  abbrev there : Course
  there = course left rest reads reads_now old new faults faults_now

  wrote : (es : List EventData) → WroteOf es old new → IsOfFiles es status.Done
  wrote es (sheet, (fits, (files, after, is)), appended) = inl (files, after, (sheet, is))

  refuses : (es : List EventData) (path : List ℕ) → OfFiles es (λ files. HasRefusal files path) → IsOfFiles es status.Refused
  refuses es path (fits, (files, after, is)) = inl (files, after, (path, is))

  misnames : (es : List EventData) (name : List ℕ) → OfFiles es (λ files. HasBadName files name) → IsOfFiles es status.Name
  misnames es name (fits, (files, after, is)) = inl (files, after, (name, is))

  pub completed : (r : Ended) → length script ≤ most_bytes → (es : List EventData) → IsScript script es → EveryFits es → (Rose faults faults_now → ⊥) → Ends r words there → IsOfFiles es (status_of r)
  completed (Ok (answer.Sheet sheet)) short es is fits good h = wrote es (of_events left rest script told es is (λ fs. WroteOf fs old new) h.1.1)
  completed (Ok (answer.Refused path)) short es is fits good h = refuses es path (of_events left rest script told es is (λ fs. OfFiles fs (λ files. HasRefusal files path)) h.1.1)
  completed (Ok (answer.Name text)) short es is fits good h =
      let (name, spelled, bad) = h.1 in
      misnames es name (of_events left rest script told es is (λ fs. OfFiles fs (λ files. HasBadName files name)) bad.1)
  completed (Err stop.NoMemory) short es is fits good h = inr refl
  completed (Err stop.Usage) short es is fits good h = absurd (h no_words)
  completed (Err (stop.BadScript at)) short es is fits good h = is_read left rest script told es at is h.0.1
  completed (Err stop.ReadFault) short es is fits good h = absurd (unread h.0)
  completed (Err stop.TooLong) short es is fits good h = too_long left rest script told h.0 short
  completed (Err stop.WriteFault) short es is fits good h = absurd (good h.0)
  completed (Err (stop.BadEvent number)) short es is fits good h = every_fits left rest script told es number is fits h.0.1

  pub refused_event : (r : Ended) → length script ≤ most_bytes → (es : List EventData) (number : ℕ) → IsScript script es → IsUnfit es number → Ends r words there → (status_of r ≡ status.BadEvent) ⊎ (status_of r ≡ status.NoMemory)
  refused_event (Ok (answer.Sheet sheet)) short es number is unfit h = one_unfit left rest script told es number is unfit (λ fs. WroteOf fs old new) (λ fs made. made.1.0) h.1.1
  refused_event (Ok (answer.Refused path)) short es number is unfit h = one_unfit left rest script told es number is unfit (λ fs. OfFiles fs (λ files. HasRefusal files path)) (λ fs made. made.0) h.1.1
  refused_event (Ok (answer.Name text)) short es number is unfit h =
      let (name, spelled, bad) = h.1 in
      one_unfit left rest script told es number is unfit (λ fs. OfFiles fs (λ files. HasBadName files name)) (λ fs made. made.0) bad.1
  refused_event (Err stop.NoMemory) short es number is unfit h = inr refl
  refused_event (Err stop.Usage) short es number is unfit h = absurd (h no_words)
  refused_event (Err (stop.BadScript at)) short es number is unfit h = is_read left rest script told es at is h.0.1
  refused_event (Err stop.ReadFault) short es number is unfit h = absurd (unread h.0)
  refused_event (Err stop.TooLong) short es number is unfit h = too_long left rest script told h.0 short
  refused_event (Err stop.WriteFault) short es number is unfit h = one_unfit left rest script told es number is unfit (λ fs. CutOf fs old new) (λ fs made. made.1.0) h.1.1
  refused_event (Err (stop.BadEvent n)) short es number is unfit h = inl refl

  pub unreadable : (r : Ended) → length script ≤ most_bytes → ((es : List EventData) → IsScript script es → ⊥) → Ends r words there → (status_of r ≡ status.BadScript) ⊎ (status_of r ≡ status.NoMemory)
  unreadable (Ok (answer.Sheet sheet)) short none h = has_none left rest script told none (λ es. WroteOf es old new) h.1.1
  unreadable (Ok (answer.Refused path)) short none h = has_none left rest script told none (λ es. OfFiles es (λ files. HasRefusal files path)) h.1.1
  unreadable (Ok (answer.Name text)) short none h =
      let (name, spelled, bad) = h.1 in
      has_none left rest script told none (λ es. OfFiles es (λ files. HasBadName files name)) bad.1
  unreadable (Err stop.NoMemory) short none h = inr refl
  unreadable (Err stop.Usage) short none h = absurd (h no_words)
  unreadable (Err (stop.BadScript at)) short none h = inl refl
  unreadable (Err stop.ReadFault) short none h = absurd (unread h.0)
  unreadable (Err stop.TooLong) short none h = too_long left rest script told h.0 short
  unreadable (Err stop.WriteFault) short none h = has_none left rest script told none (λ es. CutOf es old new) h.1.1
  unreadable (Err (stop.BadEvent number)) short none h = has_none left rest script told none (λ es. IsUnfit es number) h.0.1

  pub endless : (r : Ended) → most_bytes < length script → Ends r words there → (status_of r ≡ status.TooLong) ⊎ (status_of r ≡ status.NoMemory)
  endless (Ok (answer.Sheet sheet)) more h = longer left rest script told more (λ text. (es : List EventData) × IsScript text es × WroteOf es old new) h.1.1
  endless (Ok (answer.Refused path)) more h = longer left rest script told more (λ text. (es : List EventData) × IsScript text es × OfFiles es (λ files. HasRefusal files path)) h.1.1
  endless (Ok (answer.Name text)) more h =
      let (name, spelled, bad) = h.1 in
      longer left rest script told more (λ bytes. (es : List EventData) × IsScript bytes es × OfFiles es (λ files. HasBadName files name)) bad.1
  endless (Err stop.NoMemory) more h = inr refl
  endless (Err stop.Usage) more h = absurd (h no_words)
  endless (Err (stop.BadScript at)) more h = longer left rest script told more (λ text. IsScriptStop text at) h.0.1
  endless (Err stop.ReadFault) more h = absurd (unread h.0)
  endless (Err stop.TooLong) more h = inl refl
  endless (Err stop.WriteFault) more h = longer left rest script told more (λ text. (es : List EventData) × IsScript text es × CutOf es old new) h.1.1
  endless (Err (stop.BadEvent number)) more h = longer left rest script told more (λ text. (es : List EventData) × IsScript text es × IsUnfit es number) h.0.1
