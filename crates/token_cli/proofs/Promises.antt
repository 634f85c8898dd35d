-- What a run promises follows from how its main job ends.
use Rattle.std.proofs.Common.{◌≡◌, ◌∙◌, ◌⊎◌, inl, inr, ◌≤◌, ℕ, Bool, true, false, List, Option, None, Some, Result, length, Ok, Err, ap, subst, refl, arith}
use Rattle.tk_io.specs.Reading.{TakesAtMost}
use Rattle.edit_script.specs.Script.{EventData, IsScript, IsScriptStop}
use Rattle.edit_script.specs.Files.{EveryFits, IsUnfit}
use Rattle.edit_script.proofs.Readings.{one_reading}
use Rattle.edit_script.proofs.UnfitEvents.{not_both}
use Rattle.build_plain.specs.Laws.{OneBuild}
use Rattle.rebuild_core.specs.Laws.{OneWorkFrom}
use Rattle.command_words.specs.declared.command.Command.{Command}
use Rattle.command_words.specs.declared.command.Command.TheVariants.{Gen}
use Rattle.token_cli.specs.Course.{Course}
use Rattle.token_cli.specs.Headline.{StopsAt, WroteEvents, WroteSome, events_for, most_bytes, reads_source, telling_of}
use Rattle.token_cli.specs.Report.{error_text, Reports}
use Rattle.token_cli.specs.Runs.{Runs}
use Rattle.token_cli.specs.inner.Ending.{Ends, status_of, place_of}
use Rattle.token_cli.specs.declared.stop.Stop.{Stop}
use Rattle.token_cli.specs.declared.stop.Stop.TheVariants as stop
use Rattle.token_cli.specs.declared.status.Status.TheVariants as status
use Rattle.token_cli.proofs.Decided.{decided_by}
use Rattle.token_cli.proofs.JobEnds.{ends_as}
use Rattle.token_cli.proofs.ScriptsRead.{at_some, taken}
use Rattle.token_cli.proofs.Outcomes.{Made, said_by, stopped_as, all_written, not_fit, not_read, too_many, no_command, of_script, of_events, whole_said, no_stop, said}
use Rattle.token_cli.proofs.Once.{part_or_whole, none_or_whole, one_end}

abbrev Ended : Type 0
Ended = Result Bool Stop

-- all of what the events tell was written, or a part of it, from what the sink held to what it holds
abbrev WroteAllOf : Option (List ℕ) → Option (List ℕ) → Bool → Command → List EventData → Type 0
WroteAllOf old new refused c es = WroteEvents c es refused old new

abbrev WrotePartOf : Option (List ℕ) → Option (List ℕ) → Command → List EventData → Type 0
WrotePartOf old new c es = WroteSome c es old new

-- .. or all before an event that does not fit
abbrev StopsAtOf : Option (List ℕ) → Option (List ℕ) → ℕ → Command → List EventData → Type 0
StopsAtOf old new number c es = StopsAt c es number old new

-- a part was not written where all was, since every event fits then
some_or_whole : (one : OneBuild) (once : OneWorkFrom) (c : Command) (es : List EventData) (refused : Bool) (old new : Option (List ℕ)) (before : List ℕ) → old ≡ Some before → WroteSome c es old new → WroteEvents c es refused old new → ⊥
some_or_whole one once c es refused old new before holds (inl (fits, part)) wrote = part_or_whole (telling_of c) one once (events_for c es) refused old new before holds part wrote.1
some_or_whole one once c es refused old new before holds (inr (number, unfit, front)) wrote = not_both es number wrote.0 unfit

-- a script of no more than the limit is refused at this byte
abbrev IsRefusedAt : ℕ → List ℕ → Type 0
IsRefusedAt at script = (length script ≤ most_bytes) × IsScriptStop script at

-- what is said has a place only where a script is refused
without_place : (r : Ended) (P : List ℕ → Type 0) → (status_of r ≡ status.BadScript → ⊥) → (status_of r ≡ status.BadEvent → ⊥) → P (error_text (status_of r) (place_of r)) → P (error_text (status_of r) 0)
without_place (Ok true) P not fit h = h
without_place (Ok false) P not fit h = h
without_place (Err stop.Usage) P not fit h = h
without_place (Err (stop.BadScript at)) P not fit h = absurd (not refl)
without_place (Err stop.ReadFault) P not fit h = h
without_place (Err stop.WriteFault) P not fit h = h
without_place (Err stop.NoMemory) P not fit h = h
without_place (Err stop.TooLong) P not fit h = h
without_place (Err (stop.BadEvent number)) P not fit h = absurd (fit refl)

-- the event that a run over the source's script stops at is the first of its events that does not fit
of_left : (command : Option Command) (t : Course) (c : Command) (script : List ℕ) (es : List EventData) (number : ℕ) → command ≡ Some c → reads_source c ≡ true → t.left ≡ Some script → IsScript script es → Made command t.left t.rest (StopsAtOf t.old t.new number) → IsUnfit es number
of_left command t c script es number which given left reads made =
    let (some, (fs, is, (unfit, holds))) = of_script command t.left t.rest (StopsAtOf t.old t.new number) c script which given left made in
    subst (λ (l : List EventData). IsUnfit l number) (one_reading script fs es is reads) unfit

pub promises_of : (one : OneBuild) (once : OneWorkFrom) (command : Option Command) (t : Course) (told told_now : Option (List ℕ)) (reports reports_now : ℕ) (r : Ended) → Ends r command t
    → (command ≡ None → ((r ≡ Err stop.Usage) ⊎ (r ≡ Err stop.NoMemory)) × (t.new ≡ t.old))
    → ((seed size : ℕ) → command ≡ Some (Gen seed size) → ((at : ℕ) → r ≡ Err (stop.BadScript at) → ⊥) × (r ≡ Err stop.ReadFault → ⊥) × (r ≡ Err stop.TooLong → ⊥) × ((number : ℕ) → r ≡ Err (stop.BadEvent number) → ⊥))
    → ((r ≡ Err stop.TooLong → ⊥) → TakesAtMost most_bytes t.left t.rest)
    → Reports told told_now reports reports_now (error_text (status_of r) (place_of r))
    → Runs command t told told_now reports reports_now (status_of r)
promises_of one once command t told told_now reports reports_now r ends usage numbers takes report =
    let h = ends_as r command t ends in
    record {
      done = λ e. h (Ok false) (said_by r status.Done e);
      refused = λ e. h (Ok true) (said_by r status.Refused e);
      all = λ c script es before refusal which is reads holds wrote.
          let events = events_for c es in
          let none : t.new ≡ t.old → ⊥ = λ same. none_or_whole (telling_of c) events refusal t.old t.new before holds same wrote.1 in
          let written : (claim : Command → List EventData → Type 0) → Made command t.left t.rest claim → claim c es =
          λ claim m. of_events command t.left t.rest claim c script es which is reads m in
          let part : Made command t.left t.rest (WrotePartOf t.old t.new) → ⊥ =
          λ m. some_or_whole one once c es refusal t.old t.new before holds (written (WrotePartOf t.old t.new) m) wrote in
          whole_said r refusal
          (λ x e. one_end (telling_of c) one events x refusal t.old t.new (written (WroteAllOf t.old t.new x) (h (Ok x) e)).1 wrote.1)
          (no_stop r
          (λ e. no_command command c which (h (Err stop.Usage) e))
          (λ at e. none (h (Err (stop.BadScript at)) e).0)
          (λ e. none (h (Err stop.ReadFault) e).1)
          (λ e. part (h (Err stop.WriteFault) e).1)
          (λ e. elim (h (Err stop.NoMemory) e) [ inl same ↦ none same | inr m ↦ part m ])
          (λ e. none (h (Err stop.TooLong) e).1)
          (λ number e. not_both es number wrote.0 (written (StopsAtOf t.old t.new number) (h (Err (stop.BadEvent number)) e)).0))
          ∙ said refusal;
      decided = λ memory no_read no_write.
          decided_by command t r ends (λ none. (usage none).0) numbers (λ e. memory (ap status_of e)) no_read no_write;
      usage = λ e. h (Err stop.Usage) (said_by r status.Usage e);
      words = λ none. let (stopped, unwritten) = usage none in (stopped_as r (status_of r) refl stopped, unwritten);
      generated = λ seed size which.
          let (bad, read, long, unfit) = numbers seed size which in
          (λ e. bad (place_of r) (said_by r status.BadScript e), λ e. read (said_by r status.ReadFault e), λ e. long (said_by r status.TooLong e), λ e. unfit (place_of r) (said_by r status.BadEvent e));
      bad_script = λ e. (place_of r, h (Err (stop.BadScript (place_of r))) (said_by r status.BadScript e), report);
      bad_event = λ e. (place_of r, h (Err (stop.BadEvent (place_of r))) (said_by r status.BadEvent e), report);
      read_fault = λ e. h (Err stop.ReadFault) (said_by r status.ReadFault e);
      write_fault = λ e. h (Err stop.WriteFault) (said_by r status.WriteFault e);
      memory = λ e. h (Err stop.NoMemory) (said_by r status.NoMemory e);
      too_long = λ e. h (Err stop.TooLong) (said_by r status.TooLong e);
      taken = λ not_long. takes (λ e. not_long (ap status_of e));
      complete = λ c script es which given left short reads fits no_read no_write.
          all_written r
          (λ e. no_read (h (Err stop.ReadFault) e).0)
          (λ e. no_write (h (Err stop.WriteFault) e).0)
          (λ e. let long = taken 67108865 script t.left t.rest left (h (Err stop.TooLong) e).0 in omega (arith, long, short))
          (λ e. no_command command c which (h (Err stop.Usage) e))
          (λ at e. (at_some script t.left (IsRefusedAt at) left (h (Err (stop.BadScript at)) e).1.1).1.none es reads)
          (λ number e. not_both es number fits (of_left command t c script es number which given left reads (h (Err (stop.BadEvent number)) e)));
      generates = λ seed size which no_write.
          let (bad, read, long, unfit) = numbers seed size which in
          all_written r read (λ e. no_write (h (Err stop.WriteFault) e).0) long
          (λ e. no_command command (Gen seed size) which (h (Err stop.Usage) e)) bad unfit;
      unfit = λ c script es number which given left short reads unfit no_read no_write.
          not_fit r
          (λ refusal e.
          let (some, (fs, is, (fits, holds))) = of_script command t.left t.rest (WroteAllOf t.old t.new refusal) c script which given left (h (Ok refusal) e) in
          not_both es number (subst EveryFits (one_reading script fs es is reads) fits) unfit)
          (λ e. no_read (h (Err stop.ReadFault) e).0)
          (λ e. no_write (h (Err stop.WriteFault) e).0)
          (λ e. let long = taken 67108865 script t.left t.rest left (h (Err stop.TooLong) e).0 in omega (arith, long, short))
          (λ e. no_command command c which (h (Err stop.Usage) e))
          (λ at e. (at_some script t.left (IsRefusedAt at) left (h (Err (stop.BadScript at)) e).1.1).1.none es reads);
      unread = λ c script which given left short none no_read.
          not_read r
          (λ refusal e. let (some, (es, is, holds)) = of_script command t.left t.rest (WroteAllOf t.old t.new refusal) c script which given left (h (Ok refusal) e) in none es is)
          (λ e. no_read (h (Err stop.ReadFault) e).0)
          (λ e. let (some, (es, is, holds)) = of_script command t.left t.rest (WrotePartOf t.old t.new) c script which given left (h (Err stop.WriteFault) e).1 in none es is)
          (λ e. let long = taken 67108865 script t.left t.rest left (h (Err stop.TooLong) e).0 in omega (arith, long, short))
          (λ e. no_command command c which (h (Err stop.Usage) e))
          (λ number e. let (some, (es, is, holds)) = of_script command t.left t.rest (StopsAtOf t.old t.new number) c script which given left (h (Err (stop.BadEvent number)) e) in none es is);
      endless = λ c script which given left long no_read.
          too_many r
          (λ refusal e. let (short, holds) = of_script command t.left t.rest (WroteAllOf t.old t.new refusal) c script which given left (h (Ok refusal) e) in omega (arith, short, long))
          (λ e. no_read (h (Err stop.ReadFault) e).0)
          (λ e. let (short, holds) = of_script command t.left t.rest (WrotePartOf t.old t.new) c script which given left (h (Err stop.WriteFault) e).1 in omega (arith, short, long))
          (λ e. no_command command c which (h (Err stop.Usage) e))
          (λ at e. let short = (at_some script t.left (IsRefusedAt at) left (h (Err (stop.BadScript at)) e).1.1).0 in omega (arith, short, long))
          (λ number e. let (short, holds) = of_script command t.left t.rest (StopsAtOf t.old t.new number) c script which given left (h (Err (stop.BadEvent number)) e) in omega (arith, short, long));
      error = λ not_bad fit. without_place r (Reports told told_now reports reports_now) not_bad fit report;
    }
