use Rattle.std.proofs.Common.{◌≡◌, ◌⊎◌, ◌∙◌, ℕ, List, ap, sym, subst}
use Rattle.token_cli.specs.Report.{Reports}
use Rattle.theme_cli.specs.inner.Ending.{matter_of, place_of, status_of}
use Rattle.theme_cli.specs.declared.status.ThemeStatus.{ThemeStatus}
use Rattle.theme_cli.specs.declared.status.ThemeStatus.TheVariants as status
use Rattle.theme_cli.proofs.Endings.{IsOfFiles, completed, endless, ends_as, refused_event, unreadable}
use Rattle.theme_cli.proofs.Stopping.{event_said, name_said, refused_said, script_said, text_of_status}
use Rattle.theme_cli.proofs.running.run_themes.Goals as goal

pub returns-clause-done : goal.returns-clause-done
returns-clause-done g c e =
    (ends_as c.main_job-ended.result c.status_of.result status.Done _ _ c.main_job-ended.ensures.ends c.status_of.ensures e).1

pub returns-clause-refused : goal.returns-clause-refused
returns-clause-refused g c e =
    let r = c.main_job-ended.result in
    let ends = ends_as r c.status_of.result status.Refused _ _ c.main_job-ended.ensures.ends c.status_of.ensures e in (
      matter_of r,
      ends.1,
      ends.2,
      subst
          (λ (text : List ℕ). Reports (g.E.Sink.written c.args.err.now) (g.E.Sink.written c.report.new.err)
          (g.E.Sink.faults c.args.err.now) (g.E.Sink.faults c.report.new.err) text)
          (refused_said r c.status_of.result c.status_of.ensures e) c.report.ensures,
    )

pub returns-clause-name : goal.returns-clause-name
returns-clause-name g c e =
    let r = c.main_job-ended.result in
    let ends = ends_as r c.status_of.result status.Name _ _ c.main_job-ended.ensures.ends c.status_of.ensures e in
    let (name, spelled, has) = ends.1 in (
      name,
      has,
      ends.2,
      subst
          (λ (text : List ℕ). Reports (g.E.Sink.written c.args.err.now) (g.E.Sink.written c.report.new.err)
          (g.E.Sink.faults c.args.err.now) (g.E.Sink.faults c.report.new.err) text)
          (name_said r c.status_of.result name c.status_of.ensures e spelled) c.report.ensures,
    )

pub returns-clause-usage : goal.returns-clause-usage
returns-clause-usage g c e =
    ends_as c.main_job-ended.result c.status_of.result status.Usage _ _ c.main_job-ended.ensures.ends c.status_of.ensures e

pub returns-clause-words : goal.returns-clause-words
returns-clause-words g c none =
    let (is, unread, unwritten) = c.main_job-ended.ensures.words none in
    (c.status_of.ensures ∙ ap status_of is, unread, unwritten)

pub returns-clause-bad_script : goal.returns-clause-bad_script
returns-clause-bad_script g c e =
    let r = c.main_job-ended.result in
    let ends = ends_as r c.status_of.result status.BadScript _ _ c.main_job-ended.ensures.ends c.status_of.ensures e in (
      place_of r,
      ends.0,
      ends.1,
      subst
          (λ (text : List ℕ). Reports (g.E.Sink.written c.args.err.now) (g.E.Sink.written c.report.new.err)
          (g.E.Sink.faults c.args.err.now) (g.E.Sink.faults c.report.new.err) text)
          (script_said r c.status_of.result c.status_of.ensures e) c.report.ensures,
    )

pub returns-clause-bad_event : goal.returns-clause-bad_event
returns-clause-bad_event g c e =
    let r = c.main_job-ended.result in
    let ends = ends_as r c.status_of.result status.BadEvent _ _ c.main_job-ended.ensures.ends c.status_of.ensures e in (
      place_of r,
      ends.0,
      ends.1,
      subst
          (λ (text : List ℕ). Reports (g.E.Sink.written c.args.err.now) (g.E.Sink.written c.report.new.err)
          (g.E.Sink.faults c.args.err.now) (g.E.Sink.faults c.report.new.err) text)
          (event_said r c.status_of.result c.status_of.ensures e) c.report.ensures,
    )

pub returns-clause-read_fault : goal.returns-clause-read_fault
returns-clause-read_fault g c e =
    ends_as c.main_job-ended.result c.status_of.result status.ReadFault _ _ c.main_job-ended.ensures.ends c.status_of.ensures e

pub returns-clause-write_fault : goal.returns-clause-write_fault
returns-clause-write_fault g c e =
    ends_as c.main_job-ended.result c.status_of.result status.WriteFault _ _ c.main_job-ended.ensures.ends c.status_of.ensures e

pub returns-clause-no_memory : goal.returns-clause-no_memory
returns-clause-no_memory g c e =
    ends_as c.main_job-ended.result c.status_of.result status.NoMemory _ _ c.main_job-ended.ensures.ends c.status_of.ensures e

pub returns-clause-too_long : goal.returns-clause-too_long
returns-clause-too_long g c e =
    ends_as c.main_job-ended.result c.status_of.result status.TooLong _ _ c.main_job-ended.ensures.ends c.status_of.ensures e

pub returns-clause-taken : goal.returns-clause-taken
returns-clause-taken g c not = c.main_job-ended.ensures.taken (λ e. not (c.status_of.ensures ∙ ap status_of e))

pub returns-clause-complete : goal.returns-clause-complete
returns-clause-complete g c script es none told short is fits unread good =
    subst (λ (s : ThemeStatus). IsOfFiles es s) (sym c.status_of.ensures)
    (completed _ none _ _ script told _ _ unread _ _ _ _ c.main_job-ended.result short es is fits good c.main_job-ended.ensures.ends)

pub returns-clause-unfit : goal.returns-clause-unfit
returns-clause-unfit g c script es number none told short is unfit unread =
    subst (λ (s : ThemeStatus). (s ≡ status.BadEvent) ⊎ (s ≡ status.NoMemory)) (sym c.status_of.ensures)
    (refused_event _ none _ _ script told _ _ unread _ _ _ _ c.main_job-ended.result short es number is unfit c.main_job-ended.ensures.ends)

pub returns-clause-unread : goal.returns-clause-unread
returns-clause-unread g c script one told short none unread =
    subst (λ (s : ThemeStatus). (s ≡ status.BadScript) ⊎ (s ≡ status.NoMemory)) (sym c.status_of.ensures)
    (unreadable _ one _ _ script told _ _ unread _ _ _ _ c.main_job-ended.result short none c.main_job-ended.ensures.ends)

pub returns-clause-endless : goal.returns-clause-endless
returns-clause-endless g c script one told more unread =
    subst (λ (s : ThemeStatus). (s ≡ status.TooLong) ⊎ (s ≡ status.NoMemory)) (sym c.status_of.ensures)
    (endless _ one _ _ script told _ _ unread _ _ _ _ c.main_job-ended.result more c.main_job-ended.ensures.ends)

pub returns-clause-error : goal.returns-clause-error
returns-clause-error g c not fit good named =
    subst
    (λ (text : List ℕ). Reports (g.E.Sink.written c.args.err.now) (g.E.Sink.written c.report.new.err)
    (g.E.Sink.faults c.args.err.now) (g.E.Sink.faults c.report.new.err) text)
    (text_of_status c.main_job-ended.result c.status_of.result c.status_of.ensures not fit good named) c.report.ensures
