use Rattle.std.proofs.Common.{◌≡◌, ◌⊎◌, ◌∙◌, ℕ, List, ap, sym, subst}
use Rattle.explain_cli.specs.Report.{error_text}
use Rattle.explain_cli.specs.Explained.{IsAnswered}
use Rattle.explain_cli.specs.inner.Ending.{place_of, status_of}
use Rattle.token_cli.specs.Report.{Reports}
use Rattle.explain_cli.specs.declared.status.ExplainStatus.{ExplainStatus}
use Rattle.explain_cli.specs.declared.status.ExplainStatus.TheVariants as status
use Rattle.explain_cli.proofs.Endings.{completed, endless, ends_as, refused_event, unreadable}
use Rattle.explain_cli.proofs.Stopping.{text_of_status, usage_or_memory}
use Rattle.explain_cli.proofs.running.run_explain.Goals as goal

pub returns-clause-done : goal.returns-clause-done
returns-clause-done g c e =
    ends_as c.main_job-ended.result c.status_of.result status.Done _ _ c.main_job-ended.ensures.ends c.status_of.ensures e

pub returns-clause-no_file : goal.returns-clause-no_file
returns-clause-no_file g c e =
    ends_as c.main_job-ended.result c.status_of.result status.NoFile _ _ c.main_job-ended.ensures.ends c.status_of.ensures e

pub returns-clause-bad_certificate : goal.returns-clause-bad_certificate
returns-clause-bad_certificate g c e =
    ends_as c.main_job-ended.result c.status_of.result status.BadCertificate _ _ c.main_job-ended.ensures.ends c.status_of.ensures e

pub returns-clause-refused : goal.returns-clause-refused
returns-clause-refused g c e =
    ends_as c.main_job-ended.result c.status_of.result status.Refused _ _ c.main_job-ended.ensures.ends c.status_of.ensures e

pub returns-clause-no_permutation : goal.returns-clause-no_permutation
returns-clause-no_permutation g c e =
    ends_as c.main_job-ended.result c.status_of.result status.NoPermutation _ _ c.main_job-ended.ensures.ends c.status_of.ensures e

pub returns-clause-no_place : goal.returns-clause-no_place
returns-clause-no_place g c e =
    ends_as c.main_job-ended.result c.status_of.result status.NoPlace _ _ c.main_job-ended.ensures.ends c.status_of.ensures e

pub returns-clause-usage : goal.returns-clause-usage
returns-clause-usage g c e =
    ends_as c.main_job-ended.result c.status_of.result status.Usage _ _ c.main_job-ended.ensures.ends c.status_of.ensures e

pub returns-clause-read_fault : goal.returns-clause-read_fault
returns-clause-read_fault g c e =
    ends_as c.main_job-ended.result c.status_of.result status.ReadFault _ _ c.main_job-ended.ensures.ends c.status_of.ensures e

pub returns-clause-write_fault : goal.returns-clause-write_fault
returns-clause-write_fault g c e =
    ends_as c.main_job-ended.result c.status_of.result status.WriteFault _ _ c.main_job-ended.ensures.ends c.status_of.ensures e

pub returns-clause-no_memory : goal.returns-clause-no_memory
returns-clause-no_memory g c e =
    ends_as c.main_job-ended.result c.status_of.result status.NoMemory _ _ c.main_job-ended.ensures.ends c.status_of.ensures e

pub returns-clause-too_long : goal.returns-clause-too_long
returns-clause-too_long g c e =
    ends_as c.main_job-ended.result c.status_of.result status.TooLong _ _ c.main_job-ended.ensures.ends c.status_of.ensures e

pub returns-clause-bad_script : goal.returns-clause-bad_script
returns-clause-bad_script g c e =
    let r = c.main_job-ended.result in
    let ends = ends_as r c.status_of.result status.BadScript _ _ c.main_job-ended.ensures.ends c.status_of.ensures e in (
      place_of r,
      ends.0,
      ends.1,
      subst
          (λ (s : ExplainStatus). Reports (g.E.Sink.written c.args.err.now) (g.E.Sink.written c.report.new.err)
          (g.E.Sink.faults c.args.err.now) (g.E.Sink.faults c.report.new.err) (error_text s (place_of r)))
          (sym c.status_of.ensures) c.report.ensures,
    )

pub returns-clause-bad_event : goal.returns-clause-bad_event
returns-clause-bad_event g c e =
    let r = c.main_job-ended.result in
    let ends = ends_as r c.status_of.result status.BadEvent _ _ c.main_job-ended.ensures.ends c.status_of.ensures e in (
      place_of r,
      ends.0,
      ends.1,
      subst
          (λ (s : ExplainStatus). Reports (g.E.Sink.written c.args.err.now) (g.E.Sink.written c.report.new.err)
          (g.E.Sink.faults c.args.err.now) (g.E.Sink.faults c.report.new.err) (error_text s (place_of r)))
          (sym c.status_of.ensures) c.report.ensures,
    )

pub returns-clause-words : goal.returns-clause-words
returns-clause-words g c none =
    let (is, unread, unwritten) = c.main_job-ended.ensures.words none in
    (usage_or_memory c.main_job-ended.result c.status_of.result c.status_of.ensures is, unread, unwritten)

pub returns-clause-taken : goal.returns-clause-taken
returns-clause-taken g c not = c.main_job-ended.ensures.taken (λ e. not (c.status_of.ensures ∙ ap status_of e))

pub returns-clause-complete : goal.returns-clause-complete
returns-clause-complete g c q script es asked told short is fits unread good =
    subst IsAnswered (sym c.status_of.ensures)
    (completed _ q asked _ _ script told _ _ unread _ _ _ _ c.main_job-ended.result short es is fits good c.main_job-ended.ensures.ends)

pub returns-clause-unfit : goal.returns-clause-unfit
returns-clause-unfit g c q script es number asked told short is unfit unread =
    subst (λ (s : ExplainStatus). (s ≡ status.BadEvent) ⊎ (s ≡ status.NoMemory)) (sym c.status_of.ensures)
    (refused_event _ q asked _ _ script told _ _ unread _ _ _ _ c.main_job-ended.result short es number is unfit c.main_job-ended.ensures.ends)

pub returns-clause-unread : goal.returns-clause-unread
returns-clause-unread g c q script asked told short none unread =
    subst (λ (s : ExplainStatus). (s ≡ status.BadScript) ⊎ (s ≡ status.NoMemory)) (sym c.status_of.ensures)
    (unreadable _ q asked _ _ script told _ _ unread _ _ _ _ c.main_job-ended.result short none c.main_job-ended.ensures.ends)

pub returns-clause-endless : goal.returns-clause-endless
returns-clause-endless g c q script asked told more unread =
    subst (λ (s : ExplainStatus). (s ≡ status.TooLong) ⊎ (s ≡ status.NoMemory)) (sym c.status_of.ensures)
    (endless _ q asked _ _ script told _ _ unread _ _ _ _ c.main_job-ended.result more c.main_job-ended.ensures.ends)

pub returns-clause-error : goal.returns-clause-error
returns-clause-error g c not fit =
    subst
    (λ (text : List ℕ). Reports (g.E.Sink.written c.args.err.now) (g.E.Sink.written c.report.new.err)
    (g.E.Sink.faults c.args.err.now) (g.E.Sink.faults c.report.new.err) text)
    (text_of_status c.main_job-ended.result c.status_of.result c.status_of.ensures not fit) c.report.ensures
