use Rattle.std.proofs.Common.{◌∙◌, Err, Option, Some, ap, map, subst, sym}
use Rattle.std.specs.String.{string_bytes}
use Rattle.command_words.specs.Words.{IsInBounds}
use Rattle.command_words.specs.declared.command.Command.{Command}
use Rattle.token_cli.specs.Headline.{asked_by}
use Rattle.token_cli.specs.inner.Causes.{of_words}
use Rattle.token_cli.specs.Course.{course}
use Rattle.token_cli.specs.inner.Ending.{Ends}
use Rattle.token_cli.proofs.JobEnds.{ends_err, generated_ends, words_end}
use Rattle.token_cli.proofs.running.main_job.Goals as goal

pub tell_generated-requires : goal.tell_generated-requires
tell_generated-requires g c =
    let P : Command → Type 0 = λ command. IsInBounds command in
    let words = map string_bytes c.args.words.now in
    let bounds = subst P c.in-Gen.is (c.words_of_commands.ensures.read words c.in_ok-command.command c.in_ok-command.ensures.ok).bounds in
    (bounds.1, bounds.2)

pub returns-in_err-command-clause-ends : goal.returns-in_err-command-clause-ends
returns-in_err-command-clause-ends g c =
    let s = c.in_err-command.field-0.0 in
    let left = g.S.Source.left c.args.src.now in
    let reads = g.S.Source.faults c.args.src.now in
    let written = g.K.Sink.written c.args.out.now in
    let writes = g.K.Sink.faults c.args.out.now in
    ends_err c.from_residual.result (of_words s) (asked_by c.args.words.now) (course left left reads reads written written writes writes) c.from_residual.ensures.1
    (words_end s (asked_by c.args.words.now) left reads written writes (λ e. c.in_err-command.ensures.usage (ap Err e)))

pub returns-in-Gen-clause-ends : goal.returns-in-Gen-clause-ends
returns-in-Gen-clause-ends g c =
    let left = g.S.Source.left c.args.src.now in
    let reads = g.S.Source.faults c.args.src.now in
    let old = g.K.Sink.written c.args.out.now in
    let new = g.K.Sink.written c.tell_generated.new.out in
    let writes = g.K.Sink.faults c.args.out.now in
    let writes_now = g.K.Sink.faults c.tell_generated.new.out in
    subst (λ (asked : Option Command). Ends c.tell_generated.result asked (course left left reads reads old new writes writes_now)) (sym (c.in_ok-command.ensures.ok ∙ ap Some c.in-Gen.is))
    (generated_ends c.in-Gen.seed c.in-Gen.size left reads old new writes writes_now c.tell_generated.result c.tell_generated.ensures.scripted c.tell_generated.ensures.reads)
