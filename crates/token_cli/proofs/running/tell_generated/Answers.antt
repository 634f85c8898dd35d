use Rattle.std.proofs.Common.{◌∙◌, List, ℕ, sym, subst}
use Rattle.edit_script.specs.Script.{IsScript}
use Rattle.command_words.specs.declared.command.Command.TheVariants.{Gen}
use Rattle.generated_script.specs.Script.{events_of}
use Rattle.token_cli.proofs.Outcomes.{never_bad, never_unfit}
use Rattle.token_cli.proofs.running.tell_generated.Goals as goal

pub returns-clause-reads : goal.returns-clause-reads
returns-clause-reads g c =
    let seed = c.args.seed in
    let size = c.args.size in
    let es = events_of seed size in
    let P : List ℕ → Type 0 = λ script. IsScript script es in
    let reads : IsScript c.as_slice.result.now es = subst P (sym (c.as_slice.ensures ∙ c.in_ok-script.ensures)) (c.generated_events.ensures.script seed size c.requires.1) in
    never_bad c.write_script.result (Gen seed size) c.as_slice.result.now es (g.K.Sink.written c.args.out.now) (g.K.Sink.written c.write_script.new.out) (g.K.Sink.faults c.args.out.now) (g.K.Sink.faults c.write_script.new.out) c.write_script.ensures reads

pub returns-clause-fits : goal.returns-clause-fits
returns-clause-fits g c =
    let seed = c.args.seed in
    let size = c.args.size in
    let es = events_of seed size in
    let P : List ℕ → Type 0 = λ script. IsScript script es in
    let reads : IsScript c.as_slice.result.now es = subst P (sym (c.as_slice.ensures ∙ c.in_ok-script.ensures)) (c.generated_events.ensures.script seed size c.requires.1) in
    never_unfit c.write_script.result (Gen seed size) c.as_slice.result.now es (g.K.Sink.written c.args.out.now) (g.K.Sink.written c.write_script.new.out) (g.K.Sink.faults c.args.out.now) (g.K.Sink.faults c.write_script.new.out) c.write_script.ensures reads
    (c.generated_events.ensures.fits seed size c.requires.1)
