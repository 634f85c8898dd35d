use Rattle.std.proofs.Common.{[], ◌++◌, ap, sym, refl, append-nil}
use Rattle.edit_script.proofs.Written.{on_err, on_err_then, part_more, part_after}
use Rattle.token_cli.proofs.Pieces.{on_ok_then, two_written}
use Rattle.token_cli.proofs.reporting.write_said.Goals as goal

pub returns-in_err-write_text-clause-part : goal.returns-in_err-write_text-clause-part
returns-in_err-write_text-clause-part g c =
    let program = c.args.program.now in
    let said = c.args.said.now in
    on_err c.from_residual.result (part_more (g.E.Sink.written c.args.err.now) (g.E.Sink.written c.write_text.new.err) (program ++ said) program said c.in_err-write_text.ensures.part refl)

pub returns-clause-whole : goal.returns-clause-whole
returns-clause-whole g c =
    let program = c.args.program.now in
    let said = c.args.said.now in
    on_ok_then c.write_all.result
    (λ last. two_written (g.E.Sink.written c.args.err.now) (g.E.Sink.written c.write_text.new.err) (g.E.Sink.written c.write_all.new.out) (program ++ said) program said c.in_ok-write_text.ensures.whole last refl)
    c.write_all.ensures.whole

pub returns-clause-part : goal.returns-clause-part
returns-clause-part g c =
    let program = c.args.program.now in
    let said = c.args.said.now in
    on_err_then c.write_all.result
    (λ front. part_after (g.E.Sink.written c.args.err.now) (g.E.Sink.written c.write_text.new.err) (g.E.Sink.written c.write_all.new.out) (program ++ said) program said [] c.in_ok-write_text.ensures.whole front (ap (λ l. program ++ l) (sym (append-nil said))))
    c.write_all.ensures.part
