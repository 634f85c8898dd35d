use Rattle.std.proofs.Common.{[], refl, ◌++◌, ap, sym, append-nil}
use Rattle.edit_script.specs.Stream.{line_text}
use Rattle.edit_script.specs.declared.line.Line.TheVariants.{Commit}
use Rattle.edit_script.proofs.Written.{on_err, on_err_then, part_more, part_after}
use Rattle.token_cli.specs.inner.Step.{records_of}
use Rattle.token_cli.proofs.Pieces.{on_ok_then, two_written}
use Rattle.token_cli.proofs.workspace.write_records.Goals as goal

pub returns-in_err-write_line-clause-part : goal.returns-in_err-write_line-clause-part
returns-in_err-write_line-clause-part g c =
    let k = c.args.number in
    let changes = c.args.changes.now in
    on_err c.from_residual.result (part_more (g.K.Sink.written c.args.out.now) (g.K.Sink.written c.write_line.new.out) (line_text (Commit k) ++ records_of changes) (line_text (Commit k)) (records_of changes) c.in_err-write_line.ensures.part refl)

pub returns-clause-whole : goal.returns-clause-whole
returns-clause-whole g c =
    let k = c.args.number in
    let changes = c.args.changes.now in
    on_ok_then c.write_changes.result
    (λ last. two_written (g.K.Sink.written c.args.out.now) (g.K.Sink.written c.write_line.new.out) (g.K.Sink.written c.write_changes.new.out) (line_text (Commit k) ++ records_of changes) (line_text (Commit k)) (records_of changes) c.in_ok-write_line.ensures.whole last refl)
    c.write_changes.ensures.whole

pub returns-clause-part : goal.returns-clause-part
returns-clause-part g c =
    let k = c.args.number in
    let changes = c.args.changes.now in
    on_err_then c.write_changes.result
    (λ front. part_after (g.K.Sink.written c.args.out.now) (g.K.Sink.written c.write_line.new.out) (g.K.Sink.written c.write_changes.new.out) (line_text (Commit k) ++ records_of changes) (line_text (Commit k)) (records_of changes) [] c.in_ok-write_line.ensures.whole front (ap (λ l. line_text (Commit k) ++ l) (sym (append-nil (records_of changes)))))
    c.write_changes.ensures.part
