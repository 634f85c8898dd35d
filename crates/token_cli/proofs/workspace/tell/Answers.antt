use Rattle.std.proofs.Common.{OnErr, subst, sym}
use Rattle.tk_io.specs.Writing.{AppendsPart}
use Rattle.edit_script.specs.Stream.{line_text}
use Rattle.edit_script.specs.declared.line.Line.{Line}
use Rattle.rebuild_core.specs.Engine.{counts_view}
use Rattle.token_cli.specs.inner.Step.{changes_text}
use Rattle.token_cli.specs.declared.telling.Telling.{Telling}
use Rattle.token_cli.proofs.workspace.tell.Goals as goal

pub returns-in-Numbers-clause-part : goal.returns-in-Numbers-clause-part
returns-in-Numbers-clause-part g c =
    let old = g.K.Sink.written c.args.out.now in
    let new = g.K.Sink.written c.write_line.new.out in
    let Q : Line → Type 0 = λ line. OnErr c.write_line.result (AppendsPart old new (line_text line)) in
    let P : Telling → Type 0 = λ told. OnErr c.write_line.result (AppendsPart old new (changes_text told c.args.number (counts_view c.args.counts) c.args.changes.now)) in
    subst P (sym c.in-Numbers.is) (subst Q c.numbers_line.ensures c.write_line.ensures.part)
