use Rattle.std.proofs.Common.{OnErr, subst, sym}
use Rattle.tk_io.specs.Writing.{AppendsPart}
use Rattle.edit_script.specs.Stream.{line_text}
use Rattle.edit_script.specs.declared.line.Line.{Line}
use Rattle.edit_script.proofs.line.write_line.Goals as goal

pub returns-in-Stats-clause-part : goal.returns-in-Stats-clause-part
returns-in-Stats-clause-part g c =
    let P : Line → Type 0 = λ line. OnErr c.write_stats.result (AppendsPart (g.K.Sink.written c.args.out.now) (g.K.Sink.written c.write_stats.new.out) (line_text line)) in
    subst P (sym c.in-Stats.is) c.write_stats.ensures.part
