use Rattle.std.proofs.Common.{List, ℕ, subst}
use Rattle.std.specs.Prelude.{OnErr, OnOk}
use Rattle.std.specs.Io.KnownBytes.{Appends}
use Rattle.tk_io.specs.Writing.{AppendsPart}
use Rattle.explain_cli.proofs.Stopping.{said}
use Rattle.explain_cli.proofs.reporting.write_stop.Goals as goal

pub returns-clause-whole : goal.returns-clause-whole
returns-clause-whole g c =
    subst (λ (text : List ℕ). OnOk c.report_stop.result (Appends (g.E.Sink.written c.args.err.now) (g.E.Sink.written c.report_stop.new.err) text)) (said c.args.stop) c.report_stop.ensures.whole

pub returns-clause-part : goal.returns-clause-part
returns-clause-part g c =
    subst (λ (text : List ℕ). OnErr c.report_stop.result (AppendsPart (g.E.Sink.written c.args.err.now) (g.E.Sink.written c.report_stop.new.err) text)) (said c.args.stop) c.report_stop.ensures.part
