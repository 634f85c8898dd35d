use Rattle.std.proofs.Common.{◌≡◌, List, ℕ, codes, refl, subst}
use Rattle.std.specs.Prelude.{OnErr, OnOk}
use Rattle.std.specs.Io.KnownBytes.{Appends}
use Rattle.tk_io.specs.Writing.{AppendsPart}
use Rattle.token_cli.specs.Report.{said_of}
use Rattle.token_cli.specs.inner.Ending.{stop_text}
use Rattle.token_cli.specs.declared.stop.Stop.{Stop}
use Rattle.token_cli.specs.declared.stop.Stop.TheVariants as stop
use Rattle.token_cli.proofs.reporting.write_stop.Goals as goal

said : (s : Stop) → said_of (codes "tokc") (codes "usage: tokc build | replay | stats | gen SEED SIZE\n") s ≡ stop_text s
said stop.Usage = refl
said (stop.BadScript at) = refl
said stop.ReadFault = refl
said stop.WriteFault = refl
said stop.NoMemory = refl
said stop.TooLong = refl
said (stop.BadEvent number) = refl

pub returns-clause-whole : goal.returns-clause-whole
returns-clause-whole g c =
    subst (λ (text : List ℕ). OnOk c.report_stop.result (Appends (g.E.Sink.written c.args.err.now) (g.E.Sink.written c.report_stop.new.err) text)) (said c.args.stop) c.report_stop.ensures.whole

pub returns-clause-part : goal.returns-clause-part
returns-clause-part g c =
    subst (λ (text : List ℕ). OnErr c.report_stop.result (AppendsPart (g.E.Sink.written c.args.err.now) (g.E.Sink.written c.report_stop.new.err) text)) (said c.args.stop) c.report_stop.ensures.part
