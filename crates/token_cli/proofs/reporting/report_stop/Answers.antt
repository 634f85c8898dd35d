use Rattle.std.proofs.Common.{sym, subst}
use Rattle.std.specs.Prelude.{OnErr, OnOk}
use Rattle.std.specs.Io.KnownBytes.{Appends}
use Rattle.tk_io.specs.Writing.{AppendsPart}
use Rattle.token_cli.specs.Report.{said_of}
use Rattle.token_cli.specs.declared.stop.Stop.{Stop}
use Rattle.token_cli.proofs.reporting.report_stop.Goals as goal

pub returns-in-ReadFault-clause-whole : goal.returns-in-ReadFault-clause-whole
returns-in-ReadFault-clause-whole g c =
    subst (λ (s : Stop). OnOk c.write_said.result (Appends (g.E.Sink.written c.args.err.now) (g.E.Sink.written c.write_said.new.err) (said_of c.args.program.now c.args.usage.now s)))
    (sym c.in-ReadFault.is) c.write_said.ensures.whole

pub returns-in-ReadFault-clause-part : goal.returns-in-ReadFault-clause-part
returns-in-ReadFault-clause-part g c =
    subst (λ (s : Stop). OnErr c.write_said.result (AppendsPart (g.E.Sink.written c.args.err.now) (g.E.Sink.written c.write_said.new.err) (said_of c.args.program.now c.args.usage.now s)))
    (sym c.in-ReadFault.is) c.write_said.ensures.part

pub returns-in-WriteFault-clause-whole : goal.returns-in-WriteFault-clause-whole
returns-in-WriteFault-clause-whole g c =
    subst (λ (s : Stop). OnOk c.write_said-in-WriteFault.result (Appends (g.E.Sink.written c.args.err.now) (g.E.Sink.written c.write_said-in-WriteFault.new.err) (said_of c.args.program.now c.args.usage.now s)))
    (sym c.in-WriteFault.is) c.write_said-in-WriteFault.ensures.whole

pub returns-in-WriteFault-clause-part : goal.returns-in-WriteFault-clause-part
returns-in-WriteFault-clause-part g c =
    subst (λ (s : Stop). OnErr c.write_said-in-WriteFault.result (AppendsPart (g.E.Sink.written c.args.err.now) (g.E.Sink.written c.write_said-in-WriteFault.new.err) (said_of c.args.program.now c.args.usage.now s)))
    (sym c.in-WriteFault.is) c.write_said-in-WriteFault.ensures.part

pub returns-in-NoMemory-clause-whole : goal.returns-in-NoMemory-clause-whole
returns-in-NoMemory-clause-whole g c =
    subst (λ (s : Stop). OnOk c.write_said-in-NoMemory.result (Appends (g.E.Sink.written c.args.err.now) (g.E.Sink.written c.write_said-in-NoMemory.new.err) (said_of c.args.program.now c.args.usage.now s)))
    (sym c.in-NoMemory.is) c.write_said-in-NoMemory.ensures.whole

pub returns-in-NoMemory-clause-part : goal.returns-in-NoMemory-clause-part
returns-in-NoMemory-clause-part g c =
    subst (λ (s : Stop). OnErr c.write_said-in-NoMemory.result (AppendsPart (g.E.Sink.written c.args.err.now) (g.E.Sink.written c.write_said-in-NoMemory.new.err) (said_of c.args.program.now c.args.usage.now s)))
    (sym c.in-NoMemory.is) c.write_said-in-NoMemory.ensures.part

pub returns-in-TooLong-clause-whole : goal.returns-in-TooLong-clause-whole
returns-in-TooLong-clause-whole g c =
    subst (λ (s : Stop). OnOk c.write_said-in-TooLong.result (Appends (g.E.Sink.written c.args.err.now) (g.E.Sink.written c.write_said-in-TooLong.new.err) (said_of c.args.program.now c.args.usage.now s)))
    (sym c.in-TooLong.is) c.write_said-in-TooLong.ensures.whole

pub returns-in-TooLong-clause-part : goal.returns-in-TooLong-clause-part
returns-in-TooLong-clause-part g c =
    subst (λ (s : Stop). OnErr c.write_said-in-TooLong.result (AppendsPart (g.E.Sink.written c.args.err.now) (g.E.Sink.written c.write_said-in-TooLong.new.err) (said_of c.args.program.now c.args.usage.now s)))
    (sym c.in-TooLong.is) c.write_said-in-TooLong.ensures.part
