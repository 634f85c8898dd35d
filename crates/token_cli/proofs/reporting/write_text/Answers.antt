use Rattle.std.proofs.Common.{List, ℕ, subst}
use Rattle.std.specs.Prelude.{OnErr, OnOk}
use Rattle.std.specs.Io.KnownBytes.{Appends}
use Rattle.tk_io.specs.Writing.{AppendsPart}
use Rattle.token_cli.proofs.reporting.write_text.Goals as goal

pub returns-clause-whole : goal.returns-clause-whole
returns-clause-whole g c =
    subst (λ (text : List ℕ). OnOk c.write_all.result (Appends (g.E.Sink.written c.args.err.now) (g.E.Sink.written c.write_all.new.out) text)) c.as_bytes.ensures.value c.write_all.ensures.whole

pub returns-clause-part : goal.returns-clause-part
returns-clause-part g c =
    subst (λ (text : List ℕ). OnErr c.write_all.result (AppendsPart (g.E.Sink.written c.args.err.now) (g.E.Sink.written c.write_all.new.out) text)) c.as_bytes.ensures.value c.write_all.ensures.part
