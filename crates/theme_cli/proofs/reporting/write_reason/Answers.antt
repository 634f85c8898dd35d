use Rattle.std.proofs.Common.{◌∙◌, ℕ, List, ◌++◌, OnOk, codes, ap, sym, subst}
use Rattle.std.specs.Io.KnownBytes.{Appends}
use Rattle.theme_cli.specs.Report.{refused_text}
use Rattle.theme_cli.specs.inner.Ending.{answer_text}
use Rattle.theme_cli.proofs.reporting.write_reason.Goals as goal

pub returns-in-Refused-clause-whole : goal.returns-in-Refused-clause-whole
returns-in-Refused-clause-whole g c =
    subst (λ (text : List ℕ). OnOk c.write_line.result (Appends (g.E.Sink.written c.args.err.now) (g.E.Sink.written c.write_line.new.err) text))
    (ap refused_text c.as_slice.ensures ∙ sym (ap answer_text c.in-Refused.is)) c.write_line.ensures.whole

pub returns-in-Name-clause-whole : goal.returns-in-Name-clause-whole
returns-in-Name-clause-whole g c =
    subst (λ (text : List ℕ). OnOk c.write_line-in-Name.result (Appends (g.E.Sink.written c.args.err.now) (g.E.Sink.written c.write_line-in-Name.new.err) text))
    (ap (λ name. codes "tokc_themes: name " ++ name ++ codes "\n") c.as_slice-in-Name.ensures ∙ sym (ap answer_text c.in-Name.is)) c.write_line-in-Name.ensures.whole
