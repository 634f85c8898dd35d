use Rattle.std.proofs.Common.{◌∙◌, codes}
use Rattle.std.specs.Fmt.{decimal}
use Rattle.refusals.specs.Refusal.{rule_name, line_of, column_of, refusal_text}
use Rattle.refusals.proofs.Refusals.{three, lines}
use Rattle.refusals.proofs.refusal.refusal_text.Goals as goal

pub returns : goal.returns
unfolding refusal_text
returns c =
    three c.new-out.result c.append_rule.new.out c.append_line_and_column.new.out c.append_span.new.out _ _ _ c.new-out.ensures c.in_ok-append_rule.ensures c.in_ok-append_line_and_column.ensures c.in_ok-append_span.ensures
    ∙ lines (codes "rule ") (rule_name c.args.rule) (codes "\nfile ") c.args.file.now
    (codes "\nline ") (decimal (line_of c.args.text.now c.args.start)) (codes " column ") (decimal (column_of c.args.text.now c.args.start))
    (codes "\nbytes ") (decimal c.args.start) (codes " ") (decimal c.args.end) (codes "\n")
