use Rattle.std.proofs.Common.{sym, subst}
use Rattle.std.proofs.lemmas.Result.{err_from_is_err_and}
use Rattle.json_span.specs.Answer.{IsJsonFault}
use Rattle.json_span.specs.inner.Building.{IsBuilt}
use Rattle.json_span.proofs.Refusal as refusal
use Rattle.json_span.proofs.reader.read_short.Goals as goal

pub returns-then-last-text-clause-refused : goal.returns-then-last-text-clause-refused
returns-then-last-text-clause-refused c = refusal.more_answer c.args.text.now c.blanks_end-start.result c.blanks_end-start.ensures c.build_value.new.nodes.items c.in_ok-built.built c.end.result c.blanks_end-last.result (subst (λ z. IsBuilt c.args.text.now c.blanks_end-start.result 64 0 0 z c.build_value.new.nodes.items c.in_ok-built.built) c.no_spans-nodes.ensures c.in_ok-built.ensures.ok) c.end.ensures c.blanks_end-last.ensures c.if-last-text.true

pub root-requires : goal.root-requires
root-requires c = refusal.whole_answer c.args.text.now c.blanks_end-start.result c.blanks_end-start.ensures c.build_value.new.nodes.items c.in_ok-built.built c.in-Whole.field-0 c.end.result c.blanks_end-last.result c.in-Whole.is (subst (λ z. IsBuilt c.args.text.now c.blanks_end-start.result 64 0 0 z c.build_value.new.nodes.items c.in_ok-built.built) c.no_spans-nodes.ensures c.in_ok-built.ensures.ok) c.end.ensures c.blanks_end-last.ensures c.if-last-text.false

pub returns-clause-refused : goal.returns-clause-refused
returns-clause-refused c =
    subst (IsJsonFault c.args.text.now) (sym c.fault_of.ensures)
    (refusal.flawed_answer c.args.text.now c.blanks_end-start.result c.blanks_end-start.ensures c.build_value.new.nodes.items c.in_ok-built.built c.in-Flawed.flaw c.in-Flawed.field-1 c.end.result c.blanks_end-last.result c.in-Flawed.is (subst (λ z. IsBuilt c.args.text.now c.blanks_end-start.result 64 0 0 z c.build_value.new.nodes.items c.in_ok-built.built) c.no_spans-nodes.ensures c.in_ok-built.ensures.ok) c.end.ensures c.blanks_end-last.ensures c.if-last-text.false)

pub returns-in_err-built-clause-refused : goal.returns-in_err-built-clause-refused
returns-in_err-built-clause-refused c =
    let p = err_from_is_err_and c.from_residual.result c.from_residual.ensures.1 in
    rw (p.1, p.2) (refusal.no_value c.args.text.now c.blanks_end-start.result c.blanks_end-start.ensures c.in_err-built.field-0.0 c.in_err-built.ensures.stop)
