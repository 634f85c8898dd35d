use Rattle.std.proofs.Common.{sym}
use Rattle.std.proofs.lemmas.Result.{err_from_is_err_and}
use Rattle.json_span.specs.inner.Scan.{rule_of}
use Rattle.json_span.proofs.Skips as skip
use Rattle.json_span.proofs.skip.go_on.Goals as goal

pub returns-in_err-end-clause-stop : goal.returns-in_err-end-clause-stop
returns-in_err-end-clause-stop c =
    let p = err_from_is_err_and c.from_residual.result c.from_residual.ensures.1 in
    rw (p.1, p.2) (skip.close_stops c.args.text.now c.args.brackets.now.items c.args.bracket (rule_of c.close.result) c.args.at c.blanks_end-behind.result c.in_err-end.field-0.0
    c.close.ensures c.blanks_end-behind.ensures (sym c.if-not-has.ensures.test) c.in_err-end.ensures)

pub returns-then-not-has-clause-leads : goal.returns-then-not-has-clause-leads
returns-then-not-has-clause-leads c = skip.go_close c.args.text.now c.args.brackets.now.items c.args.bracket (rule_of c.close.result) c.args.at c.blanks_end-behind.result c.in_ok-end.end
    c.close.ensures c.blanks_end-behind.ensures (sym c.if-not-has.ensures.test) c.in_ok-end.ensures

pub returns-then-not-has-clause-forward : goal.returns-then-not-has-clause-forward
returns-then-not-has-clause-forward c = skip.past_close c.args.text.now c.args.brackets.now.items c.args.bracket (rule_of c.close.result) c.args.at c.blanks_end-behind.result c.in_ok-end.end
    c.close.ensures c.blanks_end-behind.ensures.within_text c.blanks_end-behind.ensures c.in_ok-end.ensures

pub returns-in_err-next-clause-stop : goal.returns-in_err-next-clause-stop
returns-in_err-next-clause-stop c =
    let p = err_from_is_err_and c.from_residual-in_err-next.result c.from_residual-in_err-next.ensures.1 in
    rw (p.1, p.2) (skip.comma_stops c.args.text.now c.args.brackets.now.items c.args.bracket c.args.at c.blanks_end-behind.result c.blanks_end-item.result c.in_err-next.field-0.0
    c.blanks_end-behind.ensures c.if-not-has.ensures.bound (sym c.if-not-has.ensures.test) c.blanks_end-item.ensures c.in_err-next.ensures)

pub returns-clause-leads : goal.returns-clause-leads
returns-clause-leads c = skip.go_comma c.args.text.now c.args.brackets.now.items c.args.bracket c.args.at c.blanks_end-behind.result c.blanks_end-item.result c.in_ok-next.next
    c.blanks_end-behind.ensures c.if-not-has.ensures.bound (sym c.if-not-has.ensures.test) c.blanks_end-item.ensures c.in_ok-next.ensures c.push.new.self.items c.in_ok-push.ensures.items
