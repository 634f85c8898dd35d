use Rattle.std.proofs.Common.{true, false, sym}
use Rattle.std.proofs.lemmas.Result.{err_from_is_err_and}
use Rattle.json_span.specs.inner.Scan.{rule_of}
use Rattle.grammar.specs.Grammar.{named}
use Rattle.json_span.specs.Grammar.{value}
use Rattle.json_span.specs.inner.Skipping.{closing_of}
use Rattle.json_span.proofs.Scans as scan
use Rattle.json_span.proofs.Skips as skip
use Rattle.json_span.proofs.skip.open.Goals as goal

pub returns-then-has-clause-leads : goal.returns-then-has-clause-leads
returns-then-has-clause-leads c =
    let T = c.args.text.now in
    let bs = c.args.brackets.now.items in
    skip.open_empty T bs c.args.bracket c.args.at c.blanks_end-inner.result c.requires.within c.requires.opens c.blanks_end-inner.ensures c.if-has.ensures.bound
    (skip.close_sees T bs c.args.bracket (rule_of c.close.result) c.blanks_end-inner.result true c.close.ensures (sym c.if-has.ensures.test))

pub returns-in_err-next-clause-stop : goal.returns-in_err-next-clause-stop
returns-in_err-next-clause-stop c =
    let T = c.args.text.now in
    let bs = c.args.brackets.now.items in
    let p = err_from_is_err_and c.from_residual.result c.from_residual.ensures.1 in
    rw (p.1, p.2) (scan.halt_first T (named value) (closing_of bs) c.args.at c.in_err-next.field-0.0
    (skip.bad_opens T c.args.bracket c.args.at c.blanks_end-inner.result c.in_err-next.field-0.0 c.requires.opens (skip.open_token T bs c.args.bracket c.args.at c.blanks_end-inner.result c.requires.within c.requires.opens c.blanks_end-inner.ensures)
    (skip.close_sees T bs c.args.bracket (rule_of c.close.result) c.blanks_end-inner.result false c.close.ensures (sym c.if-has.ensures.test)) c.in_err-next.ensures))

pub returns-clause-leads : goal.returns-clause-leads
returns-clause-leads c = λ res x.
    let T = c.args.text.now in
    let bs = c.args.brackets.now.items in
    skip.open_inner T bs c.args.bracket c.args.at c.blanks_end-inner.result c.in_ok-next.next c.requires.within c.requires.opens c.blanks_end-inner.ensures
    (skip.close_sees T bs c.args.bracket (rule_of c.close.result) c.blanks_end-inner.result false c.close.ensures (sym c.if-has.ensures.test)) c.in_ok-next.ensures c.push.new.self.items c.in_ok-push.ensures.items
    res (c.in_ok-last.ensures.leads res x)
