use Rattle.std.proofs.Common.{subst, ◌≡◌, []}
use Rattle.std.specs.Prelude.{IfOk, IfErr}
use Rattle.std.proofs.lemmas.Result.{IfOk-weaker, IfErr-weaker}
use Rattle.grammar.specs.Grammar.{named, seq, empty}
use Rattle.json_span.specs.Grammar.{value}
use Rattle.json_span.specs.inner.Scan.{ReadsTo}
use Rattle.json_span.specs.inner.Skipping.{left_of, StopsAt}
use Rattle.std.proofs.Common.{true}
use Rattle.json_span.proofs.Skips as skip
use Rattle.json_span.proofs.skip.value_end.Goals as goal

pub returns-clause-end : goal.returns-clause-end
returns-clause-end c =
    let T = c.args.text.now in
    let none : c.new.result.items ≡ [] = c.new.ensures.items in
    IfOk-weaker c.skip.result (λ e. ReadsTo (seq (named value) empty) T c.args.at e) (λ e. ReadsTo (named value) T c.args.at e) (λ e x. skip.reach_alone T (named value) c.args.at e x)
    (subst (λ z. IfOk c.skip.result (λ e. ReadsTo (left_of true z) T c.args.at e)) none c.skip.ensures.end)

pub returns-clause-stop : goal.returns-clause-stop
returns-clause-stop c =
    let T = c.args.text.now in
    let none : c.new.result.items ≡ [] = c.new.ensures.items in
    IfErr-weaker c.skip.result (λ e. StopsAt (seq (named value) empty) T c.args.at e) (λ e. StopsAt (named value) T c.args.at e) (λ e x. skip.stops_alone T (named value) c.args.at e x)
    (subst (λ z. IfErr c.skip.result (λ e. StopsAt (left_of true z) T c.args.at e)) none c.skip.ensures.stop)
