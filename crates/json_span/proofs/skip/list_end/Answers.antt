use Rattle.std.proofs.Common.{subst, ◌≡◌, ◌++◌, [], ◌∷◌, false, ap, ◌∙◌}
use Rattle.std.specs.Prelude.{IfOk, IfErr}
use Rattle.std.proofs.lemmas.Result.{IfOk-weaker, IfErr-weaker}
use Rattle.grammar.specs.Grammar.{seq, empty}
use Rattle.json_span.specs.Grammar.{ws}
use Rattle.json_span.specs.Predictive.{more_of}
use Rattle.json_span.specs.inner.Alternatives.{bracket_of}
use Rattle.json_span.specs.inner.Scan.{ReadsTo}
use Rattle.json_span.specs.inner.Skipping.{left_of, StopsAt}
use Rattle.json_span.proofs.Skips as skip
use Rattle.json_span.proofs.skip.list_end.Goals as goal

pub returns-clause-end : goal.returns-clause-end
returns-clause-end c =
    let T = c.args.text.now in
    let m = more_of (bracket_of c.args.bracket) in
    let one : c.push.new.self.items ≡ c.args.bracket ∷ [] = c.in_ok-push.ensures.items ∙ ap (λ z. z ++ c.args.bracket ∷ []) c.new-brackets.ensures.items in
    IfOk-weaker c.skip.result (λ e. ReadsTo (seq ws (seq m empty)) T c.args.at e) (λ e. ReadsTo (seq ws m) T c.args.at e) (λ e x. skip.reach_list_alone T ws m c.args.at e x)
    (subst (λ z. IfOk c.skip.result (λ e. ReadsTo (left_of false z) T c.args.at e)) one c.skip.ensures.end)

pub returns-clause-stop : goal.returns-clause-stop
returns-clause-stop c =
    let T = c.args.text.now in
    let m = more_of (bracket_of c.args.bracket) in
    let one : c.push.new.self.items ≡ c.args.bracket ∷ [] = c.in_ok-push.ensures.items ∙ ap (λ z. z ++ c.args.bracket ∷ []) c.new-brackets.ensures.items in
    IfErr-weaker c.skip.result (λ e. StopsAt (seq ws (seq m empty)) T c.args.at e) (λ e. StopsAt (seq ws m) T c.args.at e) (λ e x. skip.stops_list_alone T ws m c.args.at e x)
    (subst (λ z. IfErr c.skip.result (λ e. StopsAt (left_of false z) T c.args.at e)) one c.skip.ensures.stop)
