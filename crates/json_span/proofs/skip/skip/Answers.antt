use Rattle.std.proofs.Common.{◌≡◌, [], ◌∷◌, ◌++◌, true, false, subst, sym, arith}
use Rattle.std.proofs.lemmas.Result.{err_from_is_err_and}
use Rattle.json_span.specs.inner.Skipping.{left_of, ContinuesAs, StopsAt}
use Rattle.json_span.proofs.Skips as skip
use Rattle.json_span.proofs.skip.skip.Goals as goal

pub returns-in_err-place-clause-stop : goal.returns-in_err-place-clause-stop
returns-in_err-place-clause-stop c =
    let T = c.args.text.now in
    let r = left_of c.args.wants_first c.args.brackets.items in
    let p = err_from_is_err_and c.from_residual.result c.from_residual.ensures.1 in
    rw (p.1, p.2) (skip.lead_stops T r (left_of true c.loop-wants.brackets.items) c.args.from c.loop-wants.at c.in_err-place.field-0.0
    (subst (λ z. ContinuesAs T r c.args.from (left_of z c.loop-wants.brackets.items) c.loop-wants.at) c.if-wants.true c.loop-wants.invariant.1) c.in_err-place.ensures.stop)

pub returns-in-None-clause-end : goal.returns-in-None-clause-end
returns-in-None-clause-end c =
    let T = c.args.text.now in
    let r = left_of c.args.wants_first c.args.brackets.items in
    let none : c.loop-wants.brackets.items ≡ [] = skip.none_left c.loop-wants.brackets.items (omega (arith, c.in-None.ensures.cases.0, c.loop-wants.brackets.ok.0)) in
    skip.lead_ends T r c.args.from c.loop-wants.at c.loop-wants.invariant.0
    (subst (λ z. ContinuesAs T r c.args.from (left_of false z) c.loop-wants.at) none
    (subst (λ z. ContinuesAs T r c.args.from (left_of z c.loop-wants.brackets.items) c.loop-wants.at) c.if-wants.false c.loop-wants.invariant.1))

pub returns-in_err-place-in-Some-clause-stop : goal.returns-in_err-place-in-Some-clause-stop
returns-in_err-place-in-Some-clause-stop c =
    let T = c.args.text.now in
    let r = left_of c.args.wants_first c.args.brackets.items in
    let p = err_from_is_err_and c.from_residual-in_err-place-in-Some.result c.from_residual-in_err-place-in-Some.ensures.1 in
    let same : c.loop-wants.brackets.items ≡ c.pop.new.self.items ++ c.in-Some.bracket ∷ [] = c.in-Some.ensures.items in
    rw (p.1, p.2) (skip.lead_stops T r (left_of false c.loop-wants.brackets.items) c.args.from c.loop-wants.at c.in_err-place-in-Some.field-0.0
    (subst (λ z. ContinuesAs T r c.args.from (left_of z c.loop-wants.brackets.items) c.loop-wants.at) c.if-wants.false c.loop-wants.invariant.1)
    (subst (λ z. StopsAt (left_of false z) T c.loop-wants.at c.in_err-place-in-Some.field-0.0) (sym same) c.in_err-place-in-Some.ensures.stop))
