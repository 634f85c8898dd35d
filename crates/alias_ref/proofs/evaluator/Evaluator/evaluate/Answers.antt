use Rattle.std.proofs.Common.{rules, ◌≡◌, Some, sym, subst}
use Rattle.std.specs.FinMap as map
use Rattle.std.specs.List.{slice_get}
use Rattle.alias_ref.specs.Answer.{IsResolved}
use Rattle.alias_ref.specs.Laws.{Flat}
use Rattle.alias_ref.proofs.TracesGrow.{some_case}
use Rattle.alias_ref.proofs.evaluator.Evaluator.evaluate.Goals as goal

pub returns-in-Some-clause-resolved : goal.returns-in-Some-clause-resolved
returns-in-Some-clause-resolved g c =
    let flat : Flat = c.self.inside.flat.now in
    let token = c.args.token.now in
    let same : flat ≡ c.args.self.now = search rules in
    let there = subst (λ (x : Flat). slice_get (map.entries x) c.args.i ≡ Some token) (sym same) c.requires.token in
    subst (λ (x : Flat). IsResolved x token.0 c.in-Some.resolved) same
    (some_case c.in_ok-resolved.field-0 c.in-Some.resolved (IsResolved flat token.0) c.in-Some.is (c.in_ok-resolved.ensures flat there c.self.invariant.0))
