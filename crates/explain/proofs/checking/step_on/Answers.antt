use Rattle.std.proofs.Common.{List, [], ◌∷◌, ◌++◌, sym, ap, ◌∙◌, subst}
use Rattle.alias_ref.specs.Written.{Step, written_in, is_written}
use Rattle.name_path.specs.declared.place.Place.{Place}
use Rattle.explain.specs.Validity.{SettlesBy}
use Rattle.explain.specs.inner.Holding.{IsFound}
use Rattle.explain.proofs.HopsHold.{not_on}
use Rattle.explain.proofs.checking.step_on.Goals as goal

pub returns-then-not-written-clause-place : goal.returns-then-not-written-clause-place
returns-then-not-written-clause-place c = λ hops k q t.
    let T = written_in c.args.flat.now in
    let settles = subst (IsFound (λ r. SettlesBy T hops c.args.place.now r)) c.in-Some.is (c.in_ok-next.ensures.end hops k) in
    let next = c.in-Some.next in
    let at : List Step → Place = λ trail. record { token = next.token; trail = trail } in
    let trail = c.in_ok-push.ensures.ok ∙ ap (λ s. next.trail ++ s ∷ []) c.in_ok-copy.ensures in
    let absent = ap (λ x. is_written (T (at x))) (sym trail) ∙ sym c.written.ensures ∙ c.if-not-written.true in
    not_on T hops k.starts settles absent q t
