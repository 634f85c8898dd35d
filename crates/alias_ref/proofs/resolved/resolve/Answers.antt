use Rattle.std.proofs.Common.{rules, ◌≡◌, Some, None, refl, subst}
use Rattle.std.proofs.lemmas.Result.{err_from_is_err_and}
use Rattle.alias_ref.specs.Kinds.{KindOf, own_in, group_in}
use Rattle.alias_ref.specs.Visits.{ref_break}
use Rattle.alias_ref.specs.Written.{whole, written_in}
use Rattle.alias_ref.specs.inner.Seen.{IsFault}
use Rattle.alias_ref.specs.declared.fault.RefRule.TheVariants as rule
use Rattle.alias_ref.proofs.AnswersAreOne.{fault_broken, fault_ring, missing_broken}
use Rattle.alias_ref.proofs.resolved.resolve.Goals as goal

pub returns-in_err-found-clause-broken : goal.returns-in_err-found-clause-broken
returns-in_err-found-clause-broken c =
    let p = err_from_is_err_and c.from_residual-in_err-found.result c.from_residual-in_err-found.ensures.1 in
    rw (p.1, p.2) (fault_broken c.args.flat.now c.args.path.now c.in_err-found.field-0.0 c.in_err-found.ensures.broken)

pub returns-in_err-found-clause-ring : goal.returns-in_err-found-clause-ring
returns-in_err-found-clause-ring c =
    let p = err_from_is_err_and c.from_residual-in_err-found.result c.from_residual-in_err-found.ensures.1 in
    rw (p.1, p.2) (fault_ring c.args.flat.now c.args.path.now c.in_err-found.field-0.0 c.in_err-found.ensures.broken)

pub returns-in_default-kind-clause-broken : goal.returns-in_default-kind-clause-broken
returns-in_default-kind-clause-broken c =
    let flat = c.args.flat.now in
    let token = c.args.path.now in
    let found = c.in_ok-found.ensures in
    let none : c.in_ok-found.found.kind ≡ None = search rules in
    let fault : IsFault c.broken.result (Some (ref_break rule.NoType (whole token))) = search rules in
    missing_broken flat token c.broken.result fault found.unbroken (subst (KindOf (written_in flat) (own_in flat) (group_in flat) token) none (found.kind refl))
