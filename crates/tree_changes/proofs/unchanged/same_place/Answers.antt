use Rattle.std.proofs.Common.{List, sym, subst}
use Rattle.group_inherit.specs.Flattening.{TokenAt}
use Rattle.tree_changes.specs.inner.Places.{IsPassed}
use Rattle.tree_changes.proofs.Standing.{none_found, same_found, other_found}
use Rattle.tree_changes.proofs.unchanged.same_place.Goals as goal

pub place_from-requires-clause-passed : goal.place_from-requires-clause-passed
place_from-requires-clause-passed c =
    subst (λ (ts : List TokenAt). IsPassed ts c.args.token.now.0 c.args.at.now) (sym c.as_slice-tokens.ensures.entries) c.requires.passed

pub bounds-tokens-i : goal.bounds-tokens-i
bounds-tokens-i c = c.in-Some.ensures.found.0

pub returns-in_default-clause-found : goal.returns-in_default-clause-found
returns-in_default-clause-found c =
    none_found c.args.old.now c.as_slice-tokens.result.now c.args.token.now c.as_slice-tokens.ensures.entries c.in_default.ensures.found

pub returns-then-is_same-clause-found : goal.returns-then-is_same-clause-found
returns-then-is_same-clause-found c =
    same_found c.args.old.now c.as_slice-tokens.result.now c.args.token.now c.index-tokens-i.result c.in-Some.i c.as_slice-tokens.ensures.entries
    c.in-Some.ensures.found (c.is_same.ensures.same c.if-is_same.true)

pub returns-else-is_same-clause-found : goal.returns-else-is_same-clause-found
returns-else-is_same-clause-found c =
    other_found c.args.old.now c.as_slice-tokens.result.now c.args.token.now c.index-tokens-i.result c.in-Some.i c.as_slice-tokens.ensures.entries
    c.in-Some.ensures.found (c.is_same.ensures.other c.if-is_same.false)
