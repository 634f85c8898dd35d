use Rattle.std.proofs.Common.{◌≡◌, Option, Some, None, length, option_map, refl, sym, ap, subst, ◌∙◌, arith}
use Rattle.std.specs.FinMap as finite
use Rattle.alias_ref.specs.Laws.{Flat}
use Rattle.build_plain.specs.Outcomes.{IsOutcome}
use Rattle.rebuild_core.specs.inner.Merging.{AllReached, flat_of}
use Rattle.rebuild_core.specs.inner.Past.{outcome_of}
use Rattle.rebuild_core.proofs.SameSources.{recast_none, recast_tree}
use Rattle.rebuild_core.proofs.merging.recast.Goals as goal

pub returns-in_ok-shared-in-Some-clause-outcome : goal.returns-in_ok-shared-in-Some-clause-outcome
returns-in_ok-shared-in-Some-clause-outcome g c = λ files p settings is.
    let counted = c.in_ok-counted-in-Some.counted in
    let there : Some c.in-Some.tree.now.tokens ≡ flat_of (outcome_of c.args.kept.now) =
    ap (option_map (λ t. t.now.tokens)) (sym c.in-Some.is) ∙ (c.tree_in.ensures.tree ∙ ap flat_of c.outcome.ensures) in
    let same : counted.tree.tokens ≡ c.in-Some.tree.now.tokens = c.in_ok-counted-in-Some.ensures.tokens ∙ (c.in_ok-flat-in-Some.ensures ∙ c.tokens.ensures) in
    subst (IsOutcome c.args.cfg.now files p) (sym c.in_ok-shared-in-Some.ensures)
    (recast_tree settings c.args.cfg.now files p (outcome_of c.args.kept.now) counted.tree (sym there ∙ ap Some (sym same)) c.in_ok-counted-in-Some.ensures.cells is)

pub returns-in_ok-shared-in-Some-clause-count : goal.returns-in_ok-shared-in-Some-clause-count
returns-in_ok-shared-in-Some-clause-count g c =
    let there : Some c.in-Some.tree.now.tokens ≡ flat_of (outcome_of c.args.kept.now) =
    ap (option_map (λ t. t.now.tokens)) (sym c.in-Some.is) ∙ (c.tree_in.ensures.tree ∙ ap flat_of c.outcome.ensures) in
    let same = c.in_ok-flat-in-Some.ensures ∙ c.tokens.ensures in
    subst (λ (o : Option Flat). AllReached o c.in_ok-counted-in-Some.counted.evaluated) there
    (c.in_ok-counted-in-Some.ensures.count ∙ ap (λ (f : Flat). length (finite.entries f)) same)

pub returns-in_ok-shared-in-Some-clause-at_most : goal.returns-in_ok-shared-in-Some-clause-at_most
returns-in_ok-shared-in-Some-clause-at_most g c = λ n all.
    let there : Some c.in-Some.tree.now.tokens ≡ flat_of (outcome_of c.args.kept.now) =
    ap (option_map (λ t. t.now.tokens)) (sym c.in-Some.is) ∙ (c.tree_in.ensures.tree ∙ ap flat_of c.outcome.ensures) in
    let same = c.in_ok-flat-in-Some.ensures ∙ c.tokens.ensures in
    let many : n ≡ length (finite.entries c.in-Some.tree.now.tokens) = subst (λ (o : Option Flat). AllReached o n) (sym there) all in
    omega (arith, c.evaluated_anew.ensures.at_most, many, ap (λ (f : Flat). length (finite.entries f)) same)

pub returns-in_err-shared-in-Some-clause-at_most : goal.returns-in_err-shared-in-Some-clause-at_most
returns-in_err-shared-in-Some-clause-at_most g c = λ n all.
    let there : Some c.in-Some.tree.now.tokens ≡ flat_of (outcome_of c.args.kept.now) =
    ap (option_map (λ t. t.now.tokens)) (sym c.in-Some.is) ∙ (c.tree_in.ensures.tree ∙ ap flat_of c.outcome.ensures) in
    let same = c.in_ok-flat-in-Some.ensures ∙ c.tokens.ensures in
    let many : n ≡ length (finite.entries c.in-Some.tree.now.tokens) = subst (λ (o : Option Flat). AllReached o n) (sym there) all in
    omega (arith, c.evaluated_anew.ensures.at_most, many, ap (λ (f : Flat). length (finite.entries f)) same)

pub returns-in_err-counted-in-Some-clause-at_most : goal.returns-in_err-counted-in-Some-clause-at_most
returns-in_err-counted-in-Some-clause-at_most g c = λ n all.
    let there : Some c.in-Some.tree.now.tokens ≡ flat_of (outcome_of c.args.kept.now) =
    ap (option_map (λ t. t.now.tokens)) (sym c.in-Some.is) ∙ (c.tree_in.ensures.tree ∙ ap flat_of c.outcome.ensures) in
    let same = c.in_ok-flat-in-Some.ensures ∙ c.tokens.ensures in
    let many : n ≡ length (finite.entries c.in-Some.tree.now.tokens) = subst (λ (o : Option Flat). AllReached o n) (sym there) all in
    omega (arith, c.evaluated_anew.ensures.at_most, many, ap (λ (f : Flat). length (finite.entries f)) same)

pub returns-in_ok-shared-in-None-clause-outcome : goal.returns-in_ok-shared-in-None-clause-outcome
returns-in_ok-shared-in-None-clause-outcome g c = λ files p settings is.
    let none : flat_of (outcome_of c.args.kept.now) ≡ None = sym (ap (option_map (λ t. t.now.tokens)) (sym c.in-None.is) ∙ (c.tree_in.ensures.tree ∙ ap flat_of c.outcome.ensures)) in
    subst (IsOutcome c.args.cfg.now files p) (sym c.in_ok-shared-in-None.ensures) (recast_none settings c.args.cfg.now files p (outcome_of c.args.kept.now) none is)

pub returns-in_ok-shared-in-None-clause-count : goal.returns-in_ok-shared-in-None-clause-count
returns-in_ok-shared-in-None-clause-count g c =
    let none : flat_of (outcome_of c.args.kept.now) ≡ None = sym (ap (option_map (λ t. t.now.tokens)) (sym c.in-None.is) ∙ (c.tree_in.ensures.tree ∙ ap flat_of c.outcome.ensures)) in
    subst (λ (o : Option Flat). AllReached o 0) (sym none) refl
