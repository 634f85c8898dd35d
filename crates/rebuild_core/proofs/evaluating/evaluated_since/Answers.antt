use Rattle.std.proofs.Common.{List, Option, Some, ℕ, sym, ap, subst, ◌∙◌, arith}
use Rattle.std.specs.FinMap as finite
use Rattle.std.specs.List.{AllZip, count_by}
use Rattle.std.specs.Option.{is_none}
use Rattle.alias_ref.specs.Laws.{Flat}
use Rattle.tree_changes.specs.Standing.{KeepsAt}
use Rattle.rebuild_core.specs.inner.Evaluating.{AreReached}
use Rattle.rebuild_core.proofs.KeptPlaces.{places_reached, reached_once}
use Rattle.rebuild_core.proofs.evaluating.evaluated_since.Goals as goal

pub returns-clause-count : goal.returns-clause-count
returns-clause-count g c =
    let old = c.args.old.now.tokens in
    let flat = c.args.flat in
    let places = c.in_ok-places.places.items in
    let all = subst (λ (f : Flat). AllZip (KeepsAt f flat) (finite.entries flat) places) c.tokens.ensures c.in_ok-places.ensures.places in
    subst (AreReached (Some old) flat) (sym (c.places_left-evaluated.ensures ∙ ap (λ (ps : List (Option ℕ)). count_by is_none ps) c.as_slice.ensures.value)) (places_reached old flat places all)

pub returns-clause-at_most : goal.returns-clause-at_most
returns-clause-at_most g c = λ n is.
    let old = c.args.old.now.tokens in
    let flat = c.args.flat in
    let places = c.in_ok-places.places.items in
    let all = subst (λ (f : Flat). AllZip (KeepsAt f flat) (finite.entries flat) places) c.tokens.ensures c.in_ok-places.ensures.places in
    omega (arith, c.cells_since.ensures.at_most, ap (λ (ps : List (Option ℕ)). count_by is_none ps) c.as_slice-2.ensures.value, reached_once old flat places n all is)

pub returns-in_err-tree-clause-at_most : goal.returns-in_err-tree-clause-at_most
returns-in_err-tree-clause-at_most g c = λ n is.
    let old = c.args.old.now.tokens in
    let flat = c.args.flat in
    let places = c.in_ok-places.places.items in
    let all = subst (λ (f : Flat). AllZip (KeepsAt f flat) (finite.entries flat) places) c.tokens.ensures c.in_ok-places.ensures.places in
    omega (arith, c.cells_since.ensures.at_most, ap (λ (ps : List (Option ℕ)). count_by is_none ps) c.as_slice-2.ensures.value, reached_once old flat places n all is)
