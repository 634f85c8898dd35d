use Rattle.std.proofs.Common.{Some, option_map, refl, sym, ap, subst}
use Rattle.token_tree.specs.View.{group_view}
use Rattle.source_trees.specs.Merges.{IsMergeOf}
use Rattle.source_trees.specs.declared.merge.Merge.TheVariants as merge
use Rattle.rebuild_core.specs.inner.Merging.{EvalsOf}
use Rattle.rebuild_core.proofs.OneWork.{one_merge_of}
use Rattle.rebuild_core.proofs.merging.merged_tree.Goals as goal

pub returns-in_ok-counted-in-Flat-clause-outcome : goal.returns-in_ok-counted-in-Flat-clause-outcome
returns-in_ok-counted-in-Flat-clause-outcome g c =
    let tree = group_view c.args.tree.now in
    let is = subst (IsMergeOf tree) c.in-Flat.is c.in_ok-flat.ensures.ok in
    (subst (λ f. IsMergeOf tree (merge.Flat f)) (sym c.in_ok-counted-in-Flat.ensures.tokens) is, c.in_ok-counted-in-Flat.ensures.cells)

pub returns-in_ok-counted-in-Flat-clause-count : goal.returns-in_ok-counted-in-Flat-clause-count
returns-in_ok-counted-in-Flat-clause-count g c =
    (merge.Flat c.in-Flat.flat, ap (λ f. Some (merge.Flat f)) c.in_ok-counted-in-Flat.ensures.tokens, c.in_ok-counted-in-Flat.ensures.count)

pub returns-in_ok-counted-in-Flat-clause-at_most : goal.returns-in_ok-counted-in-Flat-clause-at_most
returns-in_ok-counted-in-Flat-clause-at_most g c = λ m n is reached.
    let tree = group_view c.args.tree.now in
    let same = one_merge_of c.laws_below.ensures.one tree m (merge.Flat c.in-Flat.flat) is (subst (IsMergeOf tree) c.in-Flat.is c.in_ok-flat.ensures.ok) in
    c.evaluated_tree.ensures.at_most n (subst (λ x. EvalsOf (option_map (λ t. t.now.tokens) c.args.old) x n) same reached)

pub returns-in_err-counted-in-Flat-clause-at_most : goal.returns-in_err-counted-in-Flat-clause-at_most
returns-in_err-counted-in-Flat-clause-at_most g c = λ m n is reached.
    let tree = group_view c.args.tree.now in
    let same = one_merge_of c.laws_below.ensures.one tree m (merge.Flat c.in-Flat.flat) is (subst (IsMergeOf tree) c.in-Flat.is c.in_ok-flat.ensures.ok) in
    c.evaluated_tree.ensures.at_most n (subst (λ x. EvalsOf (option_map (λ t. t.now.tokens) c.args.old) x n) same reached)

pub returns-in-Broken-clause-outcome : goal.returns-in-Broken-clause-outcome
returns-in-Broken-clause-outcome g c = subst (IsMergeOf (group_view c.args.tree.now)) c.in-Broken.is c.in_ok-flat.ensures.ok

pub returns-in-Broken-clause-count : goal.returns-in-Broken-clause-count
returns-in-Broken-clause-count g c = (merge.Broken c.in-Broken.fault, refl, refl)
