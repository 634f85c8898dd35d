use Rattle.std.specs.FinMap as finite
use Rattle.std.proofs.Common.{sym, subst}
use Rattle.token_tree.specs.View.{group_view}
use Rattle.source_trees.specs.Merges.{IsMergeOf}
use Rattle.source_trees.specs.declared.merge.Merge.TheVariants as merge
use Rattle.token_cells.specs.Cell.{AreCells}
use Rattle.build_plain.proofs.Works.{flat_work, flat_within, broken_work, merged_only}
use Rattle.build_plain.proofs.outcome.tree_outcome.Goals as goal

pub returns-in_ok-evaluated-in-Flat-clause-ok : goal.returns-in_ok-evaluated-in-Flat-clause-ok
returns-in_ok-evaluated-in-Flat-clause-ok g c =
    let tokens = c.in_ok-evaluated-in-Flat.ensures.tokens in
    let is = subst (IsMergeOf (group_view c.args.tree.now)) c.in-Flat.is c.in_ok-flat.ensures.ok in (
      subst (λ f. IsMergeOf (group_view c.args.tree.now) (merge.Flat f)) (sym tokens) is,
      subst (λ f. AreCells f c.args.cfg.now (finite.entries f) c.in_ok-evaluated-in-Flat.evaluated.cells) (sym tokens) c.in_ok-evaluated-in-Flat.ensures.ok,
    )

pub returns-in_ok-evaluated-in-Flat-clause-work : goal.returns-in_ok-evaluated-in-Flat-clause-work
returns-in_ok-evaluated-in-Flat-clause-work g c =
    let tree = group_view c.args.tree.now in
    let is = subst (IsMergeOf tree) c.in-Flat.is c.in_ok-flat.ensures.ok in
    flat_work tree c.in-Flat.flat c.args.merges.now c.merge_of.new.merges c.args.evals.now c.cells_of.new.evals is.0 is.1 c.merge_of.ensures.step c.in_ok-evaluated-in-Flat.ensures.steps

pub returns-in_ok-evaluated-in-Flat-clause-at_most : goal.returns-in_ok-evaluated-in-Flat-clause-at_most
returns-in_ok-evaluated-in-Flat-clause-at_most g c =
    let tree = group_view c.args.tree.now in
    let is = subst (IsMergeOf tree) c.in-Flat.is c.in_ok-flat.ensures.ok in
    flat_within tree c.one_answer.ensures.flat c.one_answer.ensures.sound
    c.in-Flat.flat c.args.merges.now c.merge_of.new.merges c.args.evals.now c.cells_of.new.evals is.0 is.1 c.merge_of.ensures.step c.cells_of.ensures.at_most

pub returns-in_err-evaluated-in-Flat-clause-at_most : goal.returns-in_err-evaluated-in-Flat-clause-at_most
returns-in_err-evaluated-in-Flat-clause-at_most g c =
    let tree = group_view c.args.tree.now in
    let is = subst (IsMergeOf tree) c.in-Flat.is c.in_ok-flat.ensures.ok in
    flat_within tree c.one_answer.ensures.flat c.one_answer.ensures.sound
    c.in-Flat.flat c.args.merges.now c.merge_of.new.merges c.args.evals.now c.cells_of.new.evals is.0 is.1 c.merge_of.ensures.step c.cells_of.ensures.at_most

pub returns-in-Broken-clause-ok : goal.returns-in-Broken-clause-ok
returns-in-Broken-clause-ok g c = subst (IsMergeOf (group_view c.args.tree.now)) c.in-Broken.is c.in_ok-flat.ensures.ok

pub returns-in-Broken-clause-work : goal.returns-in-Broken-clause-work
returns-in-Broken-clause-work g c =
    let tree = group_view c.args.tree.now in
    let is = subst (IsMergeOf tree) c.in-Broken.is c.in_ok-flat.ensures.ok in
    broken_work tree c.in-Broken.fault c.args.merges.now c.merge_of.new.merges c.args.evals.now is.0 is.1 c.merge_of.ensures.step

pub returns-in-Broken-clause-at_most : goal.returns-in-Broken-clause-at_most
returns-in-Broken-clause-at_most g c = merged_only (group_view c.args.tree.now) c.args.merges.now c.merge_of.new.merges c.args.evals.now c.merge_of.ensures.step

pub returns-in_err-flat-clause-at_most : goal.returns-in_err-flat-clause-at_most
returns-in_err-flat-clause-at_most g c = merged_only (group_view c.args.tree.now) c.args.merges.now c.merge_of.new.merges c.args.evals.now c.merge_of.ensures.step
