use Rattle.std.proofs.Common.{List, sym, subst}
use Rattle.std.proofs.lemmas.Result.{IfOk-weaker, on_ok_weaker}
use Rattle.file_plan.specs.View.{plan_perm_view, plan_sources_view}
use Rattle.file_plan.specs.declared.source.PlanSource.{PlanSource}
use Rattle.source_trees.specs.Merging.{AllInlineStand}
use Rattle.source_trees.specs.Sources.{HomeAt}
use Rattle.source_trees.specs.View.{home_view}
use Rattle.build_plain.specs.Breaks.{home_of}
use Rattle.build_plain.specs.Work.{work}
use Rattle.build_plain.specs.Outcomes.{IsOutcome}
use Rattle.build_plain.proofs.Perm.{perm_tree, perm_break, perm_tree_work, perm_tree_within, perm_break_work}
use Rattle.build_plain.proofs.outcome.perm_outcome.Goals as goal

pub merged_sources-requires : goal.merged_sources-requires
merged_sources-requires g c =
    subst (λ (h : HomeAt). AllInlineStand h.text (plan_sources_view c.as_slice-sources.result.now)) (sym c.home_of-home.ensures)
    (subst (λ (s : List PlanSource). AllInlineStand (home_of c.args.files.now).text (plan_sources_view s)) (sym c.as_slice-sources.ensures) c.requires.stand)

pub returns-in-Tree-clause-ok : goal.returns-in-Tree-clause-ok
returns-in-Tree-clause-ok g c =
    IfOk-weaker c.tree_outcome.result _ (IsOutcome c.args.cfg.now c.args.files.now (plan_perm_view c.args.perm.now))
    (perm_tree c.args.files.now (home_view c.home_of-home.result) c.args.perm.now c.home_of-home.ensures c.args.shapes.now c.requires.known c.as_slice-sources.result.now c.as_slice-sources.ensures
    c.in_ok-tree.field-0 c.in_ok-tree.ensures c.args.cfg.now c.in-Tree.tree c.in-Tree.is) c.tree_outcome.ensures.ok

pub returns-in-Tree-clause-work : goal.returns-in-Tree-clause-work
returns-in-Tree-clause-work g c =
    on_ok_weaker c.tree_outcome.result
    (perm_tree_work c.args.files.now (home_view c.home_of-home.result) c.args.perm.now c.home_of-home.ensures c.args.shapes.now c.requires.known c.as_slice-sources.result.now c.as_slice-sources.ensures
    c.in_ok-tree.field-0 c.in_ok-tree.ensures c.in-Tree.tree (work 0 c.args.merges.now c.args.evals.now) (work 0 c.tree_outcome.new.merges c.tree_outcome.new.evals) c.in-Tree.is) c.tree_outcome.ensures.work

pub returns-in-Tree-clause-at_most : goal.returns-in-Tree-clause-at_most
returns-in-Tree-clause-at_most g c =
    perm_tree_within c.args.files.now (home_view c.home_of-home.result) c.args.perm.now c.home_of-home.ensures c.args.shapes.now c.requires.known c.as_slice-sources.result.now c.as_slice-sources.ensures
    c.in_ok-tree.field-0 c.in_ok-tree.ensures c.one_merge.ensures.found c.in-Tree.tree (work 0 c.args.merges.now c.args.evals.now) (work 0 c.tree_outcome.new.merges c.tree_outcome.new.evals) c.in-Tree.is c.tree_outcome.ensures.at_most

pub returns-in-Broken-clause-ok : goal.returns-in-Broken-clause-ok
returns-in-Broken-clause-ok g c =
    perm_break c.args.files.now (home_view c.home_of-home.result) c.args.perm.now c.home_of-home.ensures c.args.shapes.now c.requires.known c.as_slice-sources.result.now c.as_slice-sources.ensures
    c.in_ok-tree.field-0 c.in_ok-tree.ensures c.in-Broken.found c.in-Broken.is

pub returns-in-Broken-clause-work : goal.returns-in-Broken-clause-work
returns-in-Broken-clause-work g c =
    perm_break_work c.args.files.now (home_view c.home_of-home.result) c.args.perm.now c.home_of-home.ensures c.args.shapes.now c.requires.known c.as_slice-sources.result.now c.as_slice-sources.ensures
    c.in_ok-tree.field-0 c.in_ok-tree.ensures c.in-Broken.found (work 0 c.args.merges.now c.args.evals.now) c.in-Broken.is
