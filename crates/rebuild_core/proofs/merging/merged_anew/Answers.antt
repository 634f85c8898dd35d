use Rattle.std.proofs.Common.{List, option_map, refl, sym, ap, subst, ◌∙◌, arith}
use Rattle.file_plan.specs.View.{plan_perm_view, plan_sources_view}
use Rattle.file_plan.specs.declared.source.PlanSource.{PlanSource}
use Rattle.source_trees.specs.Merging.{AllInlineStand, IsFront, IsMergedOf}
use Rattle.source_trees.specs.Sources.{HomeAt}
use Rattle.source_trees.specs.View.{home_view}
use Rattle.source_trees.specs.declared.laying.Merged.TheVariants.{Tree}
use Rattle.build_plain.specs.Breaks.{home_of}
use Rattle.build_plain.specs.Outcomes.{IsOutcome}
use Rattle.build_plain.specs.Work.{added, work}
use Rattle.build_plain.specs.declared.outcome.Outcome.TheVariants.{SourceBreak}
use Rattle.build_plain.proofs.Perm.{merged, perm_tree, perm_break}
use Rattle.build_plain.proofs.Works.{added_none, no_rise, work_same}
use Rattle.std.proofs.lemmas.Result.{IfOk-weaker}
use Rattle.rebuild_core.specs.Work.{IsMerge}
use Rattle.rebuild_core.specs.inner.Merging.{WorkBeside}
use Rattle.rebuild_core.specs.inner.Past.{outcome_of}
use Rattle.rebuild_core.proofs.PermWorks.{anew_work, broken_work, if_both, within_tree}
use Rattle.rebuild_core.proofs.SameSources.{outcome_merge}
use Rattle.rebuild_core.proofs.merging.merged_anew.Goals as goal

pub merged_behind-requires-clause-stand : goal.merged_behind-requires-clause-stand
merged_behind-requires-clause-stand g c =
    subst (λ (h : HomeAt). AllInlineStand h.text (plan_sources_view c.as_slice-sources.result.now)) (sym c.home_of-home.ensures)
    (subst (λ (s : List PlanSource). AllInlineStand (home_of c.args.files.now).text (plan_sources_view s)) (sym c.as_slice-sources.ensures) c.requires.stand)

pub merged_behind-requires-clause-front : goal.merged_behind-requires-clause-front
merged_behind-requires-clause-front g c = subst (λ (h : HomeAt). IsFront c.args.shapes.now h c.args.front.now) (sym c.home_of-home.ensures) c.requires.front

pub returns-in_err-tree-clause-front : goal.returns-in_err-tree-clause-front
returns-in_err-tree-clause-front g c = subst (λ (h : HomeAt). IsFront c.args.shapes.now h c.merged_behind.new.front) c.home_of-home.ensures c.merged_behind.ensures.front

pub returns-in-Tree-clause-front : goal.returns-in-Tree-clause-front
returns-in-Tree-clause-front g c = subst (λ (h : HomeAt). IsFront c.args.shapes.now h c.merged_behind.new.front) c.home_of-home.ensures c.merged_behind.ensures.front

pub returns-in-Broken-clause-front : goal.returns-in-Broken-clause-front
returns-in-Broken-clause-front g c = subst (λ (h : HomeAt). IsFront c.args.shapes.now h c.merged_behind.new.front) c.home_of-home.ensures c.merged_behind.ensures.front

pub returns-in-Tree-clause-outcome : goal.returns-in-Tree-clause-outcome
returns-in-Tree-clause-outcome g c =
    IfOk-weaker c.tree_done.result _ _
    (λ done is.
    perm_tree c.args.files.now (home_view c.home_of-home.result) c.args.perm.now c.home_of-home.ensures c.args.shapes.now c.requires.known c.as_slice-sources.result.now c.as_slice-sources.ensures
    c.in_ok-tree.field-0 c.in_ok-tree.ensures.merged c.args.cfg.now c.in-Tree.tree c.in-Tree.is (outcome_of done.shared) is)
    c.tree_done.ensures.outcome

pub returns-in-Tree-clause-work : goal.returns-in-Tree-clause-work
returns-in-Tree-clause-work g c = λ kept under other.
    let files = c.args.files.now in
    let p = plan_perm_view c.args.perm.now in
    if_both c.tree_done.result c.tree_done.ensures.outcome c.tree_done.ensures.count
    (λ done is count.
    let comes =
    perm_tree files (home_view c.home_of-home.result) c.args.perm.now c.home_of-home.ensures c.args.shapes.now c.requires.known c.as_slice-sources.result.now c.as_slice-sources.ensures
    c.in_ok-tree.field-0 c.in_ok-tree.ensures.merged c.args.cfg.now c.in-Tree.tree c.in-Tree.is (outcome_of done.shared) is in
    subst (WorkBeside kept c.args.cfg.now files p) (work_same refl (sym count.merged) refl)
    (anew_work c.args.cfg.now files p kept (option_map (λ t. t.now.tokens) c.args.old) under other count.made done.evaluated
    (subst (IsMerge files p) count.is (outcome_merge c.args.cfg.now files p (outcome_of done.shared) comes)) count.evals))

pub returns-in-Tree-clause-counted : goal.returns-in-Tree-clause-counted
returns-in-Tree-clause-counted g c =
    if_both c.tree_done.result c.tree_done.ensures.count c.tree_done.ensures.steps
    (λ done count step. work_same (omega arith) (omega (arith, count.merged, c.tree_done.ensures.merge)) step)

pub returns-in-Tree-clause-at_most : goal.returns-in-Tree-clause-at_most
returns-in-Tree-clause-at_most g c = λ kept under other.
    let files = c.args.files.now in
    let home = home_view c.home_of-home.result in
    let is = subst (λ (h : HomeAt). IsMergedOf files h (plan_sources_view c.args.perm.now.sources) (Tree c.in-Tree.tree)) c.home_of-home.ensures
    (merged files home c.args.perm.now c.home_of-home.ensures c.args.shapes.now c.requires.known c.as_slice-sources.result.now c.as_slice-sources.ensures c.in_ok-tree.field-0 c.in_ok-tree.ensures.merged
    (Tree c.in-Tree.tree) c.in-Tree.is) in
    within_tree c.args.cfg.now files (plan_perm_view c.args.perm.now) kept (option_map (λ t. t.now.tokens) c.args.old) under other c.in-Tree.tree is c.laws_below.ensures.one.found
    c.args.merges.now c.tree_done.new.merges c.args.evals.now c.tree_done.new.evals (omega (arith, c.tree_done.ensures.merge)) c.tree_done.ensures.at_most

pub returns-in-Broken-clause-outcome : goal.returns-in-Broken-clause-outcome
returns-in-Broken-clause-outcome g c =
    IfOk-weaker c.broken_done.result _ _
    (λ done is.
    subst (IsOutcome c.args.cfg.now c.args.files.now (plan_perm_view c.args.perm.now)) (sym is)
    (perm_break c.args.files.now (home_view c.home_of-home.result) c.args.perm.now c.home_of-home.ensures c.args.shapes.now c.requires.known c.as_slice-sources.result.now c.as_slice-sources.ensures
    c.in_ok-tree.field-0 c.in_ok-tree.ensures.merged c.in-Broken.found c.in-Broken.is))
    c.broken_done.ensures.outcome

pub returns-in-Broken-clause-work : goal.returns-in-Broken-clause-work
returns-in-Broken-clause-work g c = λ kept under other.
    let p = plan_perm_view c.args.perm.now in
    IfOk-weaker c.broken_done.result _ _
    (λ done none.
    subst (WorkBeside kept c.args.cfg.now c.args.files.now p) (sym none)
    (broken_work c.args.cfg.now c.args.files.now p kept (option_map (λ t. t.now.tokens) c.args.old) under other
    (outcome_merge c.args.cfg.now c.args.files.now p (SourceBreak c.in-Broken.found)
    (perm_break c.args.files.now (home_view c.home_of-home.result) c.args.perm.now c.home_of-home.ensures c.args.shapes.now c.requires.known c.as_slice-sources.result.now c.as_slice-sources.ensures
    c.in_ok-tree.field-0 c.in_ok-tree.ensures.merged c.in-Broken.found c.in-Broken.is))))
    c.broken_done.ensures.nothing

pub returns-in-Broken-clause-counted : goal.returns-in-Broken-clause-counted
returns-in-Broken-clause-counted g c =
    let now = work 0 c.args.merges.now c.args.evals.now in
    IfOk-weaker c.broken_done.result _ _ (λ done none. added_none now ∙ ap (added now) (sym none)) c.broken_done.ensures.nothing

pub returns-in-Broken-clause-at_most : goal.returns-in-Broken-clause-at_most
returns-in-Broken-clause-at_most g c = λ kept under other.
    no_rise (WorkBeside kept c.args.cfg.now c.args.files.now (plan_perm_view c.args.perm.now)) (work 0 c.args.merges.now c.args.evals.now)

pub returns-in_err-tree-clause-at_most : goal.returns-in_err-tree-clause-at_most
returns-in_err-tree-clause-at_most g c = λ kept under other.
    no_rise (WorkBeside kept c.args.cfg.now c.args.files.now (plan_perm_view c.args.perm.now)) (work 0 c.args.merges.now c.args.evals.now)
