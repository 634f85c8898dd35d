use Rattle.std.proofs.Common.{List, sym, subst}
use Rattle.std.proofs.lemmas.Result.{IfOk-weaker}
use Rattle.file_plan.specs.View.{plan_perm_view, plan_sources_view}
use Rattle.file_plan.specs.declared.source.PlanSource.{PlanSource}
use Rattle.source_trees.specs.Merging.{AllInlineStand}
use Rattle.source_trees.specs.Sources.{HomeAt}
use Rattle.source_trees.specs.View.{home_view}
use Rattle.source_trees.specs.declared.laying.Merged.TheVariants.{Tree, Broken}
use Rattle.build_plain.specs.Breaks.{home_of}
use Rattle.build_plain.specs.OneTree.{HasTree}
use Rattle.build_plain.proofs.NamedTree.{no_source_of, no_tree_of, tree_of}
use Rattle.build_plain.proofs.Perm.{at_home}
use Rattle.build_plain.proofs.one_tree.flat_of_perm.Goals as goal

pub merged_sources-requires : goal.merged_sources-requires
merged_sources-requires g c =
    subst (λ (h : HomeAt). AllInlineStand h.text (plan_sources_view c.as_slice-sources.result.now)) (sym c.home_of-home.ensures)
    (subst (λ (s : List PlanSource). AllInlineStand (home_of c.args.files.now).text (plan_sources_view s)) (sym c.as_slice-sources.ensures) c.requires.stand)

pub returns-in-Tree-clause-ok : goal.returns-in-Tree-clause-ok
returns-in-Tree-clause-ok g c =
    let p = c.args.perm.now in
    let merged = at_home c.args.files.now (home_view c.home_of-home.result) p c.home_of-home.ensures c.args.shapes.now c.requires.known c.as_slice-sources.result.now c.as_slice-sources.ensures
    c.in_ok-tree.field-0 c.in_ok-tree.ensures (Tree c.in-Tree.tree) c.in-Tree.is in
    IfOk-weaker c.flat_of_tree.result _ (HasTree c.args.files.now (plan_perm_view p))
    (λ flat is. tree_of c.args.files.now (plan_perm_view p) c.in-Tree.tree merged c.requires.stand flat is) c.flat_of_tree.ensures.ok

pub returns-in-Tree-clause-broken : goal.returns-in-Tree-clause-broken
returns-in-Tree-clause-broken g c e =
    let p = c.args.perm.now in
    let merged = at_home c.args.files.now (home_view c.home_of-home.result) p c.home_of-home.ensures c.args.shapes.now c.requires.known c.as_slice-sources.result.now c.as_slice-sources.ensures
    c.in_ok-tree.field-0 c.in_ok-tree.ensures (Tree c.in-Tree.tree) c.in-Tree.is in
    let (broken, is) = c.flat_of_tree.ensures.broken e in
    no_tree_of c.args.files.now (plan_perm_view p) c.in-Tree.tree merged broken is

pub returns-in-Broken-clause-broken : goal.returns-in-Broken-clause-broken
returns-in-Broken-clause-broken g c e =
    let p = c.args.perm.now in
    no_source_of c.args.files.now (plan_perm_view p) c.in-Broken.field-0
    (at_home c.args.files.now (home_view c.home_of-home.result) p c.home_of-home.ensures c.args.shapes.now c.requires.known c.as_slice-sources.result.now c.as_slice-sources.ensures
    c.in_ok-tree.field-0 c.in_ok-tree.ensures (Broken c.in-Broken.field-0) c.in-Broken.is)
