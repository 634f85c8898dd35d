use Rattle.std.proofs.Common.{refl, sym, ap, ◌∙◌, arith}
use Rattle.std.proofs.lemmas.List.{take_all}
use Rattle.file_plan.specs.View.{plan_sources_view}
use Rattle.source_trees.proofs.Fronts.{same_tree}
use Rattle.source_trees.proofs.laying.begin.Goals as goal

pub returns-clause-front : goal.returns-clause-front
returns-clause-front c shapes home is =
    let n = c.alike-count.result in
    same_tree shapes home (plan_sources_view c.args.front.now.sources.now) _ c.args.front.now.tree c.args.front.now.tree refl
    (ap plan_sources_view (sym (take_all n c.args.front.now.sources.now (omega (arith, c.if-count-front.false)))) ∙ c.alike-count.ensures.same) is
