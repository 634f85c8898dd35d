use Rattle.std.proofs.Common.{◌≡◌, ℕ, subst, take, arith}
use Rattle.file_plan.specs.View.{plan_sources_view}
use Rattle.source_trees.specs.Merging.{IsMergedBy}
use Rattle.source_trees.specs.declared.laying.Merged.TheVariants.{Tree}
use Rattle.source_trees.specs.View.{home_view}
use Rattle.source_trees.proofs.Fronts.{broken_one, laid_one, stands_at}
use Rattle.source_trees.proofs.Laid.{none_case, some_case}
use Rattle.source_trees.proofs.laying.lay_from.Goals as goal

pub lay_over-requires : goal.lay_over-requires
lay_over-requires c =
    stands_at c.args.home.text.now c.args.sources.now c.loop-i.i c.index-sources-i.result (omega (arith, c.loop-i-test.true, c.requires.within.1)) c.index-sources-i.is c.requires.stand

pub returns-in-Some-clause-broken : goal.returns-in-Some-clause-broken
returns-in-Some-clause-broken c =
    broken_one c.args.shapes.now (home_view c.args.home) c.args.sources.now c.loop-i.i c.index-sources-i.result c.loop-i.tree
    (omega (arith, c.loop-i-test.true, c.requires.within.1)) c.index-sources-i.is c.loop-i.invariant c.in-Some.found
    (some_case c.in_ok-found.field-0 c.in-Some.found _ c.in-Some.is c.in_ok-found.ensures.broken)

pub loop-i-preserved : goal.loop-i-preserved
loop-i-preserved c =
    laid_one c.args.shapes.now (home_view c.args.home) c.args.sources.now c.loop-i.i c.index-sources-i.result c.loop-i.tree
    (omega (arith, c.loop-i-test.true, c.requires.within.1)) c.index-sources-i.is c.loop-i.invariant c.lay_over.new.tree
    (none_case c.in_ok-found.field-0 _ c.in_default.is c.in_ok-found.ensures.laid)

pub returns-clause-laid : goal.returns-clause-laid
returns-clause-laid c =
    let all : c.loop-i.i ≡ c.args.to = omega (arith, c.loop-i-test.false, c.loop-i.auto.i-end c.requires.within.0) in
    subst (λ (n : ℕ). IsMergedBy c.args.shapes.now (home_view c.args.home) (plan_sources_view (take n c.args.sources.now)) (Tree c.loop-i.tree)) all c.loop-i.invariant
