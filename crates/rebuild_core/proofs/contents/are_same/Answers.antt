use Rattle.std.proofs.Common.{◌<◌, length, refl, sym, ap, ◌∙◌, arith}
use Rattle.file_plan.specs.View.{plan_source_view}
use Rattle.file_plan.specs.declared.source.PlanSource.{PlanSource}
use Rattle.source_trees.specs.Contents.{source_content}
use Rattle.source_trees.specs.View.{home_view}
use Rattle.rebuild_core.proofs.SameContents.{map_twice, same_next, same_end, other_at}
use Rattle.rebuild_core.proofs.contents.are_same.Goals as goal

pub loop-i-init : goal.loop-i-init
loop-i-init c = refl

pub loop-i-preserved : goal.loop-i-preserved
loop-i-preserved c =
    let f = λ (s : PlanSource). source_content c.args.files.now (home_view c.args.home) (plan_source_view s) in
    let g = λ (s : PlanSource). source_content c.args.others.now (home_view c.args.origin) (plan_source_view s) in
    let i = c.loop-i.i in
    let x = c.index-sources-i.result in
    let y = c.index-more-i.result in
    let within_too : i < length c.args.more.now = omega (arith, c.loop-i-test.true, c.if-sources-more.false) in
    same_next f g c.args.sources.now c.args.more.now i x y c.loop-i-test.true within_too c.loop-i.invariant
    (ap f (sym c.index-sources-i.is) ∙ (sym c.content_of-content.ensures ∙ (c.is_same.ensures.same c.if-not-is_same.false ∙ (c.content_of-other.ensures ∙ ap g c.index-more-i.is))))

pub returns-then-not-is_same-clause-other : goal.returns-then-not-is_same-clause-other
returns-then-not-is_same-clause-other c = λ no e.
    let f = λ (s : PlanSource). source_content c.args.files.now (home_view c.args.home) (plan_source_view s) in
    let g = λ (s : PlanSource). source_content c.args.others.now (home_view c.args.origin) (plan_source_view s) in
    let i = c.loop-i.i in
    let x = c.index-sources-i.result in
    let y = c.index-more-i.result in
    let within_too : i < length c.args.more.now = omega (arith, c.loop-i-test.true, c.if-sources-more.false) in
    other_at f g c.args.sources.now c.args.more.now i x y c.loop-i-test.true within_too
    (λ h. c.is_same.ensures.other c.if-not-is_same.true
    (c.content_of-content.ensures ∙ (ap f c.index-sources-i.is ∙ (h ∙ (ap g (sym c.index-more-i.is) ∙ sym c.content_of-other.ensures)))))
    (sym (map_twice (source_content c.args.files.now (home_view c.args.home)) plan_source_view c.args.sources.now)
    ∙ (e ∙ map_twice (source_content c.args.others.now (home_view c.args.origin)) plan_source_view c.args.more.now))

pub returns-clause-same : goal.returns-clause-same
returns-clause-same c = λ yes.
    let f = λ (s : PlanSource). source_content c.args.files.now (home_view c.args.home) (plan_source_view s) in
    let g = λ (s : PlanSource). source_content c.args.others.now (home_view c.args.origin) (plan_source_view s) in
    map_twice (source_content c.args.files.now (home_view c.args.home)) plan_source_view c.args.sources.now
    ∙ (same_end f g c.args.sources.now c.args.more.now c.loop-i.i c.loop-i-test.false (omega (arith, c.loop-i-test.false, c.if-sources-more.false)) c.loop-i.invariant
    ∙ sym (map_twice (source_content c.args.others.now (home_view c.args.origin)) plan_source_view c.args.more.now))
