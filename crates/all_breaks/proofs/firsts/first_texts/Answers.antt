use Rattle.std.proofs.Common.{◌+◌, drop, refl, subst}
use Rattle.source_trees.specs.Merging.{AllInlineStand, AreKnown}
use Rattle.file_plan.specs.View.{plan_source_view, plan_sources_view}
use Rattle.all_breaks.proofs.FirstBreaks.{ahead_start, ahead_next, ahead_end, next_sources, no_sources}
use Rattle.all_breaks.proofs.firsts.first_texts.Goals as goal

pub loop-source-init : goal.loop-source-init
loop-source-init c = record {
  stand = c.requires.stand;
  known = c.requires.known;
  ahead = ahead_start c.args.files.now (plan_sources_view c.args.sources.now) c.new-texts.result c.new-texts.ensures;
}

pub add_first-requires : goal.add_first-requires
add_first-requires c =
    let next = next_sources c.args.sources.now c.loop-source.source-index c.source-item.result c.loop-source-test.true c.source-item.is in
    record {
      home = c.requires.home;
      stand = (subst (AllInlineStand c.args.home.text.now) next c.loop-source.invariant.stand).0;
      known = (subst (AreKnown c.args.files.now c.args.shapes.now) next c.loop-source.invariant.known).0;
    }

pub loop-source-preserved : goal.loop-source-preserved
loop-source-preserved c =
    let files = c.args.files.now in
    let sources = c.args.sources.now in
    let i = c.loop-source.source-index in
    let next = next_sources sources i c.source-item.result c.loop-source-test.true c.source-item.is in
    let (b, t, found, told) = c.in_ok-add_first.ensures in
    record {
      stand = (subst (AllInlineStand c.args.home.text.now) next c.loop-source.invariant.stand).1;
      known = (subst (AreKnown files c.args.shapes.now) next c.loop-source.invariant.known).1;
      ahead = ahead_next files (plan_sources_view sources) (plan_source_view c.source-item.result) (plan_sources_view (drop (i + 1) sources)) (plan_sources_view (drop i sources))
          c.loop-source.texts c.add_first.new.texts next b t found told c.loop-source.invariant.ahead;
    }

pub returns : goal.returns
returns c =
    let sources = c.args.sources.now in
    let i = c.loop-source.source-index in
    ahead_end c.args.files.now (plan_sources_view sources) (plan_sources_view (drop i sources)) c.loop-source.texts (no_sources sources i c.loop-source-test.false) c.loop-source.invariant.ahead
