-- What is printed of the sources so far, beside what is printed of the rest.
use Rattle.std.proofs.Common.{drop}
use Rattle.file_plan.specs.View.{plan_sources_view}
use Rattle.source_trees.specs.Merging.{AllInlineStand, AreKnown}
use Rattle.all_breaks.proofs.FirstBreaks.{Ahead}
use Rattle.all_breaks.proofs.firsts.first_texts.Given as goal

abbrev pub invariant-loop-source : goal.invariant-loop-source
invariant-loop-source l = record {
  stand : AllInlineStand l.home.text.now (plan_sources_view (drop l.source-index l.sources));
  known : AreKnown l.files l.shapes (plan_sources_view (drop l.source-index l.sources));
  ahead : Ahead l.files (plan_sources_view l.sources) (plan_sources_view (drop l.source-index l.sources)) l.texts;
}
