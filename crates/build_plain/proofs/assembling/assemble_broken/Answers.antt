use Rattle.std.proofs.lemmas.Result.{on_ok_weaker}
use Rattle.file_plan.specs.View.{plan_perm_view, plan_sources_view}
use Rattle.source_trees.specs.View.{home_view}
use Rattle.source_trees.specs.declared.laying.Merged.TheVariants.{Tree}
use Rattle.build_plain.proofs.Kept.{gives_source, no_tree}
use Rattle.build_plain.proofs.Perm.{merged, perm_break}
use Rattle.build_plain.proofs.assembling.assemble_broken.Goals as goal

pub unreachable-requires : goal.unreachable-requires
unreachable-requires c =
    no_tree c.one_merge.ensures.found c.args.files.now (home_view c.args.home) (plan_sources_view c.args.perm.now.sources) c.in-Tree.field-0 c.requires.home c.requires.broken
    (merged c.args.files.now (home_view c.args.home) c.args.perm.now c.requires.home c.args.shapes.now c.requires.known c.as_slice.result.now c.as_slice.ensures c.in_ok-merged_sources.field-0
    c.in_ok-merged_sources.ensures (Tree c.in-Tree.field-0) c.in-Tree.is)

pub returns : goal.returns
returns c = λ settings.
    on_ok_weaker c.put_source_break.result
    (gives_source c.args.files.now settings (plan_perm_view c.args.perm.now) c.args.outputs.now c.put_source_break.new.outputs c.as_str.result.now c.as_str.ensures c.in-Broken.found
    (perm_break c.args.files.now (home_view c.args.home) c.args.perm.now c.requires.home c.args.shapes.now c.requires.known c.as_slice.result.now c.as_slice.ensures c.in_ok-merged_sources.field-0
    c.in_ok-merged_sources.ensures c.in-Broken.found c.in-Broken.is)) c.put_source_break.ensures
