use Rattle.std.proofs.Common.{◌+◌, drop, refl, sym, ap, ◌∙◌}
use Rattle.tk_io.specs.FilesData.{FilesData}
use Rattle.file_plan.specs.InUse.{in_use_by, names_in, source_names}
use Rattle.file_plan.specs.View.{plan_source_view, plan_sources_view}
use Rattle.file_plan.proofs.FilesInUse.{in_use_append}
use Rattle.rebuild_core.proofs.NamedPlaces.{next_sources, no_sources}
use Rattle.rebuild_core.proofs.used.use_sources.Goals as goal

pub loop-source-init : goal.loop-source-init
loop-source-init c = refl

pub loop-source-preserved : goal.loop-source-preserved
loop-source-preserved c =
    let files = c.args.files.now in
    let sources = c.args.sources.now in
    let i = c.loop-source.source-index in
    let x = source_names (plan_source_view c.source-item.result) in
    let xs = names_in (plan_sources_view (drop (i + 1) sources)) in
    let next = ap names_in (next_sources sources i c.source-item.result c.loop-source-test.true c.source-item.is) in
    ap (λ (u : FilesData). in_use_by files u xs) c.in_ok-use_source.ensures
    ∙ (sym (in_use_append files x xs c.loop-source.used) ∙ (ap (in_use_by files c.loop-source.used) (sym next) ∙ c.loop-source.invariant))

pub returns : goal.returns
returns c =
    let none = ap names_in (no_sources c.args.sources.now c.loop-source.source-index c.loop-source-test.false) in
    ap (in_use_by c.args.files.now c.loop-source.used) (sym none) ∙ c.loop-source.invariant
