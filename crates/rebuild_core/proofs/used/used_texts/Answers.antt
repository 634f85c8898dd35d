use Rattle.std.proofs.Common.{◌+◌, drop, List, sym, ap, ◌∙◌}
use Rattle.tk_io.specs.FilesData.{FilesData}
use Rattle.file_plan.specs.InUse.{in_use_by, names_in, file_names, with_named, resolver_path}
use Rattle.file_plan.specs.View.{plan_sources_view, plan_view}
use Rattle.file_plan.specs.declared.source.PlanSource.{PlanSource}
use Rattle.file_plan.proofs.FilesInUse.{in_use_append}
use Rattle.source_trees.proofs.NamedTrees.{next_perms, no_perms}
use Rattle.rebuild_core.proofs.used.used_texts.Goals as goal

pub loop-perm-init : goal.loop-perm-init
loop-perm-init c =
    ap (λ (u : FilesData). in_use_by c.args.files.now u (file_names (plan_view c.args.plan.now)))
    (c.in_ok-use_named.ensures ∙ ap (λ (u : FilesData). with_named c.args.files.now u resolver_path) c.new-used.ensures)

pub loop-perm-preserved : goal.loop-perm-preserved
loop-perm-preserved c =
    let files = c.args.files.now in
    let plan = c.args.plan.now in
    let i = c.loop-perm.perm-index in
    let x = names_in (plan_sources_view c.perm-item.result.sources) in
    let xs = file_names (plan_view (drop (i + 1) plan)) in
    let next = ap file_names (next_perms plan i c.perm-item.result c.loop-perm-test.true c.perm-item.is) in
    ap (λ (u : FilesData). in_use_by files u xs)
    (c.in_ok-use_sources.ensures ∙ ap (λ (l : List PlanSource). in_use_by files c.loop-perm.used (names_in (plan_sources_view l))) c.as_slice.ensures)
    ∙ (sym (in_use_append files x xs c.loop-perm.used) ∙ (ap (in_use_by files c.loop-perm.used) (sym next) ∙ c.loop-perm.invariant))

pub returns : goal.returns
returns c =
    let none = ap file_names (no_perms c.args.plan.now c.loop-perm.perm-index c.loop-perm-test.false) in
    ap (in_use_by c.args.files.now c.loop-perm.used) (sym none) ∙ c.loop-perm.invariant
