use Rattle.std.proofs.Common.{ap, refl, ◌∙◌}
use Rattle.std.proofs.lemmas.Result.{IfOk-weaker}
use Rattle.std.specs.FinMap as finite
use Rattle.token_tree.specs.View.{group_view}
use Rattle.source_trees.specs.inner.Laying.{LaysBy}
use Rattle.source_trees.specs.View.{home_view}
use Rattle.file_plan.specs.View.{plan_source_view}
use Rattle.source_trees.specs.declared.source.SourceFault.TheVariants.{Missing}
use Rattle.source_trees.proofs.Laid.{lay_none, lay_inline}
use Rattle.source_trees.proofs.laying.lay.Goals as goal

pub returns-in-None : goal.returns-in-None
returns-in-None c = λ files k.
    lay_none files (home_view c.args.home) c.args.shapes.now c.args.source.now c.in-File.name c.in-File.start c.in-File.end (group_view c.args.before.now)
    (record { fault = Missing; file = c.args.home.file; start = c.in-File.start; end = c.in-File.end }) c.in-File.is
    (c.in-None.ensures ∙ ap (finite.get c.args.shapes.now) c.as_str.ensures) refl k

pub returns-in_ok-shape-in-Inline : goal.returns-in_ok-shape-in-Inline
returns-in_ok-shape-in-Inline c =
    IfOk-weaker c.lay_shape-in-Inline.result _
    (LaysBy c.args.shapes.now (home_view c.args.home) (plan_source_view c.args.source.now) (group_view c.args.before.now))
    (λ m f files k. lay_inline files (home_view c.args.home) c.args.source.now c.in-Inline.node (group_view c.args.before.now) m c.in-Inline.is (f _ _ c.in_ok-shape-in-Inline.ensures))
    c.lay_shape-in-Inline.ensures
