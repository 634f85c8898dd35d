use Rattle.std.proofs.Common.{sym, ap, ◌∙◌, subst}
use Rattle.std.proofs.lemmas.List.{take_all}
use Rattle.std.specs.String.{string_bytes}
use Rattle.tk_io.specs.View.{entries_view}
use Rattle.file_plan.specs.Trees.{IsTreeOf}
use Rattle.source_trees.specs.inner.Shapes.{AreShapesOf}
use Rattle.source_trees.proofs.ShapesAdded.{shapes_none, tree_of_entry, next_shape, shapes_all}
use Rattle.source_trees.proofs.shapes.shapes_since.Goals as goal

pub loop-path-init : goal.loop-path-init
loop-path-init c = shapes_none c.args.files.now c.new-shapes.result c.new-shapes.ensures

pub add_shape-requires : goal.add_shape-requires
add_shape-requires c = record {
  past = c.requires.past;
  tree = λ text there.
      subst (λ e. IsTreeOf text e.1) (sym c.loop-path-item.is)
      (tree_of_entry string_bytes c.args.files.now c.args.trees.now c.requires.trees c.entries-path-items.result.now c.entries-path-items.ensures
      c.loop-path.path-index c.loop-path-item.result c.loop-path-test.true c.as_str.result.now
      (c.as_str.ensures.value ∙ ap (λ e. string_bytes e.0) c.loop-path-item.is) text there);
}

pub loop-path-preserved : goal.loop-path-preserved
loop-path-preserved c =
    next_shape string_bytes c.args.files.now c.entries-path-items.result.now c.loop-path.path-index c.loop-path-item.result c.loop-path-test.true c.as_str.result.now
    (c.as_str.ensures.value ∙ ap (λ e. string_bytes e.0) c.loop-path-item.is)
    c.loop-path.shapes c.add_shape.new.shapes c.loop-path.invariant c.in_ok-add_shape.ensures

pub returns : goal.returns
returns c =
    shapes_all c.args.files.now c.args.trees.now c.loop-path.shapes
    (subst (λ l. AreShapesOf c.args.files.now l c.loop-path.shapes)
    (ap (entries_view string_bytes (λ v. v)) (take_all c.loop-path.path-index c.entries-path-items.result.now c.loop-path-test.false) ∙ c.entries-path-items.ensures)
    c.loop-path.invariant)
