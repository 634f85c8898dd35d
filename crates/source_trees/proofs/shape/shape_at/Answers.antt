use Rattle.std.proofs.Common.{sym, subst}
use Rattle.json_span.specs.View.{node_view}
use Rattle.token_tree.specs.Answer.{TellsFirst}
use Rattle.token_tree.specs.Shape.{shape_breaks}
use Rattle.source_trees.specs.inner.Laying.{IsShapeAt}
use Rattle.source_trees.proofs.Laid.{first_mapped}
use Rattle.source_trees.proofs.shape.shape_at.Goals as goal

pub returns-in-Err-Broken : goal.returns-in-Err-Broken
returns-in-Err-Broken c =
    let n = node_view c.args.root.now in
    let file = c.args.file.now in
    let broken = c.in-Err-Broken in
    subst (IsShapeAt file c.args.text.now n) (sym c.broken.ensures)
    (rw (broken.rule-is, broken.start-is, broken.end-is) (first_mapped file (shape_breaks n) (record { rule = broken.rule; start = broken.start; end = broken.end })
    (subst (TellsFirst (shape_breaks n)) broken.field-0-is broken.ensures.broken)))
