use Rattle.std.proofs.Common.{[], ◌∷◌, map, refl, subst}
use Rattle.std.proofs.lemmas.Result.{IfOk-weaker}
use Rattle.json_span.specs.Answer.{shows}
use Rattle.json_span.specs.Parts.{itself}
use Rattle.json_span.specs.View.{node_view}
use Rattle.token_tree.specs.Shape.{shape_breaks, shape_of}
use Rattle.source_trees.specs.Sources.{shape_break}
use Rattle.file_plan.specs.Trees.{IsTreeOf}
use Rattle.source_trees.specs.Trees.{IsShapeFor}
use Rattle.source_trees.proofs.shape.shape_of.Goals as goal

pub shape_at-requires : goal.shape_at-requires
shape_at-requires c =
    let answer = subst (IsTreeOf c.args.text.now) c.in-Read.is c.requires in
    record { root = node_view c.in-Read.root; shown = answer.0; flawless = answer.1; part = itself }

pub returns-in-Read : goal.returns-in-Read
returns-in-Read c =
    let file = c.args.file.now in
    let n = node_view c.in-Read.root in
    let answer = subst (IsTreeOf c.args.text.now) c.in-Read.is c.requires in
    IfOk-weaker c.shape_at.result _ (IsShapeFor file c.args.text.now)
    (λ s is. (map (shape_break file) (shape_breaks n), shape_of file c.args.text.now n ∷ [], (shows n, answer, refl, refl), is)) c.shape_at.ensures

pub returns-in-Flawed : goal.returns-in-Flawed
returns-in-Flawed c =
    IfOk-weaker c.flaw_shape.result _ (IsShapeFor c.args.file.now c.args.text.now)
    (λ s f. f c.args.text.now (subst (IsTreeOf c.args.text.now) c.in-Flawed.is c.requires)) c.flaw_shape.ensures
