use Rattle.std.proofs.Common.{[], refl, sym, subst}
use Rattle.json_span.specs.Answer.{stops, flawed}
use Rattle.json_span.specs.Flaw.{equal_names, too_deep}
use Rattle.source_trees.specs.Sources.{answer_breaks}
use Rattle.file_plan.specs.Trees.{IsTreeOf}
use Rattle.source_trees.specs.Trees.{IsShapeFor}
use Rattle.file_plan.specs.declared.tree.Tree.TheVariants.{Flawed}
use Rattle.source_trees.proofs.shape.flaw_shape.Goals as goal

pub returns-in-Syntax : goal.returns-in-Syntax
returns-in-Syntax c = λ text is.
    let file = c.args.file.now in
    let answer = stops c.in-Syntax.at in
    subst (IsShapeFor file text) (sym c.broken.ensures) (answer_breaks file answer, [], (answer, subst (λ f. IsTreeOf text (Flawed f)) c.in-Syntax.is is, refl, refl), ([], refl))

pub returns-in-Dup : goal.returns-in-Dup
returns-in-Dup c = λ text is.
    let file = c.args.file.now in
    let answer = flawed (equal_names c.in-Dup.start c.in-Dup.end) in
    subst (IsShapeFor file text) (sym c.broken-in-Dup.ensures) (answer_breaks file answer, [], (answer, subst (λ f. IsTreeOf text (Flawed f)) c.in-Dup.is is, refl, refl), ([], refl))

pub returns-in-Deep : goal.returns-in-Deep
returns-in-Deep c = λ text is.
    let file = c.args.file.now in
    let answer = flawed (too_deep c.in-Deep.start c.in-Deep.end) in
    subst (IsShapeFor file text) (sym c.broken-in-Deep.ensures) (answer_breaks file answer, [], (answer, subst (λ f. IsTreeOf text (Flawed f)) c.in-Deep.is is, refl, refl), ([], refl))
