use Rattle.std.proofs.Common.{List, ℕ, Option, sym, ap, ◌∙◌, subst, option_map, refl}
use Rattle.std.proofs.lemmas.Result.{IfOk-weaker}
use Rattle.std.specs.FinMap as finite
use Rattle.source_trees.specs.inner.Shapes.{AddsShape, AddsShapeOf}
use Rattle.source_trees.proofs.ShapesAdded.{entry_is, no_entry}
use Rattle.source_trees.proofs.shapes.add_shape.Goals as goal

pub shape_since-requires-clause-tree : goal.shape_since-requires-clause-tree
shape_since-requires-clause-tree c =
    let there = entry_is (finite.get c.args.files.now c.args.path.now) c.args.path.now c.in-Some.kept.now c.in-Some.text.now
    (ap (option_map {U = List ℕ × List ℕ} (λ e. (e.0.now, e.1.now))) (sym c.in-Some.is) ∙ c.entry.ensures) in
    c.requires.tree c.in-Some.text.now there.0

pub returns-in_ok-shape-in-Some : goal.returns-in_ok-shape-in-Some
returns-in_ok-shape-in-Some c =
    let path = c.args.path.now in
    let text = c.in-Some.text.now in
    let old = c.args.shapes.now in
    let new = c.put.new.self in
    let there = entry_is (finite.get c.args.files.now path) path c.in-Some.kept.now text
    (ap (option_map {U = List ℕ × List ℕ} (λ e. (e.0.now, e.1.now))) (sym c.in-Some.is) ∙ c.entry.ensures) in
    IfOk-weaker c.put.result _ _
    (λ u puts. subst (λ (o : Option (List ℕ)). AddsShapeOf path o old new) (sym there.0)
    (subst (λ (k : List ℕ). AddsShape k text old new) there.1
    (record { shape = c.in_ok-shape-in-Some.shape; is = c.in_ok-shape-in-Some.ensures; at = puts }))) c.put.ensures.at

pub returns-in-None : goal.returns-in-None
returns-in-None c =
    subst (λ (o : Option (List ℕ)). AddsShapeOf c.args.path.now o c.args.shapes.now c.args.shapes.now)
    (sym (no_entry (finite.get c.args.files.now c.args.path.now) c.args.path.now (ap (option_map {U = List ℕ × List ℕ} (λ e. (e.0.now, e.1.now))) (sym c.in-None.is) ∙ c.entry.ensures))) refl
