use Rattle.std.proofs.Common.{[], ◌∷◌, sym, ap, ◌∙◌, option_map}
use Rattle.std.proofs.lemmas.Result.{IfOk-weaker}
use Rattle.source_trees.proofs.NamedTrees.{at_most, front_none, front_same, on_err, adds_absent, counts_absent, adds_read, counts_read}
use Rattle.source_trees.proofs.reading.read_new.Goals as goal

pub returns-in_err-tree-in-Some-clause-at_most : goal.returns-in_err-tree-in-Some-clause-at_most
returns-in_err-tree-in-Some-clause-at_most g c =
    at_most c.args.files.now (c.args.name.now ∷ []) c.args.trees.now c.args.parses.now c.read_tree.new.parses
    (counts_read c.args.files.now c.args.trees.now c.args.name.now c.in-Some.text.now c.args.parses.now c.read_tree.new.parses
    (sym c.get.ensures ∙ ap (option_map (λ t. t.now)) c.in-Some.is) c.requires c.in_err-tree-in-Some.ensures.step)

pub returns-in_ok-tree-in-Some-clause-trees : goal.returns-in_ok-tree-in-Some-clause-trees
returns-in_ok-tree-in-Some-clause-trees g c =
    IfOk-weaker c.put.result _ _
    (λ u puts. adds_read c.args.files.now c.args.trees.now c.put.new.self c.args.name.now c.in-Some.text.now c.in_ok-tree-in-Some.tree
    (sym c.get.ensures ∙ ap (option_map (λ t. t.now)) c.in-Some.is) c.in_ok-tree-in-Some.ensures.ok puts) c.put.ensures.at

pub returns-in_ok-tree-in-Some-clause-steps : goal.returns-in_ok-tree-in-Some-clause-steps
returns-in_ok-tree-in-Some-clause-steps g c =
    IfOk-weaker c.put.result _ _
    (λ u puts. counts_read c.args.files.now c.args.trees.now c.args.name.now c.in-Some.text.now c.args.parses.now c.read_tree.new.parses
    (sym c.get.ensures ∙ ap (option_map (λ t. t.now)) c.in-Some.is) c.requires c.in_ok-tree-in-Some.ensures.step) c.put.ensures.at

pub returns-in_ok-tree-in-Some-clause-at_most : goal.returns-in_ok-tree-in-Some-clause-at_most
returns-in_ok-tree-in-Some-clause-at_most g c =
    at_most c.args.files.now (c.args.name.now ∷ []) c.args.trees.now c.args.parses.now c.read_tree.new.parses
    (counts_read c.args.files.now c.args.trees.now c.args.name.now c.in-Some.text.now c.args.parses.now c.read_tree.new.parses
    (sym c.get.ensures ∙ ap (option_map (λ t. t.now)) c.in-Some.is) c.requires c.in_ok-tree-in-Some.ensures.step)

pub returns-in-None-clause-trees : goal.returns-in-None-clause-trees
returns-in-None-clause-trees g c = adds_absent c.args.files.now c.args.trees.now c.args.name.now (sym c.get.ensures ∙ ap (option_map (λ t. t.now)) c.in-None.is)

pub returns-in-None-clause-steps : goal.returns-in-None-clause-steps
returns-in-None-clause-steps g c = counts_absent c.args.files.now c.args.trees.now c.args.name.now c.args.parses.now (sym c.get.ensures ∙ ap (option_map (λ t. t.now)) c.in-None.is)

pub returns-in-None-clause-at_most : goal.returns-in-None-clause-at_most
returns-in-None-clause-at_most g c =
    at_most c.args.files.now (c.args.name.now ∷ []) c.args.trees.now c.args.parses.now c.args.parses.now
    (counts_absent c.args.files.now c.args.trees.now c.args.name.now c.args.parses.now (sym c.get.ensures ∙ ap (option_map (λ t. t.now)) c.in-None.is))

pub returns-in_err-tree-in-Some-clause-err : goal.returns-in_err-tree-in-Some-clause-err
returns-in_err-tree-in-Some-clause-err g c = on_err c.from_residual.result (front_none c.args.files.now (c.args.name.now ∷ []) c.args.trees.now)

pub returns-in_ok-tree-in-Some-clause-err : goal.returns-in_ok-tree-in-Some-clause-err
returns-in_ok-tree-in-Some-clause-err g c = front_same c.args.files.now c.put.result (c.args.name.now ∷ []) c.args.trees.now c.put.new.self c.put.ensures.err
