use Rattle.std.proofs.Common.{ap, sym, option_map, ◌∙◌}
use Rattle.std.specs.FinMap as map
use Rattle.file_plan.specs.InUse.{resolver_path}
use Rattle.build_plain.proofs.Trees.{none_there, one_there, counted_some, counted_none, at_most_some, at_most_none}
use Rattle.build_plain.proofs.making.read_resolver.Goals as goal

pub returns-in_ok-put-in-Some-clause-trees : goal.returns-in_ok-put-in-Some-clause-trees
returns-in_ok-put-in-Some-clause-trees g c =
    one_there c.args.files.now c.in-Some.text.now c.in_ok-tree-in-Some.tree c.new-trees.result c.put.new.self
    (ap (option_map (λ t. t.now)) (sym c.in-Some.is) ∙ c.get.ensures) c.in_ok-tree-in-Some.ensures.ok c.new-trees.ensures c.in_ok-put-in-Some.ensures.at

pub returns-in_ok-put-in-Some-clause-steps : goal.returns-in_ok-put-in-Some-clause-steps
returns-in_ok-put-in-Some-clause-steps g c =
    counted_some (map.get c.args.files.now resolver_path) c.in-Some.text.now c.args.parses.now c.read_tree.new.parses
    (ap (option_map (λ t. t.now)) (sym c.in-Some.is) ∙ c.get.ensures) c.read_tree.ensures.step

pub returns-in_ok-put-in-Some-clause-at_most : goal.returns-in_ok-put-in-Some-clause-at_most
returns-in_ok-put-in-Some-clause-at_most g c =
    at_most_some (map.get c.args.files.now resolver_path) c.in-Some.text.now c.args.parses.now c.read_tree.new.parses
    (ap (option_map (λ t. t.now)) (sym c.in-Some.is) ∙ c.get.ensures) c.read_tree.ensures.step

pub returns-in_err-put-in-Some-clause-at_most : goal.returns-in_err-put-in-Some-clause-at_most
returns-in_err-put-in-Some-clause-at_most g c =
    at_most_some (map.get c.args.files.now resolver_path) c.in-Some.text.now c.args.parses.now c.read_tree.new.parses
    (ap (option_map (λ t. t.now)) (sym c.in-Some.is) ∙ c.get.ensures) c.read_tree.ensures.step

pub returns-in_err-tree-in-Some-clause-at_most : goal.returns-in_err-tree-in-Some-clause-at_most
returns-in_err-tree-in-Some-clause-at_most g c =
    at_most_some (map.get c.args.files.now resolver_path) c.in-Some.text.now c.args.parses.now c.read_tree.new.parses
    (ap (option_map (λ t. t.now)) (sym c.in-Some.is) ∙ c.get.ensures) c.read_tree.ensures.step

pub returns-in-None-clause-trees : goal.returns-in-None-clause-trees
returns-in-None-clause-trees g c =
    none_there c.args.files.now c.new-trees.result (ap (option_map (λ t. t.now)) (sym c.in-None.is) ∙ c.get.ensures) c.new-trees.ensures

pub returns-in-None-clause-steps : goal.returns-in-None-clause-steps
returns-in-None-clause-steps g c =
    counted_none (map.get c.args.files.now resolver_path) c.args.parses.now (ap (option_map (λ t. t.now)) (sym c.in-None.is) ∙ c.get.ensures)

pub returns-in-None-clause-at_most : goal.returns-in-None-clause-at_most
returns-in-None-clause-at_most g c = at_most_none (map.get c.args.files.now resolver_path) c.args.parses.now
