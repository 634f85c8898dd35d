use Rattle.std.proofs.Common.{◌≡◌, List, ℕ, Option, Some, option_map, refl, sym, ap, subst, ◌∙◌}
use Rattle.std.specs.FinMap as finite
use Rattle.file_plan.specs.InUse.{resolver_path}
use Rattle.build_plain.proofs.Trees.{none_there, one_there}
use Rattle.rebuild_core.specs.inner.Reading.{ReadsFirst}
use Rattle.rebuild_core.proofs.reading.resolver_tree.Goals as goal

pub returns-in_ok-put-in-Some-clause-trees : goal.returns-in_ok-put-in-Some-clause-trees
returns-in_ok-put-in-Some-clause-trees g c =
    one_there c.args.files.now c.in-Some.text.now c.in_ok-made-in-Some.made.0 c.new-trees.result c.put.new.self (ap (option_map (λ t. t.now)) (sym c.in-Some.is) ∙ c.get.ensures)
    c.in_ok-made-in-Some.ensures.tree c.new-trees.ensures c.in_ok-put-in-Some.ensures.at

pub returns-in_ok-put-in-Some-clause-count : goal.returns-in_ok-put-in-Some-clause-count
returns-in_ok-put-in-Some-clause-count g c =
    subst (λ (o : Option (List ℕ)). ReadsFirst c.args.past.now.used o c.in_ok-made-in-Some.made.1) (ap (option_map (λ t. t.now)) (sym c.in-Some.is) ∙ c.get.ensures) c.in_ok-made-in-Some.ensures.count

pub returns-in_ok-put-in-Some-clause-at_most : goal.returns-in_ok-put-in-Some-clause-at_most
returns-in_ok-put-in-Some-clause-at_most g c = λ n reads.
    let there : finite.get c.args.files.now resolver_path ≡ Some c.in-Some.text.now = sym c.get.ensures ∙ ap (option_map (λ t. t.now)) c.in-Some.is in
    c.tree_of.ensures.at_most n (subst (λ (o : Option (List ℕ)). ReadsFirst c.args.past.now.used o n) there reads)

pub returns-in_err-put-in-Some-clause-at_most : goal.returns-in_err-put-in-Some-clause-at_most
returns-in_err-put-in-Some-clause-at_most g c = λ n reads.
    let there : finite.get c.args.files.now resolver_path ≡ Some c.in-Some.text.now = sym c.get.ensures ∙ ap (option_map (λ t. t.now)) c.in-Some.is in
    c.tree_of.ensures.at_most n (subst (λ (o : Option (List ℕ)). ReadsFirst c.args.past.now.used o n) there reads)

pub returns-in_err-made-in-Some-clause-at_most : goal.returns-in_err-made-in-Some-clause-at_most
returns-in_err-made-in-Some-clause-at_most g c = λ n reads.
    let there : finite.get c.args.files.now resolver_path ≡ Some c.in-Some.text.now = sym c.get.ensures ∙ ap (option_map (λ t. t.now)) c.in-Some.is in
    c.tree_of.ensures.at_most n (subst (λ (o : Option (List ℕ)). ReadsFirst c.args.past.now.used o n) there reads)

pub returns-in-None-clause-trees : goal.returns-in-None-clause-trees
returns-in-None-clause-trees g c = none_there c.args.files.now c.new-trees.result (ap (option_map (λ t. t.now)) (sym c.in-None.is) ∙ c.get.ensures) c.new-trees.ensures

pub returns-in-None-clause-count : goal.returns-in-None-clause-count
returns-in-None-clause-count g c = subst (λ (o : Option (List ℕ)). ReadsFirst c.args.past.now.used o 0) (ap (option_map (λ t. t.now)) (sym c.in-None.is) ∙ c.get.ensures) refl
