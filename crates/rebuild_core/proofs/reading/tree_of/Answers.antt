use Rattle.std.proofs.Common.{◌≡◌, Some, inl, inr, refl, arith}
use Rattle.std.specs.FinMap as finite
use Rattle.rebuild_core.proofs.Summing.{unless_not_held}
use Rattle.rebuild_core.proofs.reading.tree_of.Goals as goal

pub returns-in_ok-tree-in-Some-clause-tree : goal.returns-in_ok-tree-in-Some-clause-tree
returns-in_ok-tree-in-Some-clause-tree g c = c.in_ok-tree-in-Some.ensures c.args.text.now c.in-Some.ensures.known.0

pub returns-in_ok-tree-in-Some-clause-count : goal.returns-in_ok-tree-in-Some-clause-count
returns-in_ok-tree-in-Some-clause-count g c = inl (c.in-Some.ensures.known.1, refl)

pub returns-in_ok-tree-in-None-clause-count : goal.returns-in_ok-tree-in-None-clause-count
returns-in_ok-tree-in-None-clause-count g c = inr (c.known_tree.ensures.new c.in-None.is, refl)

pub returns-in_ok-tree-in-None-clause-at_most : goal.returns-in_ok-tree-in-None-clause-at_most
returns-in_ok-tree-in-None-clause-at_most g c = λ n reads.
    omega (arith, c.read_tree.ensures.step, unless_not_held (finite.get c.args.past.now.used c.args.path.now ≡ Some c.args.text.now) n (c.known_tree.ensures.new c.in-None.is) reads)

pub returns-in_err-tree-in-None-clause-at_most : goal.returns-in_err-tree-in-None-clause-at_most
returns-in_err-tree-in-None-clause-at_most g c = λ n reads.
    omega (arith, c.read_tree.ensures.step, unless_not_held (finite.get c.args.past.now.used c.args.path.now ≡ Some c.args.text.now) n (c.known_tree.ensures.new c.in-None.is) reads)
