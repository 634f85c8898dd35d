use Rattle.std.proofs.Common.{◌≡◌, ℕ, List, ◌++◌}
use Rattle.ref_graph.specs.inner.Marking.{Marking}
use Rattle.ref_graph.proofs.marks.mark_sources.Given as goal

abbrev pub invariant-loop-node : goal.invariant-loop-node
invariant-loop-node l =
    (goal.iterator-loop-node).can_next l.node-iterator
    × (goal.iterator-loop-node).is_finite l.node-iterator
    × ((seen : List ℕ) × (seen ++ l.node-iterator ≡ l.nodes.keys) × Marking seen l.initial.marks.items l.initial.waiting.items l.marks.items l.waiting.items)
