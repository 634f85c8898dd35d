use Rattle.std.proofs.Common.{◌≡◌}
use Rattle.std.specs.Prelude.{slice_get}
use Rattle.json_span.specs.View.{items_view}
use Rattle.alias_ref.proofs.index.nth.Given as goal

abbrev pub invariant-loop-node : goal.invariant-loop-node
invariant-loop-node l = (goal.iterator-loop-node).can_next l.node-iterator × (goal.iterator-loop-node).is_finite l.node-iterator × (slice_get (items_view l.node-iterator) l.left ≡ slice_get (items_view l.items) l.i)
