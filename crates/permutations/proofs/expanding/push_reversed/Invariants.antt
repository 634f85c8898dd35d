-- The parts so far are on the stack, from the last part on.
use Rattle.std.proofs.Common.{◌≡◌, ◌++◌, map}
use Rattle.permutations.specs.inner.Parts.{part_view, parts_view}
use Rattle.permutations.proofs.expanding.push_reversed.Given as goal

abbrev pub invariant-loop-part : goal.invariant-loop-part
invariant-loop-part l = parts_view l.stack.items ≡ parts_view l.fn.stack.items ++ map (λ p. part_view p.now) l.yielded
