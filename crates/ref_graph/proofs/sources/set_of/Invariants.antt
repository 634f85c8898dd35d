use Rattle.std.proofs.Common.{◌≡◌, ℕ, take}
use Rattle.std.specs.Ordering.{nat_cmp}
use Rattle.std.specs.BTreeSet.{contains}
use Rattle.ref_graph.specs.Edges.{is_in}
use Rattle.ref_graph.proofs.sources.set_of.Given as goal

abbrev pub invariant-loop-item : goal.invariant-loop-item
invariant-loop-item l = (q : ℕ) → contains nat_cmp l.set q ≡ is_in (take l.item-index l.items) q
