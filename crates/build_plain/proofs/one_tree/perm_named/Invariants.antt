-- The permutations that are still to come are of the plan, and the name, where one has it, is one of theirs.
use Rattle.std.proofs.Common.{List, drop, map}
use Rattle.ring.specs.Lists.{In}
use Rattle.permutations.specs.Permutation.{Permutation}
use Rattle.file_plan.specs.View.{plan_view}
use Rattle.build_plain.proofs.one_tree.perm_named.Given as goal

abbrev pub invariant-loop-perm : goal.invariant-loop-perm
invariant-loop-perm l = record {
  rest : (p : Permutation) → In p (plan_view (drop l.perm-index l.plan)) → In p (plan_view l.plan);
  left : In l.name (map (λ (p : Permutation). p.name) (plan_view l.plan)) → In l.name (map (λ (p : Permutation). p.name) (plan_view (drop l.perm-index l.plan)));
}
