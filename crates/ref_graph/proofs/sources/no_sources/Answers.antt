use Rattle.std.proofs.Common.{◌≡◌, ℕ, List, false, sym, ap, subst, arith}
use Rattle.std.specs.List.{list_any}
use Rattle.std.specs.Ordering.{nat_cmp}
use Rattle.std.specs.BTreeMap.{is_at}
use Rattle.std.specs.BTreeSet.{BTreeSet}
use Rattle.ref_graph.specs.Edges.{has_source}
use Rattle.ref_graph.proofs.Sets.{has_push}
use Rattle.ref_graph.proofs.sources.no_sources.Goals as goal

pub loop-node-preserved : goal.loop-node-preserved
loop-node-preserved c = record {
  long = omega (arith, c.in_ok-push.ensures.len, c.loop-node.invariant.long, c.push.new.self.ok.0, c.loop-node.sources.ok.0);
  empty = subst (λ (ss : List (BTreeSet ℕ)). (w v : ℕ) → has_source ss w v ≡ false) (sym c.in_ok-push.ensures.items)
      (has_push c.loop-node.sources.items c.new.result c.loop-node.invariant.empty (λ v. ap (λ (ks : List ℕ). list_any (is_at (nat_cmp v)) ks) c.new.ensures.empty));
}
