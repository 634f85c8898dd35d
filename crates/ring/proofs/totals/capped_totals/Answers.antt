use Rattle.std.proofs.Common.{◌≡◌, ℕ, ◌+◌, ◌<◌, min, List, length, get_or, sym, ap, ◌∙◌, arith, length-set, refl}
use Rattle.std.specs.List.{sum_by}
use Rattle.std.proofs.lemmas.List.Elements.{All-get_or}
use Rattle.ring.specs.Graph.{needs_in}
use Rattle.ring.proofs.Turns.{row_read}
use Rattle.ring.proofs.Sums.{known_more}
use Rattle.ring.proofs.totals.capped_totals.Goals as goal

pub loop-v-preserved : goal.loop-v-preserved
loop-v-preserved c =
    let k = c.loop-v.v-index in
    let v = get_or c.args.order.now k 0 in
    let in_graph : v < length c.args.graph.now = All-get_or (λ x. x < length c.args.graph.now) c.args.order.now k 0 c.loop-v-test.true c.requires.within in
    let row : needs_in c.args.graph.now v ≡ c.index-graph-v.result.items = row_read c.args.graph.now v c.index-graph-v.result in_graph c.index-graph-v.is in
    let read : c.as_slice.result.now ≡ needs_in c.args.graph.now v = c.as_slice.ensures.value ∙ sym row in
    record {
      long = length-set c.loop-v.table.items v c.total_at.result ∙ c.loop-v.invariant.long;
      known = known_more (needs_in c.args.graph.now) c.args.own.now c.loop-v.table.items c.args.order.now k v c.total_at.result
          c.requires.order c.loop-v-test.true refl (omega (arith, in_graph, c.loop-v.invariant.long)) c.loop-v.invariant.known
          (c.total_at.ensures ∙ (ap (λ (t : List ℕ). min (get_or c.args.own.now v 0 + sum_by (λ w. get_or t w 0) c.as_slice.result.now) 1000000) c.as_slice-in-loop-v.ensures.value ∙ ap (λ (ws : List ℕ). min (get_or c.args.own.now v 0 + sum_by (λ w. get_or c.loop-v.table.items w 0) ws) 1000000) read));
    }
