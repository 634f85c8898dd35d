use Rattle.std.proofs.Common.{ℕ, List, ap, sym, refl, ◌∙◌, arith, length, get_or, length-set}
use Rattle.std.proofs.lemmas.List.{length-map}
use Rattle.token_tree.specs.Tree.{Group}
use Rattle.token_tree.specs.View.{group_view}
use Rattle.group_inherit.specs.inner.Numbering.{numbers_of}
use Rattle.group_inherit.specs.inner.Outcomes.{capped_height}
use Rattle.group_inherit.specs.inner.View.{group_node_view, nodes_view}
use Rattle.group_inherit.proofs.Counting.{heights_more}
use Rattle.group_inherit.proofs.Tables.{row_at}
use Rattle.group_inherit.proofs.sizes.capped_heights.Goals as goal

pub height_at-requires : goal.height_at-requires
height_at-requires c =
    let r = row_at c.args.nodes.now c.args.rows.now c.args.order.now c.loop-v.v-index c.index-rows-v.result c.index-nodes-v.result (length c.as_slice.result.now)
    c.requires.rows c.requires.long c.requires.within c.loop-v-test.true c.index-rows-v.is (ap length c.as_slice.ensures.value ∙ c.loop-v.invariant.long) in
    record { within = r.children; target = r.target; many = r.names }

pub loop-v-preserved : goal.loop-v-preserved
loop-v-preserved c =
    let nodes = c.args.nodes.now in
    let k = c.loop-v.v-index in
    let v = get_or c.args.order.now k 0 in
    let row = c.index-rows-v.result in
    let table = c.loop-v.table.items in
    let r = row_at nodes c.args.rows.now c.args.order.now k row c.index-nodes-v.result (length c.as_slice.result.now)
    c.requires.rows c.requires.long c.requires.within c.loop-v-test.true c.index-rows-v.is (ap length c.as_slice.ensures.value ∙ c.loop-v.invariant.long) in
    record {
      long = length-set table v c.height_at.result ∙ c.loop-v.invariant.long;
      known = heights_more (nodes_view nodes) c.requires.numbering c.args.rows.now table c.args.order.now k v c.height_at.result row r.is_row r.own
          c.requires.order c.loop-v-test.true refl (omega (arith, r.here, length-map nodes group_node_view)) (omega (arith, r.here, c.loop-v.invariant.long)) c.loop-v.invariant.known
          (c.height_at.ensures
          ∙ (ap (λ (t : List ℕ). capped_height (group_view (get_or nodes v c.index-nodes-v.result).group.now) t (numbers_of row)) c.as_slice.ensures.value
          ∙ ap (λ (g : Group). capped_height g table (numbers_of row)) (sym r.itself)));
    }
