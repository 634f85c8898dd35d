use Rattle.std.proofs.Common.{ℕ, ◌<◌, List, sym, ap, ◌∙◌, subst, length, get_or, arith, length-set, refl}
use Rattle.std.proofs.lemmas.List.{length-map, take_all}
use Rattle.ring.specs.Lists.{In}
use Rattle.token_tree.specs.View.{group_view}
use Rattle.group_inherit.specs.inner.Numbering.{numbered_group, numbered_path}
use Rattle.group_inherit.specs.inner.View.{group_node_view, nodes_view}
use Rattle.group_inherit.proofs.Tables.{row_at, children_known, target_known, in_slice, target_in_slice, expansion_more}
use Rattle.group_inherit.proofs.Trees.{at_tree}
use Rattle.group_inherit.proofs.expanding.expansions.Goals as goal

pub expansion-requires : goal.expansion-requires
expansion-requires c =
    let r = row_at c.args.nodes.now c.args.rows.now c.args.order.now c.loop-v.v-index c.index-rows-v.result c.index-nodes-v.result (length c.as_slice.result.now)
    c.requires.rows c.requires.long c.requires.within c.loop-v-test.true c.index-rows-v.is (ap length c.as_slice.ensures.value ∙ c.loop-v.invariant.long) in
    record { within = r.children; target = r.target; many = r.names }

pub loop-v-preserved : goal.loop-v-preserved
loop-v-preserved c =
    let nodes = c.args.nodes.now in
    let ns = nodes_view nodes in
    let order = c.args.order.now in
    let k = c.loop-v.v-index in
    let v = get_or order k 0 in
    let row = c.index-rows-v.result in
    let table = c.loop-v.table.items in
    let n = c.requires.numbering in
    let r = row_at nodes c.args.rows.now order k row c.index-nodes-v.result (length c.as_slice.result.now)
    c.requires.rows c.requires.long c.requires.within c.loop-v-test.true c.index-rows-v.is (ap length c.as_slice.ensures.value ∙ c.loop-v.invariant.long) in
    let there : v < length ns = omega (arith, r.here, length-map nodes group_node_view) in
    let g = group_view (get_or nodes v c.index-nodes-v.result).group.now in
    let children = children_known ns c.args.rows.now table order k v row r.is_row r.own c.requires.order c.loop-v-test.true refl c.loop-v.invariant.known in
    let target = target_known ns c.args.rows.now table order k v row r.is_row r.own c.requires.order c.loop-v-test.true refl c.loop-v.invariant.known in
    let expands = c.in_ok-group.ensures (numbered_group ns 0) (numbered_path ns v) (at_tree (numbered_group ns 0) ns n.all n.named v there ∙ r.itself)
    (in_slice (numbered_group ns 0) table c.as_slice.result.now (numbered_group ns v) g (numbered_path ns v) row c.as_slice.ensures.value r.itself children)
    (target_in_slice (numbered_group ns 0) table c.as_slice.result.now (numbered_group ns v) g row c.as_slice.ensures.value r.itself target) in
    record {
      long = length-set table v c.in_ok-group.group ∙ c.loop-v.invariant.long;
      known = expansion_more ns table order k v c.in_ok-group.group c.loop-v-test.true refl (omega (arith, r.here, c.loop-v.invariant.long)) c.loop-v.invariant.known expands;
    }

pub returns-clause-known : goal.returns-clause-known
returns-clause-known c = λ v i. c.loop-v.invariant.known v (subst (λ (xs : List ℕ). In v xs) (sym (take_all c.loop-v.v-index c.args.order.now c.loop-v-test.false)) i)
