use Rattle.std.proofs.Common.{ℕ, ◌<◌, [], length, All, ap, sym, ◌∙◌, subst}
use Rattle.std.proofs.lemmas.List.{length-map}
use Rattle.ring.specs.Order.{Follows}
use Rattle.token_tree.specs.View.{group_view}
use Rattle.group_inherit.specs.inner.Numbering.{AreRows, needs_by}
use Rattle.group_inherit.specs.inner.View.{group_node_view, nodes_view}
use Rattle.group_inherit.proofs.Verdict.{numbering_of}
use Rattle.group_inherit.proofs.checked.checked.Goals as goal

pub order_of-requires-clause-rows : goal.order_of-requires-clause-rows
order_of-requires-clause-rows c =
    subst (AreRows (nodes_view c.as_slice-2.result.now)) (sym c.as_slice-3.ensures.value)
    (subst (λ ns. AreRows (nodes_view ns) c.in_ok-table.table.items) (c.as_slice.ensures.value ∙ sym c.as_slice-2.ensures.value) c.in_ok-table.ensures.rows)

pub returns-clause-ready : goal.returns-clause-ready
returns-clause-ready c =
    let nodes = c.in_ok-nodes.nodes.items in
    let table = c.in_ok-table.table.items in
    let order = c.in_ok-order.order.items in
    let many = sym (length-map nodes group_node_view) in
    let n = numbering_of (group_view c.args.tree.now) (nodes_view nodes) c.in_ok-nodes.ensures.all c.in_ok-nodes.ensures.named in
    record {
      numbering = n.0;
      itself = n.1;
      long = c.in_ok-table.ensures.long ∙ (ap length c.as_slice.ensures.value ∙ many);
      each_row = subst (λ ns. AreRows (nodes_view ns) table) c.as_slice.ensures.value c.in_ok-table.ensures.rows;
      within = subst (λ (k : ℕ). All (λ v. v < k) order) (ap length c.as_slice-2.ensures.value ∙ many) c.in_ok-order.ensures.within;
      follows = subst (λ rs. Follows (needs_by rs) [] order) c.as_slice-3.ensures.value c.in_ok-order.ensures.follows;
      root = c.in_ok-order.ensures.root;
    }
