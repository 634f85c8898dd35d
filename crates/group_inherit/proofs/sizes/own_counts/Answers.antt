use Rattle.std.proofs.Common.{sym, ◌∙◌}
use Rattle.token_tree.specs.View.{members_view}
use Rattle.group_inherit.specs.inner.View.{group_node_view, nodes_view}
use Rattle.group_inherit.proofs.Counting.{own_more, many_of}
use Rattle.group_inherit.proofs.Turns.{first_left}
use Rattle.group_inherit.proofs.sizes.own_counts.Goals as goal

pub loop-node-preserved : goal.loop-node-preserved
loop-node-preserved c =
    let x = c.node-item.result in
    own_more (nodes_view c.args.nodes.now) c.loop-node.node-index (group_node_view x) c.loop-node.own.items c.push.new.self.items c.len.result (first_left group_node_view c.args.nodes.now c.loop-node.node-index x c.loop-node-test.true c.node-item.is)
    (c.len.ensures ∙ sym (many_of (members_view x.group.now.members))) c.in_ok-push.ensures.items c.loop-node.invariant
