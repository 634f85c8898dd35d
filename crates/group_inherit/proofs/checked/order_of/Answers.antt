use Rattle.std.proofs.Common.{[], sym, subst}
use Rattle.ring.specs.Order.{Follows}
use Rattle.group_inherit.specs.inner.Numbering.{needs_by}
use Rattle.group_inherit.proofs.Verdict.{slice_graph, slice_needs, slice_follow}
use Rattle.group_inherit.proofs.checked.order_of.Goals as goal

pub counted_order-requires-clause-graph : goal.counted_order-requires-clause-graph
counted_order-requires-clause-graph c =
    slice_graph c.args.nodes.now c.args.rows.now c.requires.long c.requires.rows c.as_slice.result.now _ c.as_slice.ensures.value c.in_ok-lists.ensures

pub counted_order-requires-clause-needs : goal.counted_order-requires-clause-needs
counted_order-requires-clause-needs c =
    slice_needs c.args.nodes.now c.args.rows.now c.requires.long c.requires.rows c.as_slice.result.now _ c.as_slice.ensures.value c.in_ok-lists.ensures

pub returns-clause-follows : goal.returns-clause-follows
returns-clause-follows c =
    slice_follow c.args.nodes.now c.args.rows.now c.requires.long c.requires.rows c.as_slice.result.now _ c.as_slice.ensures.value c.in_ok-lists.ensures
    c.in_ok-order.order.items c.in_ok-order.ensures.order.follows

pub check_height-requires-clause-order : goal.check_height-requires-clause-order
check_height-requires-clause-order c =
    subst (Follows (needs_by c.args.rows.now) []) (sym c.as_slice-2.ensures.value)
    (slice_follow c.args.nodes.now c.args.rows.now c.requires.long c.requires.rows c.as_slice.result.now _ c.as_slice.ensures.value c.in_ok-lists.ensures
    c.in_ok-order.order.items c.in_ok-order.ensures.order.follows)
