use Rattle.std.proofs.Common.{◌≡◌, ◌+◌, List, [], subst, drop, append-nil}
use Rattle.std.proofs.lemmas.Result.{err_from_is_err_and}
use Rattle.group_inherit.specs.declared.targets.Row.{Row}
use Rattle.group_inherit.specs.inner.Faults.{IsLostTarget}
use Rattle.group_inherit.specs.Extension.{Lost}
use Rattle.group_inherit.specs.inner.Numbering.{EachRow, lost_of, lost_nodes}
use Rattle.group_inherit.specs.inner.View.{group_node_view, nodes_view}
use Rattle.group_inherit.proofs.Placing.{Rowing, next_row, one_row_more, lost_first}
use Rattle.group_inherit.proofs.Turns.{none_left}
use Rattle.group_inherit.proofs.targets.rows.Goals as goal

pub row_of-requires : goal.row_of-requires
row_of-requires c =
    let nodes = nodes_view c.args.nodes.now in
    let i = c.loop-node.node-index in
    let x = c.node-item.result in
    let r = next_row c.args.places.now nodes c.loop-node.rows.items c.args.nodes.now i x c.loop-node-test.true c.node-item.is c.loop-node.invariant in
    r.known.0

pub returns-in_err-row_of-clause-lost : goal.returns-in_err-row_of-clause-lost
returns-in_err-row_of-clause-lost c =
    let nodes = nodes_view c.args.nodes.now in
    let i = c.loop-node.node-index in
    let x = c.node-item.result in
    let left = drop (i + 1) nodes in
    let r = next_row c.args.places.now nodes c.loop-node.rows.items c.args.nodes.now i x c.loop-node-test.true c.node-item.is c.loop-node.invariant in
    let p = err_from_is_err_and c.from_residual.result c.from_residual.ensures.1 in
    rw (p.1, p.2) (subst (λ (ls : List Lost). IsLostTarget ls c.in_err-row_of.field-0.0) r.sound (lost_first (lost_of c.args.places.now (group_node_view x)) (lost_nodes c.args.places.now left) c.in_err-row_of.field-0.0 c.in_err-row_of.ensures.lost))

pub loop-node-preserved : goal.loop-node-preserved
loop-node-preserved c =
    let nodes = nodes_view c.args.nodes.now in
    let i = c.loop-node.node-index in
    let x = c.node-item.result in
    let left = drop (i + 1) nodes in
    let r = next_row c.args.places.now nodes c.loop-node.rows.items c.args.nodes.now i x c.loop-node-test.true c.node-item.is c.loop-node.invariant in
    one_row_more c.args.places.now nodes c.loop-node.rows.items c.push.new.self.items (group_node_view x) left c.in_ok-row_of.field-0 r c.in_ok-row_of.ensures.ok c.in_ok-row_of.ensures.sound c.in_ok-push.ensures.items

pub returns-clause-ok : goal.returns-clause-ok
returns-clause-ok c =
    let nodes = nodes_view c.args.nodes.now in
    let gone : drop c.loop-node.node-index nodes ≡ [] = none_left group_node_view c.args.nodes.now c.loop-node.node-index c.loop-node-test.false in
    let r : Rowing c.args.places.now nodes c.loop-node.rows.items [] = subst (Rowing c.args.places.now nodes c.loop-node.rows.items) gone c.loop-node.invariant in
    subst (λ (xs : List Row). EachRow c.args.places.now nodes xs) (append-nil c.loop-node.rows.items) (r.rows_are [] tt)
