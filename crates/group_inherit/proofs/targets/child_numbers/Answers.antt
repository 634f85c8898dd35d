use Rattle.std.proofs.Common.{ap}
use Rattle.token_tree.specs.View.{child_view, group_view}
use Rattle.group_inherit.proofs.Placing.{turn_token, turn_known, turn_group, all_kids}
use Rattle.group_inherit.proofs.targets.child_numbers.Goals as goal

pub loop-member-preserved-in_default : goal.loop-member-preserved-in_default
loop-member-preserved-in_default c =
    turn_token c.args.places.now c.args.node.now.path _ c.as_slice-member-items.result.now _ c.as_slice-member-items.ensures c.loop-member.member-index c.loop-member.row.items c.loop-member.invariant
    c.member-item.result c.loop-member-test.true c.member-item.is c.in_default.field-0.value (ap child_view c.in_default.is)

pub child_number-requires : goal.child_number-requires
child_number-requires c =
    turn_known c.args.places.now c.args.node.now.path _ c.as_slice-member-items.result.now _ c.as_slice-member-items.ensures c.loop-member.member-index c.loop-member.row.items c.loop-member.invariant
    c.member-item.result c.loop-member-test.true c.member-item.is (group_view c.in-Group.field-0.value) (ap child_view c.in-Group.is)

pub loop-member-preserved : goal.loop-member-preserved
loop-member-preserved c =
    turn_group c.args.places.now c.args.node.now.path _ c.as_slice-member-items.result.now _ c.as_slice-member-items.ensures c.loop-member.member-index c.loop-member.row.items c.loop-member.invariant
    c.member-item.result c.loop-member-test.true c.member-item.is c.push.new.self.items (group_view c.in-Group.field-0.value) c.in_ok-child_number.field-0 (ap child_view c.in-Group.is)
    c.in_ok-child_number.ensures c.in_ok-push.ensures.items

pub returns : goal.returns
returns c =
    all_kids c.args.places.now c.args.node.now.path _ c.as_slice-member-items.result.now _ c.as_slice-member-items.ensures c.loop-member.member-index c.loop-member.row.items c.loop-member.invariant
    c.loop-member-test.false
