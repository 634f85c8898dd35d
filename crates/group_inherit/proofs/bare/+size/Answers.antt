use Rattle.std.proofs.Common.{◌+◌, drop, arith, subst}
use Rattle.std.proofs.Common.{map as map_list}
use Rattle.std.specs.FinMap as map
use Rattle.token_tree.specs.View.{extends_view, member_view, members_view, properties_view}
use Rattle.group_inherit.proofs.Measures.{Entries, Measuring, no_member, member_more, all_measured}
use Rattle.group_inherit.proofs.Options.{none_then}
use Rattle.group_inherit.proofs.Turns.{first_left, none_left, entry_lighter}
use Rattle.group_inherit.proofs.bare.+size.Goals as goal

pub bare_size-child_size-requires : goal.bare_size-child_size-requires
bare_size-child_size-requires t c =
    let h = entry_lighter c.as_slice-member-items.result.now (map.entries (members_view c.args.group.now.members)) c.loop-member.member-index c.member-item.result c.as_slice-member-items.ensures c.loop-member-test.true c.member-item.is in
    (omega (arith, h, c.decreases), tt)

pub bare_size-loop-member-init : goal.bare_size-loop-member-init
bare_size-loop-member-init t c = no_member (map_list member_view c.as_slice-member-items.result.now)

pub bare_size-with_member-size-requires-clause-most : goal.bare_size-with_member-size-requires-clause-most
bare_size-with_member-size-requires-clause-most t c = c.loop-member.invariant.most

pub bare_size-with_member-size-requires-clause-few : goal.bare_size-with_member-size-requires-clause-few
bare_size-with_member-size-requires-clause-few t c = omega (arith, c.in-Some.ensures.many)

pub bare_size-loop-member-preserved : goal.bare_size-loop-member-preserved
bare_size-loop-member-preserved t c =
    let items = c.as_slice-member-items.result.now in
    let all = map_list member_view items in
    let i = c.loop-member.member-index in
    let x = c.member-item.result in
    member_more all (drop i all) (drop (i + 1) all) (member_view x) c.loop-member.size.members c.loop-member.size.levels c.in-Some.inner.members c.in-Some.inner.levels c.with_member-size.result.members c.with_member-size.result.levels
    (first_left member_view items i x c.loop-member-test.true c.member-item.is) c.in-Some.ensures c.with_member-size.ensures.members c.with_member-size.ensures.levels c.loop-member.invariant

pub bare_size-returns : goal.bare_size-returns
bare_size-returns t c =
    let items = c.as_slice-member-items.result.now in
    let g = c.args.group.now in
    let i = c.loop-member.member-index in
    let left = drop i (map_list member_view items) in
    all_measured (properties_view g) (members_view g.members) left c.loop-member.size.members c.loop-member.size.levels (none_then extends_view g.extends c.is_some.result c.is_some.ensures c.if-is_some.false)
    (none_left member_view items i c.loop-member-test.false)
    (subst (λ (es : Entries). Measuring es left c.loop-member.size.members c.loop-member.size.levels) c.as_slice-member-items.ensures c.loop-member.invariant)
