use Rattle.std.proofs.Common.{◌<◌, [], length, arith, sym, subst}
use Rattle.std.proofs.lemmas.List.{get_or_read}
use Rattle.group_inherit.specs.inner.Numbering.{numbered_group}
use Rattle.group_inherit.specs.inner.Outcomes.{IsHeight}
use Rattle.group_inherit.specs.inner.View.{nodes_view}
use Rattle.group_inherit.proofs.Counting.{in_all, root_height, height_fault, height_ok}
use Rattle.group_inherit.proofs.sizes.check_height.Goals as goal

pub returns-then-height-gt-HIGHEST-clause-broken : goal.returns-then-height-gt-HIGHEST-clause-broken
returns-then-height-gt-HIGHEST-clause-broken c =
    let nodes = nodes_view c.args.nodes.now in
    let tree = numbered_group nodes 0 in
    let heights = c.in_ok-heights.heights.items in
    let shown = c.index-height.result.now in
    let some : 0 < length c.args.nodes.now = in_all (λ v. v < length c.args.nodes.now) c.args.order.now 0 c.requires.within c.requires.root in
    let read = get_or_read heights 0 shown (omega (arith, some, c.in_ok-heights.ensures.long)) c.index-height.ensures 0 in
    let u = subst (IsHeight tree []) (sym read) (root_height nodes c.requires.numbering heights (c.in_ok-heights.ensures.heights 0 c.requires.root)) in
    (c.requires.targets, c.requires.rings, c.requires.counted, (height_fault tree shown u c.requires.counted c.if-height-gt-HIGHEST.true, c.if-height-gt-HIGHEST.true))

pub returns-clause-ok : goal.returns-clause-ok
returns-clause-ok c =
    let nodes = nodes_view c.args.nodes.now in
    let tree = numbered_group nodes 0 in
    let heights = c.in_ok-heights.heights.items in
    let shown = c.index-height.result.now in
    let some : 0 < length c.args.nodes.now = in_all (λ v. v < length c.args.nodes.now) c.args.order.now 0 c.requires.within c.requires.root in
    let read = get_or_read heights 0 shown (omega (arith, some, c.in_ok-heights.ensures.long)) c.index-height.ensures 0 in
    let u = subst (IsHeight tree []) (sym read) (root_height nodes c.requires.numbering heights (c.in_ok-heights.ensures.heights 0 c.requires.root)) in
    height_ok tree shown u c.if-height-gt-HIGHEST.false
