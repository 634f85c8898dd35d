use Rattle.std.proofs.Common.{◌∙◌, arith}
use Rattle.group_inherit.specs.inner.View.{nodes_view}
use Rattle.group_inherit.proofs.Verdict.{as_many, root_count}
use Rattle.group_inherit.proofs.sizes.check_count.Goals as goal

pub returns-then-count-gt-MOST_MEMBERS-clause-broken : goal.returns-then-count-gt-MOST_MEMBERS-clause-broken
returns-then-count-gt-MOST_MEMBERS-clause-broken c =
    let lists = c.args.needs.now in
    let counts = c.in_ok-counts.counts.items in
    let own = c.as_slice.ensures.value ∙ c.in_ok-own.ensures in
    let k = root_count (nodes_view c.args.nodes.now) c.requires.numbering lists c.requires.targets c.requires.graph (as_many c.args.nodes.now lists c.requires.long) c.requires.needs
    c.as_slice.result.now counts c.index-count.result.now own c.in_ok-counts.ensures.long c.index-count.ensures (c.in_ok-counts.ensures.totals 0 c.requires.root) in
    (c.requires.targets, c.requires.rings, (k.0, k.1, omega (arith, k.2, c.if-count-gt-MOST_MEMBERS.true), k.2))

pub returns-clause-ok : goal.returns-clause-ok
returns-clause-ok c =
    let lists = c.args.needs.now in
    let counts = c.in_ok-counts.counts.items in
    let own = c.as_slice.ensures.value ∙ c.in_ok-own.ensures in
    let k = root_count (nodes_view c.args.nodes.now) c.requires.numbering lists c.requires.targets c.requires.graph (as_many c.args.nodes.now lists c.requires.long) c.requires.needs
    c.as_slice.result.now counts c.index-count.result.now own c.in_ok-counts.ensures.long c.index-count.ensures (c.in_ok-counts.ensures.totals 0 c.requires.root) in
    (k.0, k.1, omega (arith, k.2, c.if-count-gt-MOST_MEMBERS.false))
