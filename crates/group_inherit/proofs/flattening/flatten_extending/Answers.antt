use Rattle.std.proofs.Common.{◌<◌, length, sym, ap, ◌∙◌, subst, arith}
use Rattle.std.proofs.lemmas.List.{length-map}
use Rattle.ring.specs.Lists.{In}
use Rattle.token_tree.specs.View.{group_view}
use Rattle.group_inherit.specs.Flattening.{flat_of}
use Rattle.group_inherit.specs.inner.Numbering.{AreRows}
use Rattle.group_inherit.specs.inner.Outcomes.{HoldsExpansion}
use Rattle.group_inherit.specs.inner.Tables.{tabled_group}
use Rattle.group_inherit.specs.inner.View.{group_node_view, nodes_view}
use Rattle.group_inherit.proofs.Counting.{in_all}
use Rattle.group_inherit.proofs.Tables.{value_read, root_expands}
use Rattle.group_inherit.proofs.flattening.flatten_extending.Goals as goal

pub expansions-requires-clause-rows : goal.expansions-requires-clause-rows
expansions-requires-clause-rows c =
    let ready = c.in_ok-ready.ensures.ready in
    subst (λ ns. AreRows (nodes_view ns) c.as_slice-2.result.now) (sym c.as_slice.ensures.value)
    (subst (AreRows (nodes_view c.in_ok-ready.ready.nodes.items)) (sym c.as_slice-2.ensures.value) ready.each_row)

pub returns-clause-ok : goal.returns-clause-ok
returns-clause-ok c =
    let tree = group_view c.args.tree.now in
    let ready = c.in_ok-ready.ensures.ready in
    let nodes = c.in_ok-ready.ready.nodes.items in
    let table = c.in_ok-table.table.items in
    let root = in_all (λ v. v < length (nodes_view nodes)) c.in_ok-ready.ready.order.items 0 ready.within ready.root in
    let some : 0 < length table = omega (arith, root, length-map nodes group_node_view, ap length c.as_slice.ensures.value, c.in_ok-table.ensures.long) in
    let known = subst (λ ns. HoldsExpansion (nodes_view ns) table 0) c.as_slice.ensures.value
    (c.in_ok-table.ensures.known 0 (subst (In 0) (sym c.as_slice-3.ensures.value) ready.root)) in (
      tabled_group table 0,
      root_expands tree (nodes_view nodes) table ready.numbering ready.itself known,
      c.in_ok-flat_of.ensures ∙ ap flat_of (sym (value_read table 0 c.index.result.now some c.index.ensures)),
    )
