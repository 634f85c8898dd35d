use Rattle.std.proofs.Common.{◌≡◌, ℕ, List, Some, sym, subst}
use Rattle.ring.specs.Answer.{IfOrder}
use Rattle.ring.specs.Graph.{needs_in}
use Rattle.ring.specs.Routes.{HasNoRing}
use Rattle.group_inherit.specs.inner.Faults.{IsReportOf}
use Rattle.group_inherit.specs.inner.Numbering.{extension_in}
use Rattle.group_inherit.specs.inner.View.{nodes_view}
use Rattle.token_tree.specs.Tree.{Extension}
use Rattle.group_inherit.proofs.Reports.{extension_of_ring}
use Rattle.group_inherit.proofs.Verdict.{needs_some, no_ring, ring_break, as_many, found_ring}
use Rattle.group_inherit.proofs.rings.finish_order.Goals as goal

pub ring_or_order-requires : goal.ring_or_order-requires
ring_or_order-requires c =
    let ns = c.args.nodes.now in
    let lists = c.args.needs.now in
    record { root = needs_some (nodes_view ns) c.requires.numbering lists c.requires.targets c.requires.graph (as_many ns lists c.requires.long) c.requires.needs; graph = c.requires.graph }

pub returns-in-Order-clause-no_ring : goal.returns-in-Order-clause-no_ring
returns-in-Order-clause-no_ring c =
    let ns = c.args.nodes.now in
    let lists = c.args.needs.now in
    let none = subst (λ f. IfOrder f (λ _. HasNoRing (needs_in lists) 0)) c.in-Order.is c.in_ok-order.ensures.no_ring in
    no_ring (nodes_view ns) c.requires.numbering lists c.requires.targets c.requires.graph (as_many ns lists c.requires.long) c.requires.needs none

pub ring_fault-requires-clause-some : goal.ring_fault-requires-clause-some
ring_fault-requires-clause-some c =
    let nodes = nodes_view c.args.nodes.now in
    let lists = c.args.needs.now in
    let k = c.in_ok-order.ensures in
    let r = found_ring c.args.nodes.now lists c.in_ok-order.field-0 c.in-Ring.ring c.requires.long c.in-Ring.is k.ring k.ring_within in
    let e = extension_of_ring nodes lists c.requires.needs c.in-Ring.ring.items r.1 r.0 in
    subst (λ (xs : List ℕ). (x : Extension) × (extension_in nodes xs ≡ Some x)) (sym c.as_slice.ensures.value) e

pub returns-in_ok-ring_fault-in-Ring-clause-broken : goal.returns-in_ok-ring_fault-in-Ring-clause-broken
returns-in_ok-ring_fault-in-Ring-clause-broken c =
    let nodes = nodes_view c.args.nodes.now in
    let lists = c.args.needs.now in
    let k = c.in_ok-order.ensures in
    let f = c.in_ok-ring_fault-in-Ring.field-0 in
    let r = found_ring c.args.nodes.now lists c.in_ok-order.field-0 c.in-Ring.ring c.requires.long c.in-Ring.is k.ring k.ring_within in
    ring_break nodes c.requires.numbering lists c.requires.targets c.requires.graph (as_many c.args.nodes.now lists c.requires.long) c.requires.needs c.in-Ring.ring.items f r.0 r.1
    (subst (λ (xs : List ℕ). IsReportOf nodes xs f) c.as_slice.ensures.value c.in_ok-ring_fault-in-Ring.ensures)
