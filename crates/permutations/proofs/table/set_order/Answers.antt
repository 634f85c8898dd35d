use Rattle.std.proofs.Common.{ap, sym, ◌∙◌, subst}
use Rattle.std.proofs.lemmas.List.{length-map}
use Rattle.ring.specs.Answer.{IfRing, IfOrder}
use Rattle.ring.specs.Graph.{needs_in}
use Rattle.ring.specs.Order.{IsOrder}
use Rattle.ring.specs.Routes.{IsRing}
use Rattle.resolver_doc.specs.View.{set_view, sets_view}
use Rattle.permutations.proofs.Orders.{order_of_sets, no_ring_of_sets}
use Rattle.permutations.proofs.table.set_order.Goals as goal

pub unreachable-requires : goal.unreachable-requires
unreachable-requires c =
    let graph = c.as_slice.result.now in
    no_ring_of_sets (sets_view c.args.plan.now.sets) (needs_in graph) c.len.result c.in-Ring.field-0.items
    (λ v. ap (λ g. needs_in g v) c.as_slice.ensures.value ∙ c.in_ok-graph.ensures.rows v)
    (c.len.ensures ∙ sym (length-map c.args.plan.now.sets set_view))
    c.args.plan.now.no_ring
    (subst (λ found. IfRing found (λ ring. IsRing (needs_in graph) c.len.result ring)) c.in-Ring.is c.in_ok-order.ensures.ring)

pub returns : goal.returns
returns c =
    let graph = c.as_slice.result.now in
    order_of_sets (sets_view c.args.plan.now.sets) (needs_in graph) c.len.result c.in-Order.order.items
    (λ v. ap (λ g. needs_in g v) c.as_slice.ensures.value ∙ c.in_ok-graph.ensures.rows v)
    (c.len.ensures ∙ sym (length-map c.args.plan.now.sets set_view))
    (subst (λ found. IfOrder found (λ order. IsOrder (needs_in graph) c.len.result order)) c.in-Order.is c.in_ok-order.ensures.order)
