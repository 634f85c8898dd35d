use Rattle.std.proofs.Common.{arith, rules, refl, ◌<◌, length}
use Rattle.ring.specs.Graph.{needs_in}
use Rattle.ring.proofs.Searches.{finish, order_has_no_ring, order_within}
use Rattle.ring.proofs.Turns.{once_popped, once_looked, top_marked, top_in, left_after, left_less, in_marks, turned, turned_less, is_ring, ring_in, at_end}
use Rattle.ring.proofs.search.ring_or_order.Goals as goal

pub offset_bounds-graph-top : goal.offset_bounds-graph-top
offset_bounds-graph-top c =
    let h : c.in-Some.top.node < length c.args.graph.now =
    top_in (once_popped c.loop-top.invariant c.in-Some.ensures.items) in
    search rules

pub bounds-graph-top : goal.bounds-graph-top
bounds-graph-top c =
    top_in (once_popped c.loop-top.invariant c.in-Some.ensures.items)

pub look_at-requires-clause-within : goal.look_at-requires-clause-within
look_at-requires-clause-within c =
    let p = once_popped c.loop-top.invariant c.in-Some.ensures.items in
    in_marks (once_looked p c.requires.graph c.index-graph-top.is (omega arith) c.index-need.ensures)

pub returns-in-Some-2-clause-ring : goal.returns-in-Some-2-clause-ring
returns-in-Some-2-clause-ring c =
    let p = once_popped c.loop-top.invariant c.in-Some.ensures.items in
    let l = once_looked p c.requires.graph c.index-graph-top.is (omega arith) c.index-need.ensures in
    is_ring _ _ _ _ l c.in_ok-ring.ensures c.in-Some-2.is

pub returns-in-Some-2-clause-ring_within : goal.returns-in-Some-2-clause-ring_within
returns-in-Some-2-clause-ring_within c =
    let p = once_popped c.loop-top.invariant c.in-Some.ensures.items in
    let l = once_looked p c.requires.graph c.index-graph-top.is (omega arith) c.index-need.ensures in
    ring_in _ _ _ _ l c.in_ok-ring.ensures c.in-Some-2.is

pub loop-top-smaller-in_default-2 : goal.loop-top-smaller-in_default-2
loop-top-smaller-in_default-2 c =
    let p = once_popped c.loop-top.invariant c.in-Some.ensures.items in
    turned_less _ _ _ (once_looked p c.requires.graph c.index-graph-top.is (omega arith) c.index-need.ensures) _ refl
    c.in_ok-ring.ensures (λ ring e. c.in_default-2.not-Some ring e)

pub loop-top-preserved-in_default-2 : goal.loop-top-preserved-in_default-2
loop-top-preserved-in_default-2 c =
    let p = once_popped c.loop-top.invariant c.in-Some.ensures.items in
    turned _ _ _ (once_looked p c.requires.graph c.index-graph-top.is (omega arith) c.index-need.ensures) _ refl
    c.in_ok-ring.ensures (λ ring e. c.in_default-2.not-Some ring e)

pub index_mut-requires-else-top-len : goal.index_mut-requires-else-top-len
index_mut-requires-else-top-len c =
    omega (arith, top_marked (once_popped c.loop-top.invariant c.in-Some.ensures.items), c.loop-top.marks.ok.0)

pub loop-top-smaller : goal.loop-top-smaller
loop-top-smaller c =
    left_less (once_popped c.loop-top.invariant c.in-Some.ensures.items)

pub loop-top-preserved : goal.loop-top-preserved
loop-top-preserved c =
    let p = once_popped c.loop-top.invariant c.in-Some.ensures.items in
    left_after p c.index-graph-top.is (omega arith) c.in_ok-push-2.ensures.items

pub returns : goal.returns
returns c =
    let needs = needs_in c.args.graph.now in
    let done =
    at_end c.args.graph.now c.loop-top.invariant (omega (arith, c.loop-top.stack.ok.0, c.in_default.ensures.cases.0)) in
    let order = finish needs c.args.root c.loop-top.marks.items c.loop-top.order.items done in
    record {
      ring = tt;
      ring_within = tt;
      order_within = order_within needs c.args.root c.loop-top.marks.items (length c.args.graph.now)
          c.loop-top.order.items c.loop-top.invariant.marks done;
      no_ring = order_has_no_ring needs c.args.root c.loop-top.order.items order;
      order = order;
    }
