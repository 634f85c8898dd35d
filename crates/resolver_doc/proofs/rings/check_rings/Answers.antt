use Rattle.std.proofs.Common.{◌≡◌, ℕ, List, Some, length, sym, subst}
use Rattle.std.proofs.lemmas.List.{length-map}
use Rattle.std.specs.declared.alloc.Global.{Global}
use Rattle.std.specs.declared.vec.Vec.{Vec}
use Rattle.ring.specs.Answer.{IfRing, IfOrder}
use Rattle.ring.specs.Graph.{needs_in}
use Rattle.ring.specs.Routes.{IsRing, HasNoRing}
use Rattle.ring.specs.declared.search.Found.{Found}
use Rattle.ring.specs.declared.search.Found.TheVariants.{Ring, Order}
use Rattle.json_span.specs.Tree.{Placed}
use Rattle.resolver_doc.specs.Rings.{set_needs, IsRingOfSets, HasNoRingOfSets, ring_string}
use Rattle.resolver_doc.specs.View.{set_view, sets_view}
use Rattle.resolver_doc.specs.declared.written.SetDef.{SetDef}
use Rattle.resolver_doc.specs.inner.Faults.{IsSetRingAt}
use Rattle.resolver_doc.specs.inner.Known.{known_sets}
use Rattle.resolver_doc.proofs.PlanFaults.{no_ring_of, ring_of, closes_of, told_of}
use Rattle.resolver_doc.proofs.rings.check_rings.Goals as goal

many : (sets : List SetDef) → length sets ≡ length (sets_view sets)
many sets = sym (length-map sets set_view)

abbrev Rows : List (Vec ℕ Global) → List SetDef → Type 0
Rows graph sets = (v : ℕ) → needs_in graph v ≡ set_needs (sets_view sets) v

first_ring : (sets : List SetDef) (graph items : List (Vec ℕ Global)) (f : Found) (ring : Vec ℕ Global) → graph ≡ items → Rows items sets → f ≡ Ring ring
    → IfRing f (λ xs. IsRing (needs_in graph) (length sets) xs) → IsRingOfSets (sets_view sets) ring.items
first_ring sets graph items f ring e rows is r =
    ring_of graph (sets_view sets) (subst (λ g. Rows g sets) (sym e) rows) (length sets) (many sets) ring.items
    (subst (λ g. IfRing g (λ xs. IsRing (needs_in graph) (length sets) xs)) is r)

no_ring : (sets : List SetDef) (graph items : List (Vec ℕ Global)) (f : Found) (order : Vec ℕ Global) → graph ≡ items → Rows items sets → f ≡ Order order
    → IfOrder f (λ _. HasNoRing (needs_in graph) (length sets)) → HasNoRingOfSets (sets_view sets)
no_ring sets graph items f order e rows is r =
    no_ring_of graph (sets_view sets) (subst (λ g. Rows g sets) (sym e) rows) (length sets) (many sets)
    (subst (λ g. IfOrder g (λ _. HasNoRing (needs_in graph) (length sets))) is r)

pub returns-in-Order-clause-ok : goal.returns-in-Order-clause-ok
returns-in-Order-clause-ok c =
    no_ring c.args.sets.now c.as_slice.result.now c.in_ok-graph.graph.items c.in_ok-ring_or_order.field-0 c.in-Order.field-0 c.as_slice.ensures.value c.in_ok-graph.ensures.rows c.in-Order.is c.in_ok-ring_or_order.ensures.no_ring

pub ring_fault-requires : goal.ring_fault-requires
ring_fault-requires c =
    let sets = known_sets c.args.known.now in
    let r = first_ring c.args.sets.now c.as_slice.result.now c.in_ok-graph.graph.items c.in_ok-ring_or_order.field-0 c.in-Ring.ring c.as_slice.ensures.value c.in_ok-graph.ensures.rows c.in-Ring.is c.in_ok-ring_or_order.ensures.ring in
    subst (λ (ring : List ℕ). (string : Placed) × (ring_string sets ring ≡ Some string)) (sym c.as_slice-in-Ring.ensures.value)
    (closes_of sets (sets_view c.args.sets.now) c.in-Ring.ring.items c.requires.known r)

pub returns-clause-ring : goal.returns-clause-ring
returns-clause-ring c =
    let sets = known_sets c.args.known.now in
    let f = c.in_ok-ring_fault-in-Ring.field-0 in
    let r = first_ring c.args.sets.now c.as_slice.result.now c.in_ok-graph.graph.items c.in_ok-ring_or_order.field-0 c.in-Ring.ring c.as_slice.ensures.value c.in_ok-graph.ensures.rows c.in-Ring.is c.in_ok-ring_or_order.ensures.ring in
    told_of sets (sets_view c.args.sets.now) c.in-Ring.ring.items f r (subst (λ (ring : List ℕ). IsSetRingAt sets ring f) c.as_slice-in-Ring.ensures.value c.in_ok-ring_fault-in-Ring.ensures)
