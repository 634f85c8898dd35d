-- An order of the graph of sets is an order of the sets, and it has no ring.
use Rattle.std.proofs.Common.{◌≡◌, ℕ, List, [], ◌∷◌, length, refl, subst}
use Rattle.ring.specs.Order.{IsOrder}
use Rattle.ring.specs.Routes.{IsRing}
use Rattle.resolver_doc.specs.Document.{SetData}
use Rattle.resolver_doc.specs.Rings.{set_needs, HasNoRingOfSets}
use Rattle.permutations.specs.inner.Orders.{IsSetOrder}
use Rattle.permutations.proofs.SetNeeds.{needs_of_document}

same_needs : (f g : ℕ → List ℕ) → ((v : ℕ) → f v ≡ g v) → f ≡ g
same_needs f g h = λ i v. h v i

pub order_of_sets : (sets : List SetData) (needs : ℕ → List ℕ) (root : ℕ) (order : List ℕ) → ((v : ℕ) → needs v ≡ set_needs sets v) → root ≡ length sets → IsOrder needs root order → IsSetOrder sets order
order_of_sets sets needs root order same end o =
    let by_needs = subst (λ (f : ℕ → List ℕ). IsOrder f root order) (same_needs needs (set_needs sets) same) o in
    let by_root = subst (λ (r : ℕ). IsOrder (set_needs sets) r order) end by_needs in
    record {
      follows = by_root.follows;
      apart = by_root.apart;
      all = λ v small. by_root.all v (record { before = length sets ∷ []; steps = (refl, (needs_of_document sets v small, tt)) });
    }

pub no_ring_of_sets : (sets : List SetData) (needs : ℕ → List ℕ) (root : ℕ) (ring : List ℕ) → ((v : ℕ) → needs v ≡ set_needs sets v) → root ≡ length sets → HasNoRingOfSets sets → IsRing needs root ring → ⊥
no_ring_of_sets sets needs root ring same end none r =
    let by_needs = subst (λ (f : ℕ → List ℕ). IsRing f root ring) (same_needs needs (set_needs sets) same) r in
    let by_root = subst (λ (x : ℕ). IsRing (set_needs sets) x ring) end by_needs in
    none by_root.route by_root.first.closed
