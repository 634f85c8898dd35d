-- Graphs that are one graph with its nodes renamed.
use Rattle.std.specs.Prelude.{◌≡◌, List, map}
use Rattle.ring.specs.Order.{IsOrder}
use Rattle.ring.specs.Routes.{IsReached, IsRing, HasNoRing}
use Rattle.ring.specs.Values.{Comes}

-- Each node that routes from the root come to has a name of its own in another graph, where a name needs the names of
-- what its node needs, in the same order.
pub record IsRenaming {N M : Type 0} (name : N → M) (needs : N → List N) (root : N) (needs' : M → List M) : Type 0 where
  pub keeps : (v : N) → IsReached needs root v → needs' (name v) ≡ map name (needs v)
  pub apart : (v w : N) → IsReached needs root v → IsReached needs root w → name v ≡ name w → v ≡ w

-- the ring of the graph, by its names, is that of the names
abbrev pub RingsAreRenamed : Type 0 → Type 0 → Type 0
RingsAreRenamed N M = (name : N → M) (needs : N → List N) (root : N) (needs' : M → List M) (ring : List N)
    → IsRenaming name needs root needs' → IsRing needs root ring → IsRing needs' (name root) (map name ring)

-- where the graph has no ring, the names have none
abbrev pub NoRingIsRenamed : Type 0 → Type 0 → Type 0
NoRingIsRenamed N M = (name : N → M) (needs : N → List N) (root : N) (needs' : M → List M)
    → IsRenaming name needs root needs' → HasNoRing needs root → HasNoRing needs' (name root)

-- an order of the graph, by its names, is one of the names
abbrev pub OrdersAreRenamed : Type 0 → Type 0 → Type 0
OrdersAreRenamed N M = (name : N → M) (needs : N → List N) (root : N) (needs' : M → List M) (order : List N)
    → IsRenaming name needs root needs' → IsOrder needs root order → IsOrder needs' (name root) (map name order)

-- the steps to the values of the two graphs are the same
abbrev pub SameSteps : {N M V : Type 0} →
    (N → M) → (N → List N) → N → (N → List V → V) → (M → List V → V) → Type 0
SameSteps {N} {M} {V} name needs root step step' =
    (v : N) (xs : List V) → IsReached needs root v → step' (name v) xs ≡ step v xs

-- the value of a node is then that of its name
abbrev pub ValuesAreRenamed : Type 0 → Type 0 → Type 0 → Type 0
ValuesAreRenamed N M V = (name : N → M) (needs : N → List N) (root : N) (needs' : M → List M)
    (step : N → List V → V) (step' : M → List V → V) (v : N) (x : V)
    → IsRenaming name needs root needs' → SameSteps name needs root step step'
    → IsReached needs root v → Comes needs step v x → Comes needs' step' (name v) x
