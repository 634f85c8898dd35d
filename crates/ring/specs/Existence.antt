-- Where routes from a root stay among finitely many nodes, some route closes first, or none does and nodes have values.
use Rattle.std.specs.Prelude.{◌≡◌, ◌≢◌, ◌⊎◌, List}
use Rattle.ring.specs.Lists.{In}
use Rattle.ring.specs.Routes.{IsReached, IsRing, HasNoRing}
use Rattle.ring.specs.Values.{Comes}

-- any two nodes are the same or not
abbrev pub IsDecided : Type 0 → Type 0
IsDecided N = (v w : N) → (v ≡ w) ⊎ (v ≢ w)

-- whatever routes from the root come to is one of these nodes
abbrev pub ReachesOnly : {N : Type 0} → (N → List N) → N → List N → Type 0
ReachesOnly {N} needs root nodes = (v : N) → IsReached needs root v → In v nodes

-- some route closes first, or none closes
abbrev pub EachGraphAnswers : Type 0 → Type 0
EachGraphAnswers N = IsDecided N → (needs : N → List N) (root : N) (nodes : List N)
    → ReachesOnly needs root nodes → ((ring : List N) × IsRing needs root ring) ⊎ HasNoRing needs root

-- no chain of needs from the node goes on for ever
pub data IsGrounded {N : Type 0} (needs : N → List N) : N → Type 0 where
  grounded : {v : N} → ((w : N) → In w (needs v) → IsGrounded needs w) → IsGrounded needs v

-- where no route closes, no chain of needs from the root goes on for ever
abbrev pub EachIsGrounded : Type 0 → Type 0
EachIsGrounded N = IsDecided N → (needs : N → List N) (root : N) (nodes : List N)
    → ReachesOnly needs root nodes → HasNoRing needs root → IsGrounded needs root

-- a grounded node has a value
abbrev pub GroundedHaveValues : Type 0 → Type 0 → Type 0
GroundedHaveValues N V = (needs : N → List N) (step : N → List V → V) (v : N)
    → IsGrounded needs v → (x : V) × Comes needs step v x
