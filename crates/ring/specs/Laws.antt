-- Laws of graphs: what the definitions name is one, and a table's rows come to rows alone.
use Rattle.std.specs.Prelude.{◌≡◌, ◌<◌, ℕ, List, length}
use Rattle.std.specs.declared.vec.Vec.{Vec}
use Rattle.std.specs.declared.alloc.Global.{Global}
use Rattle.ring.specs.Routes.{IsReached, IsRing}
use Rattle.ring.specs.Values.{Comes, IsTotal}
use Rattle.ring.specs.Graph.{needs_in, IsGraph}

-- a graph has one first ring from a root
abbrev pub OneRing : Type 0 → Type 0
OneRing N = (needs : N → List N) (root : N) (ring other : List N)
    → IsRing needs root ring → IsRing needs root other → ring ≡ other

-- a node has one value
abbrev pub OneValue : Type 0 → Type 0 → Type 0
OneValue N V = (needs : N → List N) (step : N → List V → V) (v : N) (x y : V)
    → Comes needs step v x → Comes needs step v y → x ≡ y

-- a node has one total
abbrev pub OneTotal : Type 0
OneTotal = (needs : ℕ → List ℕ) (own : List ℕ) (v total other : ℕ)
    → IsTotal needs own v total → IsTotal needs own v other → total ≡ other

-- what is reached from a row of a table is the number of a row
abbrev pub ReachedAreRows : Type 0
ReachedAreRows = (graph : List (Vec ℕ Global)) (root v : ℕ)
    → IsGraph graph → root < length graph → IsReached (needs_in graph) root v → v < length graph
