-- A graph as a table: the i-th row lists the needs of node i.
use Rattle.std.specs.Prelude.{ℕ, zero, suc, List, [], ◌∷◌, ◌<◌, length, All}
use Rattle.std.specs.declared.vec.Vec.{Vec}
use Rattle.std.specs.declared.alloc.Global.{Global}

-- what a node needs, in order
abbrev pub needs_in : List (Vec ℕ Global) → ℕ → List ℕ
needs_in [] v = []
needs_in (row ∷ rows) zero = row.items
needs_in (row ∷ rows) (suc v) = needs_in rows v

-- each need is a node
abbrev pub IsGraph : List (Vec ℕ Global) → Type 0
IsGraph graph = All (λ row. All (λ w. w < length graph) row.items) graph
