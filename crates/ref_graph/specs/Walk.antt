-- Walks along the edges of a graph, which is the list of each node's targets.
use Rattle.std.specs.Prelude.{ℕ, List, [], Contains, slice_index_or}

-- the nodes that a node has an edge to
abbrev pub targets_of : List (List ℕ) → ℕ → List ℕ
targets_of edges v = slice_index_or edges v []

-- a walk of none or more edges
pub data Walk (edges : List (List ℕ)) : ℕ → ℕ → Type 0 where
  stays : {v : ℕ} → Walk edges v v
  goes : {v w u : ℕ} → Contains (targets_of edges v) w → Walk edges w u → Walk edges v u

-- a walk leads from the node to one of the ends
abbrev pub WalksTo : List (List ℕ) → List ℕ → ℕ → Type 0
WalksTo edges ends v = (u : ℕ) × Contains ends u × Walk edges v u
