-- Edges both ways: each node's targets, and each node's sources as a set.
use Rattle.std.specs.Prelude.{◌≡◌, ℕ, zero, suc, Bool, false, ◌||◌, ◌&&◌, List, [], ◌∷◌, map, length, not, All, ◌<◌, nat_eq, if◌then◌else◌}
use Rattle.std.specs.List.{list_any}
use Rattle.std.specs.Ordering.{nat_cmp}
use Rattle.std.specs.BTreeSet.{BTreeSet, contains}
use Rattle.std.specs.declared.vec.Vec.{Vec}
use Rattle.std.specs.declared.alloc.Global.{Global}
use Rattle.ref_graph.specs.Walk.{targets_of}

-- whether a number is in a list
abbrev pub is_in : List ℕ → ℕ → Bool
is_in xs x = list_any (nat_eq x) xs

-- the rows of a table, as lists
abbrev pub rows_of : List (Vec ℕ Global) → List (List ℕ)
rows_of rows = map (λ row. row.items) rows

-- whether v is among the sources of w
abbrev pub has_source : List (BTreeSet ℕ) → ℕ → ℕ → Bool
has_source [] w v = false
has_source (set ∷ sets) zero v = contains nat_cmp set v
has_source (set ∷ sets) (suc w) v = has_source sets w v

-- the sources are those of the edges, which lead from nodes to nodes
pub record IsReversed (edges : List (List ℕ)) (sources : List (BTreeSet ℕ)) : Type 0 where
  pub long : length sources ≡ length edges
  pub within : (v : ℕ) → All (λ w. w < length edges) (targets_of edges v)
  pub agree : (w v : ℕ) → has_source sources w v ≡ is_in (targets_of edges v) w

-- the node was added to the sources of the targets, and nothing else changed
abbrev pub IsAdded : List (BTreeSet ℕ) → List (BTreeSet ℕ) → ℕ → List ℕ → Type 0
IsAdded old new node targets = (w v : ℕ) → has_source new w v ≡ (has_source old w v || (nat_eq v node && is_in targets w))

-- the node was taken away from the sources of the targets that are not kept, and nothing else changed
abbrev pub IsRemoved : List (BTreeSet ℕ) → List (BTreeSet ℕ) → ℕ → List ℕ → (ℕ → Bool) → Type 0
IsRemoved old new node targets is_kept =
    (w v : ℕ) → has_source new w v ≡ (has_source old w v && not (nat_eq v node && (is_in targets w && not (is_kept w))))

-- the node is a source of the targets alone, and nothing else changed
abbrev pub IsReplaced : List (BTreeSet ℕ) → List (BTreeSet ℕ) → ℕ → List ℕ → Type 0
IsReplaced old new node targets = (w v : ℕ) → has_source new w v ≡ (if nat_eq v node then is_in targets w else has_source old w v)
