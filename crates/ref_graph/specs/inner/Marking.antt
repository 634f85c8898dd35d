-- Marks of nodes, and the nodes that wait.
use Rattle.std.specs.Prelude.{◌≡◌, ℕ, ◌+◌, Bool, false, not, ◌||◌, ◌&&◌, List, length, count_by, slice_index_or}
use Rattle.ref_graph.specs.Edges.{is_in}

-- whether a node is marked
abbrev pub is_marked : List Bool → ℕ → Bool
is_marked marks v = slice_index_or marks v false

-- The nodes were marked, and those that had no mark wait now.
pub record Marking (nodes : List ℕ) (old : List Bool) (waited : List ℕ) (new : List Bool) (waits : List ℕ) : Type 0 where
  pub long : length new ≡ length old
  pub marked : (v : ℕ) → is_marked new v ≡ (is_marked old v || is_in nodes v)
  pub waiting : (v : ℕ) → is_in waits v ≡ (is_in waited v || (is_marked new v && not (is_marked old v)))
  pub work : count_by not new + length waits ≡ count_by not old + length waited
