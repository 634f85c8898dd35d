-- What a table's rows come to.
use Rattle.std.proofs.Common.{ℕ, zero, suc, ◌<◌, List, [], ◌∷◌, ◌++◌, length, All, inl, inr, sym, subst, Vec}
use Rattle.std.proofs.lemmas.List.Elements.{All-head, All-tail}
use Rattle.std.specs.declared.alloc.Global.{Global}
use Rattle.ring.specs.Lists.{In}
use Rattle.ring.specs.Routes.{IsChain, IsRoute, IsReached}
use Rattle.ring.specs.Graph.{needs_in, IsGraph}

in_all : (P : ℕ → Type 0) (xs : List ℕ) (w : ℕ) → All P xs → In w xs → P w
in_all P [] w a i = absurd i
in_all P (x ∷ xs) w a (inl e) = subst P (sym e) (All-head P x xs a)
in_all P (x ∷ xs) w a (inr i) = in_all P xs w (All-tail P x xs a) i

needs_within : (n : ℕ) (rows : List (Vec ℕ Global)) (v w : ℕ) → All (λ row. All (λ x. x < n) row.items) rows → In w (needs_in rows v) → w < n
needs_within n [] v w a i = absurd i
needs_within n (row ∷ rows) zero w a i = in_all (λ x. x < n) row.items w (All-head (λ r. All (λ x. x < n) r.items) row rows a) i
needs_within n (row ∷ rows) (suc v) w a i = needs_within n rows v w (All-tail (λ r. All (λ x. x < n) r.items) row rows a) i

along : (graph : List (Vec ℕ Global)) (g : IsGraph graph) (at : ℕ) (xs : List ℕ) (v : ℕ) → IsChain (needs_in graph) at (xs ++ v ∷ []) → v < length graph
along graph g at [] v l = needs_within (length graph) graph at v g l.0
along graph g at (x ∷ xs) v l = along graph g x xs v l.1

pub within : (graph : List (Vec ℕ Global)) (root v : ℕ) → IsGraph graph → root < length graph → IsReached (needs_in graph) root v → v < length graph
within graph root v g h r = begins r.before r.steps
  where
    begins : (xs : List ℕ) → IsRoute (needs_in graph) root (xs ++ v ∷ []) → v < length graph
    begins [] s = subst (λ (x : ℕ). x < length graph) (sym s.0) h
    begins (x ∷ xs) s = along graph g x xs v s.1
