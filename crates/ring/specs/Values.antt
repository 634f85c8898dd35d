-- Values of nodes that come from the values of what they need.
use Rattle.std.specs.Prelude.{◌≡◌, ℕ, List, [], ◌∷◌, ◌+◌, sum, min, slice_index}
use Rattle.ring.specs.Lists.{Each}

-- A node's value is a step from the values of its needs, in their order.
mutual
  pub data Comes {N V : Type 0} (needs : N → List N) (step : N → List V → V) : N → V → Type 0 where
    comes : {v : N} {xs : List V} → AllCome needs step (needs v) xs → Comes needs step v (step v xs)

  pub data AllCome {N V : Type 0} (needs : N → List N) (step : N → List V → V) : List N → List V → Type 0 where
    none : AllCome needs step [] []
    more : {w : N} {ws : List N} {x : V} {xs : List V} → Comes needs step w x → AllCome needs step ws xs
        → AllCome needs step (w ∷ ws) (x ∷ xs)

-- what a node has of its own, and the totals of what it needs
abbrev pub total_step : List ℕ → ℕ → List ℕ → ℕ
total_step own v totals = slice_index own v + sum totals

-- what a larger total is shown as
abbrev pub most_total : ℕ
most_total = 1000000

-- the node's total, or the most that is shown where that is less
abbrev pub IsTotal : (ℕ → List ℕ) → List ℕ → ℕ → ℕ → Type 0
IsTotal needs own v shown = (n : ℕ) × Comes needs (total_step own) v n × (shown ≡ min n most_total)

-- the table shows the total of each node of the order
abbrev pub AreTotals : (ℕ → List ℕ) → List ℕ → List ℕ → List ℕ → Type 0
AreTotals needs own order table = Each order (λ v. IsTotal needs own v (slice_index table v))
