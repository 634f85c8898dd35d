-- Sums over lists of what each element gives.
use Rattle.std.specs.Prelude.{◌≡◌, ◌⊎◌, ◌+◌, ℕ, List, [], ◌∷◌}

-- 1 where the claim holds, and else 0
abbrev pub IsOneIf : Type 0 → ℕ → Type 0
IsOneIf claim n = (claim × (n ≡ 1)) ⊎ ((claim → ⊥) × (n ≡ 0))

-- 0 where the claim holds, and else 1
abbrev pub IsOneUnless : Type 0 → ℕ → Type 0
IsOneUnless claim n = (claim × (n ≡ 0)) ⊎ ((claim → ⊥) × (n ≡ 1))

-- the sum of what the elements give
abbrev pub IsSum : {X : Type 0} → (X → ℕ → Type 0) → List X → ℕ → Type 0
IsSum gives [] n = n ≡ 0
IsSum gives (x ∷ xs) n = (here later : ℕ) × gives x here × IsSum gives xs later × (n ≡ here + later)
