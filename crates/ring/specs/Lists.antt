-- Elements of lists.
use Rattle.std.specs.Prelude.{◌≡◌, ◌⊎◌, List, [], ◌∷◌}

-- x is one of xs
abbrev pub In : {N : Type 0} → N → List N → Type 0
In x [] = ⊥
In x (y ∷ ys) = (x ≡ y) ⊎ In x ys

-- P holds of each of xs
abbrev pub Each : {N : Type 0} → List N → (N → Type 0) → Type 0
Each {N} xs P = (x : N) → In x xs → P x

-- no two are alike
abbrev pub AreApart : {N : Type 0} → List N → Type 0
AreApart [] = Unit {0}
AreApart (x ∷ xs) = (In x xs → ⊥) × AreApart xs
