-- Cutting a text at the first byte of a kind.
use Rattle.std.specs.Prelude.{◌≡◌, ℕ, Bool, true, ◌==◌, not, List, ◌∷◌, ◌++◌}
use Rattle.std.specs.List.{list_all}

-- the byte is not there
abbrev pub lacks : ℕ → List ℕ → Bool
lacks byte bs = list_all (λ b. not (b == byte)) bs

-- these stand before and after the first such byte
abbrev pub IsFirstCut : ℕ → List ℕ → List ℕ → List ℕ → Type 0
IsFirstCut byte bs front back = (lacks byte front ≡ true) × (bs ≡ front ++ byte ∷ back)
