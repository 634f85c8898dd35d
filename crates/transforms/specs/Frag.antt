-- What a token gives to a sheet.
use Rattle.std.specs.Prelude.{◌≡◌, ◌++◌, List, ℕ, take}

-- the names that it declares there, and its lines
pub record Frag : Type 0 where
  pub names : List (List ℕ)
  pub body : List ℕ

-- the first few names came behind the texts that were there
abbrev pub AddsSome : List (List ℕ) → List (List ℕ) → List (List ℕ) → Type 0
AddsSome before names after = (n : ℕ) × (after ≡ before ++ take n names)
