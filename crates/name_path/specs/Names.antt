-- When a text is a name of the Format Module, and when names are the path of a group or of a token.
use Rattle.std.specs.Prelude.{◌≡◌, ◌≢◌, ℕ, List, [], ◌∷◌, ◌++◌, ◌⊎◌, ◌<◌, length, All, slice_index, codes}
use Rattle.tk_io.specs.Characters.{dollar_sign, full_stop, left_brace, right_brace}

-- a text that is not empty, does not begin with '$' and holds no '.', '{' or '}'
pub record IsName (text : List ℕ) : Type 0 where
  pub some : 0 < length text
  pub first : slice_index text 0 ≢ dollar_sign
  pub plain : All (λ b. (b ≢ full_stop) × (b ≢ left_brace) × (b ≢ right_brace)) text

-- the name of the token that stands for its group
abbrev pub root_name : List ℕ
root_name = codes "$root"

-- names alone: the path of a group, which is empty for the root
abbrev pub AreNames : List (List ℕ) → Type 0
AreNames path = All IsName path

-- one or more names, of which the last may be `$root`
pub record IsTokenPath (path : List (List ℕ)) : Type 0 where
  pub front : List (List ℕ)
  pub last : List ℕ
  pub whole : path ≡ front ++ last ∷ []
  pub names : AreNames front
  pub ends : IsName last ⊎ (last ≡ root_name)
