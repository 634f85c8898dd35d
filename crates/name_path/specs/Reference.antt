-- How references are spelled: curly aliases, and pointers by RFC 6901 after a '#'.
use Rattle.std.specs.Prelude.{◌≡◌, ◌≢◌, ℕ, List, [], ◌∷◌, ◌++◌, ◌⊎◌, codes, ◌==◌, if◌then◌else◌}
use Rattle.std.specs.List.{flat_map, join_with_byte}
use Rattle.tk_io.specs.Characters.{number_sign, full_stop, solidus, left_brace, right_brace, tilde}
use Rattle.name_path.specs.Names.{AreNames, IsTokenPath}
use Rattle.name_path.specs.declared.place.Place.{Place}

-- a step of a pointer, with '~' as "~0" and '/' as "~1" (RFC 6901 section 3)
abbrev pub escaped_step : List ℕ → List ℕ
escaped_step step = flat_map (λ b. if b == tilde then codes "~0" else if b == solidus then codes "~1" else b ∷ []) step

-- '#' and each step after a '/'
abbrev pub pointer_text : List (List ℕ) → List ℕ
pointer_text steps = number_sign ∷ flat_map (λ step. solidus ∷ escaped_step step) steps

-- names joined by '.'
abbrev pub path_text : List (List ℕ) → List ℕ
path_text path = join_with_byte full_stop path

-- a path in braces
abbrev pub curly_text : List (List ℕ) → List ℕ
curly_text path = left_brace ∷ (path_text path ++ right_brace ∷ [])

-- what stands between a token's path and the steps into its value
abbrev pub value_step : List ℕ
value_step = codes "$value"

-- a place as a pointer
abbrev pub place_text : Place → List ℕ
place_text place = pointer_text (place.token ++ value_step ∷ place.trail)

-- a curly alias of the token
abbrev pub SpellsPath : List ℕ → List (List ℕ) → Type 0
SpellsPath text path = IsTokenPath path × (text ≡ curly_text path)

-- a pointer to the place; a token's value may also be named by the token alone
abbrev pub SpellsPlace : List ℕ → Place → Type 0
SpellsPlace text place = IsTokenPath place.token × ((text ≡ place_text place) ⊎ ((place.trail ≡ []) × (text ≡ pointer_text place.token)))

-- a pointer to the group, or its path in braces; the root has a pointer alone
abbrev pub SpellsGroup : List ℕ → List (List ℕ) → Type 0
SpellsGroup text path = AreNames path × ((text ≡ pointer_text path) ⊎ ((path ≢ []) × (text ≡ curly_text path)))
