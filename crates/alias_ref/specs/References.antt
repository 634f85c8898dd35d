-- The references that texts spell, as readings that compute: curly aliases, and pointers by RFC 6901 after a '#'.
use Rattle.std.specs.Prelude.{ℕ, ◌-◌, Bool, false, ◌&&◌, ◌||◌, ◌==◌, nat_le, if◌then◌else◌, List, [], ◌∷◌, length, Option, Some, None, slice_index}
use Rattle.std.specs.Str.{bytes_eq}
use Rattle.tk_io.specs.Characters.{left_brace, right_brace}
use Rattle.name_path.specs.Names.{root_name}
use Rattle.name_path.specs.Reference.{pointer_text, curly_text, value_step}
use Rattle.name_path.specs.declared.place.Place.{Place}
use Rattle.token_tree.specs.Texts.{is_name, pointer_steps, curly_names}

-- a text that begins with '{' and ends with '}', and has two bytes or more
abbrev pub is_curly : List ℕ → Bool
is_curly text = nat_le 2 (length text) && ((slice_index text 0 == left_brace) && (slice_index text (length text - 1) == right_brace))

-- one or more names, of which the last may be `$root`
abbrev pub is_token_path : List (List ℕ) → Bool
is_token_path [] = false
is_token_path (name ∷ []) = is_name name || bytes_eq name root_name
is_token_path (name ∷ next ∷ path) = is_name name && is_token_path (next ∷ path)

-- the path of the token that a curly alias names
abbrev pub alias_named : List ℕ → Option (List (List ℕ))
alias_named text = if is_token_path (curly_names text) && bytes_eq text (curly_text (curly_names text)) then Some (curly_names text) else None

-- the steps before the first `$value`, and those after it
abbrev pub before_value : List (List ℕ) → List (List ℕ)
before_value [] = []
before_value (step ∷ steps) = if bytes_eq step value_step then [] else step ∷ before_value steps

abbrev pub behind_value : List (List ℕ) → List (List ℕ)
behind_value [] = []
behind_value (step ∷ steps) = if bytes_eq step value_step then steps else behind_value steps

-- the place that a pointer names
abbrev pub place_named : List ℕ → Option Place
place_named text =
    if is_token_path (before_value (pointer_steps text)) && bytes_eq text (pointer_text (pointer_steps text))
    then Some (record { token = before_value (pointer_steps text); trail = behind_value (pointer_steps text) })
    else None
