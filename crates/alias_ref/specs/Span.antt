-- Where a place stands in its file.
use Rattle.std.specs.Prelude.{◌≡◌, ◌⊎◌, ℕ, true, false, List, [], ◌∷◌, ◌++◌, Option, Some, None, option_map, unwrap_or, if◌then◌else◌}
use Rattle.std.specs.FinMap as flat_map
use Rattle.tk_io.specs.Order.{names_cmp}
use Rattle.name_path.specs.declared.place.Place.{Place}
use Rattle.json_span.specs.Tree.{Placed, tree_of, start_of, end_of}
use Rattle.token_tree.specs.Tree.{Definition}
use Rattle.group_inherit.specs.Flattening.{Flattened}
use Rattle.alias_ref.specs.Written.{Step, Role, written_as, written_at, value_at, role_behind, role_at, is_reference, part_behind}

abbrev pub span_of_value : Placed → ℕ × ℕ
span_of_value n = (start_of n, end_of n)

-- The span of the value to which the steps lead: they are followed until they end, a reference stands there, or the next one leads to nothing.
unfoldable pub span_below : Role → Placed → List Step → ℕ × ℕ
span_below role n [] = span_of_value n
span_below role n (s ∷ trail) =
    if is_reference (Some (written_as role (tree_of n))) then span_of_value n
    else unwrap_or (option_map (λ m. span_below (role_behind s) m trail) (part_behind n s)) (span_of_value n)

-- that of a place, where its token is there
abbrev pub span_in : flat_map.FinMap names_cmp Flattened → Place → Option (ℕ × ℕ)
span_in flat p = option_map (λ f. span_below (role_at f.def.by_ref []) f.def.value p.trail) (flat_map.get flat p.token)

-- no reference stands in the token before the end of these steps
abbrev pub NoneBefore : Definition → List Step → Type 0
NoneBefore d front = (before : List Step) → (s : Step) → (behind : List Step) → front ≡ before ++ s ∷ behind
    → is_reference (written_at d before) ≡ false

-- the steps end at this value: no more come, a reference stands there, or the next one leads to nothing
abbrev pub EndsAt : Definition → List Step → Placed → List Step → Type 0
EndsAt d front n [] = Unit {0}
EndsAt d front n (s ∷ rest) = (is_reference (written_at d front) ≡ true) ⊎ (part_behind n s ≡ None)

-- What is told of a place is the span of the value that stands there; of a place behind a reference that of the
-- reference, and of one that leads to nothing that of the last value on the way.
abbrev pub SpansStand : Type 0
SpansStand = (d : Definition) (front rest : List Step) (n : Placed) → value_at d.value front ≡ Some n → NoneBefore d front
    → EndsAt d front n rest → span_below (role_at d.by_ref []) d.value (front ++ rest) ≡ span_of_value n
