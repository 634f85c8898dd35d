-- The blocks of a sheet for all permutations: each declares what the blocks before it leave to be said, and no more.
use Rattle.std.specs.Prelude.{ℕ, ◌&&◌, not, Bool, true, false, List, [], ◌∷◌, ◌++◌, filter, map, Option, Some, None, is_some}
use Rattle.std.specs.Str.{bytes_eq}
use Rattle.permutations.specs.Name.{Choice}
use Rattle.theme_css.specs.Cascade.{Declaration, Block, cascade, initial, value_in}

-- a permutation: its contexts, those of them that are not the usual ones, and what its own sheet declares
pub record Theme : Type 0 where
  pub page : List Choice
  pub odd : List Choice
  pub own : List Declaration

-- there is one value, or none
abbrev pub is_same_value : Option (List ℕ) → Option (List ℕ) → Bool
is_same_value None None = true
is_same_value None (Some v) = false
is_same_value (Some u) None = false
is_same_value (Some u) (Some v) = bytes_eq u v

-- the name has another value in the permutation's own sheet than before, or none before
abbrev pub differs : (List ℕ → Option (List ℕ)) → List Declaration → List ℕ → Bool
differs before own name = not (is_same_value (before name) (value_in own name))

-- the name has a value before, and none in the permutation's own sheet
abbrev pub is_gone : (List ℕ → Option (List ℕ)) → List Declaration → List ℕ → Bool
is_gone before own name = is_some (before name) && not (is_some (value_in own name))

abbrev pub none_for : List ℕ → Declaration
none_for name = record { name = name; value = initial }

abbrev pub changed : (List ℕ → Option (List ℕ)) → List Declaration → List Declaration
changed before own = filter (λ d. differs before own d.name) own

abbrev pub gone : List (List ℕ) → (List ℕ → Option (List ℕ)) → List Declaration → List Declaration
gone names before own = map none_for (filter (is_gone before own) names)

-- First, in the order of the permutation's own sheet, what differs from the values before; then, in the order of all names,
-- `initial` for each that has a value before and none there.
abbrev pub needed : List (List ℕ) → (List ℕ → Option (List ℕ)) → List Declaration → List Declaration
needed names before own = changed before own ++ gone names before own

-- the block of a permutation after other blocks
abbrev pub block_after : List (List ℕ) → List Block → Theme → Block
block_after names bs t = record { attributes = t.odd; declarations = needed names (cascade bs t.page) t.own }

-- blocks with those of further permutations
unfoldable pub blocks_after : List (List ℕ) → List Block → List Theme → List Block
blocks_after names bs [] = bs
blocks_after names bs (t ∷ ts) = blocks_after names (bs ++ block_after names bs t ∷ []) ts
