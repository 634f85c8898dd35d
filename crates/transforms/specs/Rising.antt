-- The order of names in which what is put between the names of groups comes first: in it names of tokens in path order mostly rise.
use Rattle.std.specs.Prelude.{◌≡◌, ℕ, ◌==◌, ◌||◌, Bool, true, List, [], ◌∷◌, map, Option, Some, None, if◌then◌else◌}
use Rattle.std.specs.Ordering.{is_lt}
use Rattle.ring.specs.Lists.{AreApart}
use Rattle.tk_io.specs.Characters.{hyphen, low_line}
use Rattle.tk_io.specs.Order.{text_cmp}

-- '-' and '_' stand before all other bytes
abbrev pub rank : ℕ → ℕ
rank byte = if (byte == hyphen) || (byte == low_line) then 0 else byte

-- the next name stands behind the name
abbrev pub rises : List ℕ → List ℕ → Bool
rises name next = is_lt (text_cmp (map rank name) (map rank next))

-- each name stands behind the one before it
abbrev pub AllRise : List (List ℕ) → Type 0
AllRise [] = Unit {0}
AllRise (name ∷ []) = Unit {0}
AllRise (name ∷ next ∷ names) = (rises name next ≡ true) × AllRise (next ∷ names)

-- the last of the names, where there are some
abbrev pub last_of : List (List ℕ) → Option (List ℕ)
last_of [] = None
last_of (name ∷ []) = Some name
last_of (name ∷ next ∷ names) = last_of (next ∷ names)

-- the name stands behind the last one, where there is one
abbrev pub stands_behind : Option (List ℕ) → List ℕ → Bool
stands_behind None name = true
stands_behind (Some last) name = rises last name

-- the names rise, and this is the last of them
pub record RiseTo (names : List (List ℕ)) (last : Option (List ℕ)) : Type 0 where
  pub rise : AllRise names
  pub last_is : last_of names ≡ last

-- names that rise are apart
abbrev pub RisingAreApart : Type 0
RisingAreApart = (names : List (List ℕ)) (last : Option (List ℕ)) → RiseTo names last → AreApart names
