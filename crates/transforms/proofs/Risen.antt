-- Names that rise one after another.
use Rattle.std.proofs.Common.{◌≡◌, ℕ, zero, suc, ◌+◌, ◌<◌, true, List, [], ◌∷◌, ◌++◌, Option, Some, map, length, get_or, refl, sym, subst, arith, Less}
use Rattle.std.proofs.lemmas.List.{map-id}
use Rattle.ring.specs.Lists.{AreApart}
use Rattle.tk_io.specs.Order.{text_cmp}
use Rattle.transforms.specs.Rising.{rank, stands_behind, AllRise, RiseTo, RisingAreApart}
use Rattle.transforms.proofs.RisingNames.{apart_by_rank}
use Rattle.transforms.proofs.SortedNames.{less, rising_apart}

-- one name more, which stands behind the last
pub risen : (names : List (List ℕ)) (last : Option (List ℕ)) (name : List ℕ) → RiseTo names last → stands_behind last name ≡ true
    → RiseTo (names ++ name ∷ []) (Some name)
risen [] last name rise behind = record { rise = tt; last_is = refl }
risen (first ∷ []) last name rise behind = record { rise = (subst (λ l. stands_behind l name ≡ true) (sym rise.last_is) behind, tt); last_is = refl }
risen (first ∷ next ∷ names) last name rise behind =
    let rest = risen (next ∷ names) last name (record { rise = rise.rise.1; last_is = rise.last_is }) behind in
    record { rise = (rise.rise.0, rest.rise); last_is = rest.last_is }

-- by their ranks each is less than the next
at_places : (names : List (List ℕ)) → AllRise names → (k : ℕ) → k + 1 < length (map (map rank) names)
    → text_cmp (get_or (map (map rank) names) k []) (get_or (map (map rank) names) (k + 1) []) ≡ Less
at_places [] rise k within = absurd (omega (arith, within))
at_places (first ∷ []) rise k within = absurd (omega (arith, within))
at_places (first ∷ next ∷ names) rise zero within = less (text_cmp (map rank first) (map rank next)) (sym rise.0)
at_places (first ∷ next ∷ names) rise (suc k) within =
    let on : suc k + 1 ≡ suc (k + 1) = omega arith in
    rw (on) (at_places (next ∷ names) rise.1 k (omega (arith, within)))

pub rising_are_apart : RisingAreApart
rising_are_apart names last rise =
    subst AreApart (map-id names) (apart_by_rank (λ (name : List ℕ). name) (map rank) names (rising_apart (map (map rank) names) (at_places names rise.rise)))
