-- The digits of a whole number have no leading zero. Proofs of other crates may cite this.
use Rattle.std.proofs.Common.{◌≡◌, ℕ, ◌+◌, ◌%◌, ◌^◌, ◌<◌, List, [], ◌∷◌, ◌++◌, refl, arith, Bool, true, false}
use Rattle.std.specs.Prelude.{nat_lt}
use Rattle.std.specs.Fmt.{decimal}
use Rattle.std.proofs.lemmas.Fmt.{decimal_by_steps_wide}
use Rattle.std.proofs.lemmas.Bool.Decides.{nat_tests}
use Rattle.dec_fix.specs.Reading.{is_whole}

abbrev starts_above_zero : List ℕ → Bool
starts_above_zero [] = false
starts_above_zero (c ∷ t) = nat_lt 48 c

more_behind : (ds t : List ℕ) → starts_above_zero ds ≡ true → starts_above_zero (ds ++ t) ≡ true
more_behind [] t h = cc
more_behind (d ∷ ds) t h = h

whole_above : (ds : List ℕ) → starts_above_zero ds ≡ true → is_whole ds ≡ true
whole_above [] h = cc
whole_above (c ∷ []) h = refl
whole_above (c ∷ d ∷ t) h = grind (arith, nat_tests)

both_ways : (n : ℕ) → n < 10 ^ 64 → (is_whole (decimal n) ≡ true) × (0 < n → starts_above_zero (decimal n) ≡ true)
both_ways = decimal_by_steps_wide (λ m ds. (is_whole ds ≡ true) × (0 < m → starts_above_zero ds ≡ true))
    (λ m l. (refl, λ a. grind (arith, nat_tests)))
    (λ m ds l h. let e = more_behind ds ((48 + m % 10) ∷ []) (h.1 (omega arith)) in (whole_above (ds ++ (48 + m % 10) ∷ []) e, λ a. e))

pub is_whole-decimal : (n : ℕ) → n < 10 ^ 64 → is_whole (decimal n) ≡ true
is_whole-decimal n h = (both_ways n h).0
