-- Runs of bytes that are compared block by block.
use Rattle.std.proofs.Common.{◌≡◌, ◌+◌, ◌*◌, ◌≤◌, ◌==◌, ◌&&◌, ◌∙◌, ℕ, Bool, true, false, not, List, [], ◌∷◌, length, take, drop, cond, refl, sym, arith, ap, zero, suc}
use Rattle.std.specs.Str.{bytes_eq}
use Rattle.std.proofs.lemmas.Bool.Decides.{nat_tests}
use lib.Lanes.{mask_l, zip2}

-- the marks of a byte more
step : (b c : Bool) (m : ℕ) → (m == 0) ≡ c → (cond (not b) 1 0 + 2 * m == 0) ≡ (b && c)
step true c zero h = h
step true c (suc m) h =
    let doubled : (0 + 2 * suc m == 0) ≡ false = grind (arith, nat_tests) in
    let single : (suc m == 0) ≡ false = grind (arith, nat_tests) in
    doubled ∙ sym single ∙ h
step false c m h = grind (arith, nat_tests)

-- no byte is marked as another exactly where all are the same
pub unmarked : (xs ys : List ℕ) → length xs ≡ length ys → (mask_l (zip2 (λ x y. not (x == y)) xs ys) == 0) ≡ bytes_eq xs ys
unmarked [] [] e = refl
unmarked [] (y ∷ ys) e = absurd (omega (arith, e))
unmarked (x ∷ xs) (y ∷ ys) e = step (x == y) _ _ (unmarked xs ys (omega (arith, e)))
unmarked (x ∷ xs) [] e = absurd (omega (arith, e))

and_assoc : (a b c : Bool) → (a && (b && c)) ≡ ((a && b) && c)
and_assoc true b c = refl
and_assoc false b c = refl

-- runs are the same where their fronts are, and what is behind these
pub fronts : (n : ℕ) (xs ys : List ℕ) → n ≤ length xs → n ≤ length ys → bytes_eq xs ys ≡ (bytes_eq (take n xs) (take n ys) && bytes_eq (drop n xs) (drop n ys))
fronts zero xs ys h g = refl
fronts (suc n) [] ys h g = absurd (omega (arith, h))
fronts (suc n) (x ∷ xs) [] h g = absurd (omega (arith, g))
fronts (suc n) (x ∷ xs) (y ∷ ys) h g = ap (λ b. (x == y) && b) (fronts n xs ys (omega (arith, h)) (omega (arith, g))) ∙ and_assoc (x == y) _ _
