-- Digits from the last to the first.
use Rattle.std.proofs.Common.{◌≡◌, ℕ, zero, suc, ◌+◌, ◌/◌, ◌%◌, ◌^◌, ◌<◌, ◌≤◌, List, [], ◌∷◌, ◌++◌, length, refl, sym, ◌∙◌, ap, arith, add-one, append_assoc, length-append}
use Rattle.std.proofs.Math.Nat.{pow-suc, div-div-eq-div-mul}
use Rattle.std.specs.Fmt.{decimal}
use Rattle.std.proofs.lemmas.Fmt.{decimal_step_wide, decimal_digit, decimal_is_IsNumeral_wide, length-decimal-le_wide}
use Rattle.dec_fix.specs.Writing.{last_digits}

pub length-last_digits : (k n : ℕ) → length (last_digits k n) ≡ k
length-last_digits zero n = refl
length-last_digits (suc k) n = let again = length-last_digits k n in omega arith

pub last_digits-more : (k n : ℕ) → last_digits (k + 1) n ≡ (48 + n / 10 ^ k % 10) ∷ last_digits k n
last_digits-more k n = rw (add-one k) refl

pub tenth : (n k : ℕ) → n / 10 ^ k / 10 ≡ n / 10 ^ (k + 1)
tenth n k = rw (add-one k, pow-suc 10 k) (div-div-eq-div-mul n (10 ^ k) 10)

-- one digit more before the rest
pub decimal_more : (n : ℕ) (rest whole : List ℕ) → 10 ≤ n → n < 10 ^ 40 → decimal n ++ rest ≡ whole → decimal (n / 10) ++ ((48 + n % 10) ∷ rest) ≡ whole
decimal_more n rest whole h small e =
    sym (ap (λ t. t ++ rest) (decimal_step_wide n h (omega arith)) ∙ append_assoc (decimal (n / 10)) ((48 + n % 10) ∷ []) rest) ∙ e

-- the last digit of all stands alone
pub decimal_last : (n : ℕ) (rest whole : List ℕ) → n < 10 → decimal n ++ rest ≡ whole → (48 + n) ∷ rest ≡ whole
decimal_last n rest whole h e = ap (λ t. t ++ rest) (sym (decimal_digit n h)) ∙ e

-- there is room for one digit more
pub decimal_room : (m n : ℕ) (text old : List ℕ) → decimal m ++ text ≡ decimal n ++ old → m < 10 ^ 40 → n < 10 ^ 40 → length old ≤ 40 → length text < 80
decimal_room m n text old e small least room =
    let some : 0 < length (decimal m) = (decimal_is_IsNumeral_wide m (omega arith)).0.0 in
    let most : length (decimal n) ≤ 40 = length-decimal-le_wide 40 n (omega arith) least (omega arith) in
    omega (arith, ap length e, length-append (decimal m) text, length-append (decimal n) old)
