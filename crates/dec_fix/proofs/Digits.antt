-- Digits and the numbers that they write.
use Rattle.std.proofs.Common.{◌≡◌, ℕ, ◌+◌, ◌-◌, ◌*◌, ◌<◌, ◌≤◌, List, [], ◌∷◌, ◌++◌, length, take, get_or, true, refl, rules, arith}
use Rattle.std.specs.Str.{all_ascii_digits}
use Rattle.std.specs.Int.{IsInRange}
use Rattle.std.proofs.lemmas.Str.Parse.{IsNumeralModel, numerals_by_fold, digit_at}
use Rattle.std.proofs.lemmas.Grind.{take_at_read}
use Rattle.dec_fix.specs.Spelling.{digits_number_after}
use Rattle.dec_fix.specs.Reading.{digits_front}

pub own : IsNumeralModel (λ ds. all_ascii_digits ds ≡ true) (digits_number_after 0)
own = numerals_by_fold _ (search rules) digits_number_after (search rules)

pub digit_range : (ds : List ℕ) (i : ℕ) → all_ascii_digits ds ≡ true → i < length ds → (48 ≤ get_or ds i 0) × (get_or ds i 0 ≤ 57)
digit_range ds i h lt = let r : IsInRange 48 57 (get_or ds i 0) = digit_at ds i (own.to ds h) lt in (omega arith, omega arith)

pub value_after-append : (n : ℕ) (xs ys : List ℕ) → digits_number_after n (xs ++ ys) ≡ digits_number_after (digits_number_after n xs) ys
value_after-append n [] ys = refl
value_after-append n (x ∷ xs) ys = value_after-append (n * 10 + (x - 48)) xs ys

pub value_after-more : (n : ℕ) (ds : List ℕ) (i : ℕ) → i < length ds → digits_number_after n (take (i + 1) ds) ≡ digits_number_after n (take i ds) * 10 + (get_or ds i 0 - 48)
value_after-more n ds i lt = rw ((take_at_read ds i 0 lt).1) (value_after-append n (take i ds) (get_or ds i 0 ∷ []))

pub digits_front-digits : (t : List ℕ) → all_ascii_digits (digits_front t) ≡ true
digits_front-digits [] = refl
digits_front-digits (c ∷ t) = let again = digits_front-digits t in grind arith
