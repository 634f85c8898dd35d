-- A run of bytes that pass is the longest such prefix of a text; and what is spelled of numbers.
use Rattle.std.proofs.Common.{◌≡◌, ℕ, suc, ◌<◌, ◌/◌, ◌^◌, ◌==◌, not, Bool, true, false, List, [], ◌∷◌, ◌++◌, length, refl, sym, ◌∙◌, ap, append_assoc, arith, ℤ, pos, negsuc, unsigned_abs}
use Rattle.std.specs.Prelude.{if◌then◌else◌}
use Rattle.std.specs.Char.{is_ascii_digit}
use Rattle.std.specs.Fmt.{decimal}
use Rattle.std.specs.List.{list_all}
use Rattle.std.specs.Str.{all_ascii_digits}
use Rattle.std.proofs.Math.Nat.{div-le_self}
use Rattle.std.proofs.lemmas.Fmt.{decimal_is_IsNumeral_wide}
use Rattle.std.proofs.lemmas.List.Folds.{list_all-append}
use Rattle.dec_fix.specs.Writing.{spelling, point_and, last_digits}
use Rattle.dec_fix.proofs.Again.{both, decimal-digits, last_digits-digits}
use Rattle.transforms.specs.Runs.{first_run, behind_run, ends_run, RunsAreFirst, starts_digit, starts_number, NumbersStart, PassesNumbers, NumbersPass}
use Rattle.transforms.proofs.Spelled.{both as together}

pub first_run-append : (p : ℕ → Bool) (s t : List ℕ) → list_all p s ≡ true → ends_run p t ≡ true → first_run p (s ++ t) ≡ s
first_run-append p [] [] h e = refl
first_run-append p [] (c ∷ t) h e = grind arith
first_run-append p (d ∷ s) t h e = let x = both (p d) (list_all p s) h in rw (x.0) (ap (λ v. d ∷ v) (first_run-append p s t x.1 e))

pub behind_run-append : (p : ℕ → Bool) (s t : List ℕ) → list_all p s ≡ true → ends_run p t ≡ true → behind_run p (s ++ t) ≡ t
behind_run-append p [] [] h e = refl
behind_run-append p [] (c ∷ t) h e = grind arith
behind_run-append p (d ∷ s) t h e = let x = both (p d) (list_all p s) h in rw (x.0) (behind_run-append p s t x.1 e)

pub runs_are_first : RunsAreFirst
runs_are_first p s t h e = record { run_is = first_run-append p s t h e; behind_is = behind_run-append p s t h e }

-- two runs before the same byte, which ends them
pub runs_once : (p : ℕ → Bool) (s u : List ℕ) (c : ℕ) (t v : List ℕ) → list_all p s ≡ true → list_all p u ≡ true → p c ≡ false
    → s ++ (c ∷ t) ≡ u ++ (c ∷ v) → (s ≡ u) × (t ≡ v)
runs_once p s u c t v h i e same =
    let ends : not (p c) ≡ true = ap not e in
    let fronts : s ≡ u = sym (first_run-append p s (c ∷ t) h ends) ∙ ap (first_run p) same ∙ first_run-append p u (c ∷ v) i ends in
    let rests : c ∷ t ≡ c ∷ v = sym (behind_run-append p s (c ∷ t) h ends) ∙ ap (behind_run p) same ∙ behind_run-append p u (c ∷ v) i ends in
    let tails : t ≡ v = cc in
    (fronts, tails)

pub all-append : (p : ℕ → Bool) (xs ys : List ℕ) → list_all p xs ≡ true → list_all p ys ≡ true → list_all p (xs ++ ys) ≡ true
all-append p xs ys h i = list_all-append p xs ys ∙ together (list_all p xs) (list_all p ys) h i

-- how numbers begin
digits_start : (ds t : List ℕ) → all_ascii_digits ds ≡ true → 0 < length ds → starts_digit (ds ++ t) ≡ true
digits_start [] t h some = absurd (omega arith)
digits_start (d ∷ ds) t h some = (both (is_ascii_digit d) (all_ascii_digits ds) h).0

digits_number : (t : List ℕ) → starts_digit t ≡ true → starts_number t ≡ true
digits_number [] h = cc
digits_number (c ∷ t) h = grind arith

starts_from : (c : ℤ) (s : ℕ) (t : List ℕ) → unsigned_abs c < 10 ^ 64 → starts_number (spelling (record { c = c; s = s }) ++ t) ≡ true
starts_from (pos n) s t small =
    let whole : n / 10 ^ s < 10 ^ 64 = omega (arith, div-le_self n (10 ^ s)) in
    rw (append_assoc (decimal (n / 10 ^ s)) (point_and n s) t)
    (digits_number (decimal (n / 10 ^ s) ++ (point_and n s ++ t))
    (digits_start (decimal (n / 10 ^ s)) (point_and n s ++ t) (decimal-digits (n / 10 ^ s) whole) ((decimal_is_IsNumeral_wide (n / 10 ^ s) whole).0.0)))
starts_from (negsuc n) s t small =
    let whole : suc n / 10 ^ s < 10 ^ 64 = omega (arith, div-le_self (suc n) (10 ^ s)) in
    rw (append_assoc (decimal (suc n / 10 ^ s)) (point_and (suc n) s) t)
    (digits_start (decimal (suc n / 10 ^ s)) (point_and (suc n) s ++ t) (decimal-digits (suc n / 10 ^ s) whole) ((decimal_is_IsNumeral_wide (suc n / 10 ^ s) whole).0.0))

pub numbers_start : NumbersStart
numbers_start d t h = starts_from d.c d.s t (omega (arith, h.size))

-- the bytes of numbers
module _ (p : ℕ → Bool) (passes : PassesNumbers p) where
  digits_pass : (ds : List ℕ) → all_ascii_digits ds ≡ true → list_all p ds ≡ true
  digits_pass [] h = refl
  digits_pass (d ∷ ds) h =
      let l = both (is_ascii_digit d) (all_ascii_digits ds) h in together (p d) (list_all p ds) (passes.digit d l.0) (digits_pass ds l.1)

  point_passes : (b : Bool) (n s : ℕ) → list_all p (if b then [] else 46 ∷ last_digits s n) ≡ true
  point_passes true n s = refl
  point_passes false n s = together (p 46) (list_all p (last_digits s n)) passes.point (digits_pass (last_digits s n) (last_digits-digits s n))

  size_passes : (n s : ℕ) → n < 10 ^ 64 → list_all p (decimal (n / 10 ^ s) ++ point_and n s) ≡ true
  size_passes n s small =
      let whole : n / 10 ^ s < 10 ^ 64 = omega (arith, div-le_self n (10 ^ s)) in
      all-append p (decimal (n / 10 ^ s)) (point_and n s) (digits_pass (decimal (n / 10 ^ s)) (decimal-digits (n / 10 ^ s) whole)) (point_passes (s == 0) n s)

  spelling_passes : (c : ℤ) (s : ℕ) → unsigned_abs c < 10 ^ 64 → list_all p (spelling (record { c = c; s = s })) ≡ true
  spelling_passes (pos n) s small = size_passes n s small
  spelling_passes (negsuc n) s small =
      together (p 45) (list_all p (decimal (suc n / 10 ^ s) ++ point_and (suc n) s)) passes.minus (size_passes (suc n) s small)

pub numbers_pass : NumbersPass
numbers_pass p passes d h = spelling_passes p passes d.c d.s (omega (arith, h.size))
