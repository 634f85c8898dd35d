-- The number that is read is the number that the text spells, and none is read exactly where none is within the bounds.
use Rattle.std.proofs.Common.{◌≡◌, ℕ, ◌^◌, ◌<◌, ◌≤◌, ◌&&◌, List, refl, sym, ◌∙◌, ap, subst, arith, Bool, true, false, Some, None, Option, nat_lt, nat_le}
use Rattle.std.specs.Prelude.{option_and_then, option_map, unsigned_abs, if◌then◌else◌, Result, Ok, Err, IfOk, OnErr}
use Rattle.std.specs.Result.{result_ok}
use Rattle.std.proofs.lemmas.Bool.Decides.{nat_tests}
use Rattle.dec_fix.specs.Decimal.{Decimal, IsSameNumber, IsExact, IsShort, signed, shortest, decimal_of}
use Rattle.dec_fix.specs.Spelling.{Spells}
use Rattle.dec_fix.specs.Reading.{Split, split_of, size_of, places_of, within_bounds, accepted, text_decimal, number_of}
use Rattle.dec_fix.proofs.Again.{both}
use Rattle.dec_fix.proofs.Grammar.{split, number_by_split, split_text, text_split}
use Rattle.dec_fix.proofs.SameNumber.{decimal_of-same, decimal_of-short, decimal_of-once, unsigned_abs-signed}

-- the number of a split spelling, of any length and in no short form
abbrev pub split_number : Split → Decimal
split_number q = record { c = signed q.negative (size_of q); s = places_of q }

-- a text that splits so spells each number that is this one
pub spells_from_split : (t : List ℕ) (q : Split) (d : Decimal) → split_of t ≡ Some q → IsSameNumber d (split_number q) → Spells t d
spells_from_split t q d e same =
    let f = text_split t q e in
    let P : Decimal → Type 0 = λ n. IsSameNumber d n in
    record {
      parts = f.parts;
      is_number = f.is_number;
      spelled = f.spelled;
      same = subst P (sym (number_by_split f.parts ∙ ap split_number f.same)) same;
    }

abbrev within_if : Bool → Bool → ℕ × ℕ → Option Decimal
within_if b negative p = if b then Some (record { c = signed negative p.0; s = p.1 }) else None

record Within (negative : Bool) (p : ℕ × ℕ) (d : Decimal) : Type 0 where
  is_it : record { c = signed negative p.0; s = p.1 } ≡ d
  size : p.0 < 10 ^ 30
  places : p.1 ≤ 30

within_by : (negative : Bool) (p : ℕ × ℕ) (d : Decimal) (b : Bool) → (nat_lt p.0 (10 ^ 30) && nat_le p.1 30) ≡ b → within_if b negative p ≡ Some d → Within negative p d
within_by negative p d false e h = cc
within_by negative p d true e h =
    let tests = both (nat_lt p.0 (10 ^ 30)) (nat_le p.1 30) e in
    record { is_it = cc; size = grind (arith, nat_tests, tests.0); places = grind (arith, nat_tests, tests.1) }

within_found : (negative : Bool) (p : ℕ × ℕ) (d : Decimal) → within_bounds negative p ≡ Some d → Within negative p d
within_found negative p d h = within_by negative p d (nat_lt p.0 (10 ^ 30) && nat_le p.1 30) refl h

exact_from : (negative : Bool) (n s : ℕ) → (shortest n s).0 < 10 ^ 30 → (shortest n s).1 ≤ 30 → IsExact (decimal_of negative n s)
exact_from negative n s size places = record {
  size = let P : ℕ → Type 0 = λ m. m < 10 ^ 30 in subst P (sym (unsigned_abs-signed negative (shortest n s).0)) size;
  places = places;
  short = decimal_of-short negative n s;
}

-- a number that is read
pub record IsRead (t : List ℕ) (d : Decimal) : Type 0 where
  pub spells : Spells t d
  pub exact : IsExact d

abbrev pub number_then : Option Split → Option Decimal
number_then o = option_and_then (λ q. within_bounds q.negative (shortest (size_of q) (places_of q))) o

accepted-within : (negative : Bool) (n s : ℕ) → accepted (record { c = signed negative n; s = s }) ≡ within_bounds negative (n, s)
accepted-within negative n s = ap (λ m. if nat_lt m (10 ^ 30) && nat_le s 30 then Some (record { c = signed negative n; s = s }) else None) (unsigned_abs-signed negative n)

number_then_is : (o : Option Split) → option_and_then accepted (option_map (λ q. decimal_of q.negative (size_of q) (places_of q)) o) ≡ number_then o
number_then_is None = refl
number_then_is (Some q) = accepted-within q.negative (shortest (size_of q) (places_of q)).0 (shortest (size_of q) (places_of q)).1

-- the number of a text, by its parts
pub number_of-split : (t : List ℕ) → number_of t ≡ number_then (split_of t)
number_of-split t = number_then_is (split_of t)

read_by : (t : List ℕ) (d : Decimal) (o : Option Split) → split_of t ≡ o → number_then o ≡ Some d → IsRead t d
read_by t d None e h = cc
read_by t d (Some q) e h =
    let w = within_found q.negative (shortest (size_of q) (places_of q)) d h in
    let P : Decimal → Type 0 = λ x. IsRead t x in
    subst P w.is_it (record {
      spells = spells_from_split t q (decimal_of q.negative (size_of q) (places_of q)) e (decimal_of-same q.negative (size_of q) (places_of q));
      exact = exact_from q.negative (size_of q) (places_of q) w.size w.places;
    })

pub number_of-read : (t : List ℕ) (d : Decimal) → number_of t ≡ Some d → IsRead t d
number_of-read t d h = read_by t d (split_of t) refl (sym (number_of-split t) ∙ h)

-- each number within the bounds that the text spells is read
within_all : (negative : Bool) (p : ℕ × ℕ) → p.0 < 10 ^ 30 → p.1 ≤ 30 → within_bounds negative p ≡ Some (record { c = signed negative p.0; s = p.1 })
within_all negative p size places = grind arith

spelled_is : (t : List ℕ) (d : Decimal) → IsShort (unsigned_abs d.c) d.s → (s : Spells t d) → d ≡ decimal_of (split s.parts).negative (size_of (split s.parts)) (places_of (split s.parts))
spelled_is t d h s =
    let q = split s.parts in
    let P : Decimal → Type 0 = λ n. IsSameNumber d n in
    decimal_of-once d q.negative (size_of q) (places_of q) h (subst P (number_by_split s.parts) s.same)

-- a text that spells a short number is read as this number, without bounds
pub text_decimal-spelled : (t : List ℕ) (d : Decimal) → IsShort (unsigned_abs d.c) d.s → Spells t d → text_decimal t ≡ Some d
text_decimal-spelled t d h s =
    ap (option_map (λ q. decimal_of q.negative (size_of q) (places_of q))) (ap split_of s.spelled ∙ split_text s.parts s.is_number)
    ∙ ap Some (sym (spelled_is t d h s))

pub number_of-spelled : (t : List ℕ) (d : Decimal) → IsExact d → Spells t d → number_of t ≡ Some d
number_of-spelled t d h s =
    let q = split s.parts in
    let is_it : d ≡ decimal_of q.negative (size_of q) (places_of q) = spelled_is t d h.short s in
    let size : (shortest (size_of q) (places_of q)).0 < 10 ^ 30 =
    (let e : unsigned_abs d.c ≡ (shortest (size_of q) (places_of q)).0 = ap (λ x. unsigned_abs x.c) is_it ∙ unsigned_abs-signed q.negative (shortest (size_of q) (places_of q)).0 in
    omega (arith, e, h.size)) in
    let places : (shortest (size_of q) (places_of q)).1 ≤ 30 = omega (arith, ap (λ x. x.s) is_it, h.places) in
    number_of-split t
    ∙ (ap number_then (ap split_of s.spelled ∙ split_text s.parts s.is_number)
    ∙ (within_all q.negative (shortest (size_of q) (places_of q)) size places ∙ ap Some (sym is_it)))

pub number_of-none : (t : List ℕ) → number_of t ≡ None → (d : Decimal) → IsExact d → Spells t d → ⊥
number_of-none t e d h s = let f = number_of-spelled t d h s in cc

-- the answers of a reader that answers the number of the text
pub ok_spells : {E : Type 0} (t : List ℕ) (r : Result Decimal E) → result_ok r ≡ number_of t → IfOk r (Spells t)
ok_spells t (Ok d) e = (number_of-read t d (sym e)).spells
ok_spells t (Err x) e = tt

pub ok_exact : {E : Type 0} (t : List ℕ) (r : Result Decimal E) → result_ok r ≡ number_of t → IfOk r IsExact
ok_exact t (Ok d) e = (number_of-read t d (sym e)).exact
ok_exact t (Err x) e = tt

pub err_none : {E : Type 0} (t : List ℕ) (r : Result Decimal E) → result_ok r ≡ number_of t → OnErr r ((d : Decimal) → IsExact d → ¬ Spells t d)
err_none t (Ok d) e = tt
err_none t (Err x) e = number_of-none t (sym e)
