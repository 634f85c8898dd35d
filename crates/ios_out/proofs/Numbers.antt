-- Numbers with a point: what they are made of, and that they are read as they are spelled.
use Rattle.std.proofs.Common.{◌≡◌, ℕ, ◌<◌, ◌==◌, Bool, true, false, List, [], ◌∷◌, ◌++◌, refl, ◌∙◌, ap, subst, append_assoc, append-nil, codes, inl, Some, nat_lt, arith, pos}
use Rattle.std.specs.Prelude.{if◌then◌else◌}
use Rattle.std.specs.List.{list_all}
use Rattle.std.proofs.lemmas.Bool.Decides.{nat_tests}
use Rattle.dec_fix.specs.Arithmetic.{whole_decimal}
use Rattle.dec_fix.specs.Decimal.{Decimal, IsDec}
use Rattle.dec_fix.specs.Writing.{spelling, point_spelling}
use Rattle.dec_fix.proofs.Pointed.{point_again}
use Rattle.transforms.specs.Runs.{starts_number, PassesNumbers}
use Rattle.transforms.proofs.RunsAreFirst.{all-append, numbers_pass, numbers_start}
use Rattle.transforms.proofs.Spelled.{both as together}
use Rattle.ios_out.specs.Constant.{Quantity, amount, over_255}
use Rattle.ios_out.specs.Reading.{alone, number_alone, byte_in, quantity_of, quantity_in}
use Rattle.ios_out.specs.Spelling.{quantity_text}

-- the bytes of numbers
module _ (p : ℕ → Bool) (passes : PassesNumbers p) where
  end_passes : (b : Bool) → list_all p (if b then 46 ∷ 48 ∷ [] else []) ≡ true
  end_passes true = together (p 46) (list_all p (48 ∷ [])) passes.point (together (p 48) true (passes.digit 48 refl) refl)
  end_passes false = refl

  pub number_passes : (d : Decimal) → IsDec d → list_all p (point_spelling d) ≡ true
  number_passes d h = all-append p (spelling d) (if d.s == 0 then 46 ∷ 48 ∷ [] else []) (numbers_pass p passes d h) (end_passes (d.s == 0))

-- how numbers begin
point_starts : (d : Decimal) (t : List ℕ) → IsDec d → starts_number (point_spelling d ++ t) ≡ true
point_starts d t h = rw (append_assoc (spelling d) (if d.s == 0 then 46 ∷ 48 ∷ [] else []) t)
    (numbers_start d ((if d.s == 0 then 46 ∷ 48 ∷ [] else []) ++ t) h)

-- numbers to the end
pub number_read : (d : Decimal) → IsDec d → number_alone (point_spelling d) ≡ Some d
number_read d h =
    let P : List ℕ → Type 0 = λ t. number_alone t ≡ Some d in
    subst P (append-nil (point_spelling d)) (rw (point_starts d [] h) (ap (λ r. alone r.0 r.1) (point_again d [] h refl)))

amount_read : (d : Decimal) → IsDec d → quantity_in (point_spelling d) ≡ Some (amount d)
amount_read d h =
    let P : List ℕ → Type 0 = λ t. quantity_in t ≡ Some (amount d) in
    subst P (append-nil (point_spelling d)) (rw (point_starts d [] h) (ap (λ r. quantity_of r.0 r.1) (point_again d [] h refl)))

-- bytes over 255
byte_dec : (b : ℕ) → b < 256 → IsDec (whole_decimal (pos b))
byte_dec b h = record { size = omega (arith, h); places = omega arith; short = inl refl }

byte_fits : (b : ℕ) → b < 256 → byte_in (whole_decimal (pos b)) ≡ Some (over_255 b)
byte_fits b h = let test : nat_lt b 256 ≡ true = grind (arith, nat_tests) in rw test refl

share_read : (b : ℕ) → b < 256 → quantity_in (point_spelling (whole_decimal (pos b)) ++ codes "/255.0") ≡ Some (over_255 b)
share_read b h =
    let d = whole_decimal (pos b) in
    let is = byte_dec b h in
    rw (point_starts d (codes "/255.0") is) (ap (λ r. quantity_of r.0 r.1) (point_again d (codes "/255.0") is refl) ∙ byte_fits b h)

-- quantities that can be spelled
abbrev pub IsFineQuantity : Quantity → Type 0
IsFineQuantity (amount d) = IsDec d
IsFineQuantity (over_255 b) = b < 256

pub quantity_read : (q : Quantity) → IsFineQuantity q → quantity_in (quantity_text q) ≡ Some q
quantity_read (amount d) h = amount_read d h
quantity_read (over_255 b) h = share_read b h

pub quantity_passes : (p : ℕ → Bool) → PassesNumbers p → p 47 ≡ true → (q : Quantity) → IsFineQuantity q → list_all p (quantity_text q) ≡ true
quantity_passes p passes solidus (amount d) h = number_passes p passes d h
quantity_passes p passes solidus (over_255 b) h =
    let two = passes.digit 50 refl in let five = passes.digit 53 refl in let zero_digit = passes.digit 48 refl in
    all-append p (point_spelling (whole_decimal (pos b))) (codes "/255.0") (number_passes p passes (whole_decimal (pos b)) (byte_dec b h))
    (rw (solidus, two, five, passes.point, zero_digit) refl)
