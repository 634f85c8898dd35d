-- What a token is to have can be spelled.
use Rattle.std.proofs.Common.{◌≡◌, ℕ, ◌^◌, ◌<◌, Bool, true, false, List, [], ◌∷◌, ◌++◌, refl, codes, Option, Some, None, arith}
use Rattle.std.specs.Prelude.{if◌then◌else◌, IfSome, option_and_then, option_map}
use Rattle.std.specs.Char.{digit_value}
use Rattle.std.specs.List.{list_all, AllByRecursion}
use Rattle.std.specs.Option.{option_or}
use Rattle.std.proofs.lemmas.Bool.Decides.{nat_tests}
use Rattle.dec_fix.specs.Decimal.{Decimal, IsDec, IsExact}
use Rattle.dec_fix.proofs.Again.{both}
use Rattle.transforms.specs.Config.{Settings}
use Rattle.transforms.specs.FiveNames.{family_end, size_end, weight_end, spacing_end, height_end}
use Rattle.transforms.specs.Hexadecimal.{hex_value}
use Rattle.transforms.specs.Quoted.{is_printable}
use Rattle.transforms.specs.PlatformName.{is_kept, is_identifier}
use Rattle.transforms.specs.Scaling.{scaled}
use Rattle.transforms.specs.declared.platform.Platform.TheVariants.{Android, Swift}
use Rattle.transforms.proofs.Endings.{endings_stay}
use Rattle.transforms.proofs.ScaledAreWritten.{exact_dec, over_dec, scaled_dec}
use Rattle.type_rules.specs.Ranges.{ranges_of}
use Rattle.type_rules.specs.Sound.{IsColor, IsCurve, IsSize, IsInRange, IsSimple, IsHex, is_hex_digit}
use Rattle.type_rules.specs.declared.color.Color.{Color}
use Rattle.type_rules.specs.declared.curve.Curve.{Curve}
use Rattle.type_rules.specs.declared.range.Range.{Range}
use Rattle.type_rules.specs.declared.simple.Simple.{Simple}
use Rattle.type_rules.specs.declared.simple.Simple.TheVariants as simple
use Rattle.type_rules.specs.declared.size.Size.{Size}
use Rattle.type_rules.specs.declared.space.Space.{Space}
use Rattle.type_rules.specs.declared.space.Space.TheVariants.{Srgb, SrgbLinear, DisplayP3, A98Rgb, ProphotoRgb, Rec2020, XyzD65, XyzD50, Hsl, Hwb, Lab, Lch, Oklab, Oklch}
use Rattle.type_rules.specs.declared.time.TimeUnit.{TimeUnit}
use Rattle.type_rules.specs.declared.time.TimeUnit.TheVariants.{Ms, S}
use Rattle.composite_rules.specs.Sound.{IsTyped, IsTypography}
use Rattle.composite_rules.specs.declared.typed.Typed.{Typed}
use Rattle.composite_rules.specs.declared.typed.Typed.TheVariants as typed
use Rattle.composite_rules.specs.declared.typography.Typography.{Typography}
use Rattle.ios_out.specs.Constant.{Quantity, amount, over_255, labelled, bare, Content, string}
use Rattle.ios_out.specs.PlatformValue.{length_type, time_type, number_type, text_type, color_maker, curve_maker, red_label, color_of, component_color, digits_color, color_content, is_rem, size_content, seconds_in, curve_content, family_content, simple_content, one_value, unless_omitted, swift_values}
use Rattle.ios_out.specs.Reading.{is_swift_word}
use Rattle.ios_out.proofs.Numbers.{IsFineQuantity}
use Rattle.ios_out.proofs.SpelledIsRead.{IsFine, fine_number, fine_string, fine_made, IsSpellable}

-- numbers
fine_size : (settings : Settings) (s : Size) → settings.rem_base < 2 ^ 8 → IsSize s → IsFine (size_content settings s)
fine_size settings s base h = fine_number length_type (scaled s.value (is_rem s.unit) settings.rem_base) refl (scaled_dec s.value (is_rem s.unit) settings.rem_base h base)

seconds_dec : (u : TimeUnit) (d : Decimal) → IsExact d → IsDec (seconds_in u d)
seconds_dec Ms d h = over_dec d h
seconds_dec S d h = exact_dec d h

fine_curve : (c : Curve) → IsCurve c → IsFine (curve_content c)
fine_curve c h =
    fine_made curve_maker (labelled (codes "controlPoints") (amount c.x1)) (bare (amount c.y1) ∷ bare (amount c.x2) ∷ bare (amount c.y2) ∷ []) refl
    ((refl, exact_dec c.x1 h.x1.exact), (exact_dec c.y1 h.y1, (exact_dec c.x2 h.x2.exact, (exact_dec c.y2 h.y2, tt))))

-- bytes of two digits
small_digit : (c : ℕ) → is_hex_digit c ≡ true → digit_value c < 16
small_digit c h = grind (arith, nat_tests)

pair_fits : (a b : ℕ) → is_hex_digit a ≡ true → is_hex_digit b ≡ true → hex_value (a ∷ b ∷ []) < 256
pair_fits a b h i = let x = small_digit a h in let y = small_digit b i in omega (arith, x, y)

-- what an option holds is fine
abbrev AreFine : Option Content → Type 0
AreFine o = IfSome o IsFine

fine_or : (o p : Option Content) → AreFine o → AreFine p → AreFine (option_or o p)
fine_or None p h i = i
fine_or (Some c) p h i = h

fine_if : (b : Bool) (o : Option Content) → AreFine o → AreFine (if b then o else None)
fine_if true o h = h
fine_if false o h = tt

fine_color : (label : List ℕ) (red green blue : Quantity) (alpha : Decimal) → is_swift_word label ≡ true → IsFineQuantity red → IsFineQuantity green → IsFineQuantity blue → IsDec alpha
    → IsFine (color_of label red green blue alpha)
fine_color label red green blue alpha w r g b h =
    fine_made color_maker (labelled label red) (labelled (codes "green") green ∷ labelled (codes "blue") blue ∷ labelled (codes "alpha") (amount alpha) ∷ []) refl
    ((w, r), ((refl, g), ((refl, b), ((refl, h), tt))))

fine_components : (label : List ℕ) (alpha : Decimal) (r g b : Range) (x y z : Option Decimal) → is_swift_word label ≡ true → IsExact alpha → IfSome x (IsInRange r) → IfSome y (IsInRange g) → IfSome z (IsInRange b)
    → AreFine (option_and_then (λ red. option_and_then (λ green. option_map (λ blue. color_of label (amount red) (amount green) (amount blue) alpha) z) y) x)
fine_components label alpha r g b None y z w h i j k = tt
fine_components label alpha r g b (Some red) None z w h i j k = tt
fine_components label alpha r g b (Some red) (Some green) None w h i j k = tt
fine_components label alpha r g b (Some red) (Some green) (Some blue) w h i j k =
    fine_color label (amount red) (amount green) (amount blue) alpha w (exact_dec red i.exact) (exact_dec green j.exact) (exact_dec blue k.exact) (exact_dec alpha h)

labels_are_words : (s : Space) → IfSome (red_label s) (λ label. is_swift_word label ≡ true)
labels_are_words Srgb = refl
labels_are_words SrgbLinear = tt
labels_are_words DisplayP3 = refl
labels_are_words A98Rgb = tt
labels_are_words ProphotoRgb = tt
labels_are_words Rec2020 = tt
labels_are_words XyzD65 = tt
labels_are_words XyzD50 = tt
labels_are_words Hsl = tt
labels_are_words Hwb = tt
labels_are_words Lab = tt
labels_are_words Lch = tt
labels_are_words Oklab = tt
labels_are_words Oklch = tt

fine_labelled : (label : Option (List ℕ)) (c : Color) → IsColor c → IfSome label (λ l. is_swift_word l ≡ true) → AreFine (option_and_then (λ l. component_color l c) label)
fine_labelled None c h w = tt
fine_labelled (Some l) c h w =
    let ranges = ranges_of c.space in
    fine_components l c.alpha ranges.first ranges.second ranges.third c.first c.second c.third w h.alpha.exact h.first h.second h.third

fine_digits : (alpha : Decimal) (digits : List ℕ) → IsExact alpha → list_all is_hex_digit digits ≡ true → AreFine (digits_color alpha digits)
fine_digits alpha [] h i = tt
fine_digits alpha (a ∷ []) h i = tt
fine_digits alpha (a ∷ b ∷ []) h i = tt
fine_digits alpha (a ∷ b ∷ c ∷ []) h i = tt
fine_digits alpha (a ∷ b ∷ c ∷ d ∷ []) h i = tt
fine_digits alpha (a ∷ b ∷ c ∷ d ∷ e ∷ []) h i = tt
fine_digits alpha (a ∷ b ∷ c ∷ d ∷ e ∷ f ∷ []) h i =
    let p = both (is_hex_digit a) (list_all is_hex_digit (b ∷ c ∷ d ∷ e ∷ f ∷ [])) i in
    let q = both (is_hex_digit b) (list_all is_hex_digit (c ∷ d ∷ e ∷ f ∷ [])) p.1 in
    let r = both (is_hex_digit c) (list_all is_hex_digit (d ∷ e ∷ f ∷ [])) q.1 in
    let s = both (is_hex_digit d) (list_all is_hex_digit (e ∷ f ∷ [])) r.1 in
    let t = both (is_hex_digit e) (list_all is_hex_digit (f ∷ [])) s.1 in
    let u = both (is_hex_digit f) true t.1 in
    fine_color (codes "red") (over_255 (hex_value (a ∷ b ∷ []))) (over_255 (hex_value (c ∷ d ∷ []))) (over_255 (hex_value (e ∷ f ∷ []))) alpha refl
    (pair_fits a b p.0 q.0) (pair_fits c d r.0 s.0) (pair_fits e f t.0 u.0) (exact_dec alpha h)
fine_digits alpha (a ∷ b ∷ c ∷ d ∷ e ∷ f ∷ g ∷ rest) h i = tt

fine_hex : (alpha : Decimal) (hex : Option (List ℕ)) → IsExact alpha → IfSome hex IsHex → AreFine (option_and_then (digits_color alpha) hex)
fine_hex alpha None h i = tt
fine_hex alpha (Some digits) h i = fine_digits alpha digits h i.lower

fine_colors : (c : Color) → IsColor c → AreFine (color_content c)
fine_colors c h = fine_or (option_and_then (λ label. component_color label c) (red_label c.space)) (option_and_then (digits_color c.alpha) c.hex)
    (fine_labelled (red_label c.space) c h (labels_are_words c.space)) (fine_hex c.alpha c.hex h.alpha.exact h.hex)

fine_family : (families : List (List ℕ)) → AreFine (family_content families)
fine_family [] = tt
fine_family (f ∷ fs) = fine_if (is_printable f) (Some (string text_type f)) (fine_string text_type f refl)

fine_simple : (settings : Settings) (s : Simple) → settings.rem_base < 2 ^ 8 → IsSimple s → AreFine (simple_content settings s)
fine_simple settings (simple.Color c) base h = fine_colors c h
fine_simple settings (simple.Dimension s) base h = fine_size settings s base h
fine_simple settings (simple.FontFamily families) base h = fine_family families
fine_simple settings (simple.FontWeight w) base h = fine_number number_type w refl (exact_dec w h.exact)
fine_simple settings (simple.Duration t) base h = fine_number time_type (seconds_in t.unit t.value) refl (seconds_dec t.unit t.value h)
fine_simple settings (simple.CubicBezier c) base h = fine_curve c h
fine_simple settings (simple.Number d) base h = fine_number number_type d refl (exact_dec d h)

-- values
one_spellable : (name : List ℕ) (o : Option Content) → is_identifier name ≡ true → AreFine o → AllByRecursion IsSpellable (one_value name o)
one_spellable name None n h = tt
one_spellable name (Some c) n h = (record { named = n; fine = h }, tt)

ended : (name ending : List ℕ) → is_identifier name ≡ true → list_all (is_kept Android) ending ≡ true → is_identifier (name ++ ending) ≡ true
ended name ending n e = endings_stay Android name ending n e

five_spellable : (settings : Settings) (name : List ℕ) (t : Typography) (family : Option Content) → settings.rem_base < 2 ^ 8 → IsTypography t → is_identifier name ≡ true
    → AreFine family → AllByRecursion IsSpellable (unless_omitted settings name t family)
five_spellable settings name t None base h n f = tt
five_spellable settings name t (Some family) base h n f = (
  record { named = ended name (family_end Swift) n refl; fine = f },
  (
    record { named = ended name (size_end Swift) n refl; fine = fine_size settings t.size base h.size },
    (
      record { named = ended name (weight_end Swift) n refl; fine = fine_number number_type t.weight refl (exact_dec t.weight h.weight.exact) },
      (
        record { named = ended name (spacing_end Swift) n refl; fine = fine_size settings t.spacing base h.spacing },
        (record { named = ended name (height_end Swift) n refl; fine = fine_number number_type t.line_height refl (exact_dec t.line_height h.line_height) }, tt),
      ),
    ),
  ),
)

pub values_spellable : (settings : Settings) (name : List ℕ) (v : Typed) → settings.rem_base < 2 ^ 8 → IsTyped v → is_identifier name ≡ true → AllByRecursion IsSpellable (swift_values settings name v)
values_spellable settings name (typed.Simple s) base h n = one_spellable name (simple_content settings s) n (fine_simple settings s base h)
values_spellable settings name (typed.StrokeStyle s) base h n = tt
values_spellable settings name (typed.Border b) base h n = tt
values_spellable settings name (typed.Transition t) base h n = tt
values_spellable settings name (typed.Shadow items) base h n = tt
values_spellable settings name (typed.Gradient stops) base h n = tt
values_spellable settings name (typed.Typography t) base h n = five_spellable settings name t (family_content t.family) base h n (fine_family t.family)
