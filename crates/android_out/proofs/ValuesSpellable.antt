-- What a token is to have can be spelled.
use Rattle.std.proofs.Common.{◌≡◌, ◌≢◌, ℕ, ◌+◌, ◌*◌, ◌/◌, ◌^◌, ◌<◌, ◌≤◌, ◌==◌, ◌&&◌, Bool, true, false, cond, List, [], ◌∷◌, ◌++◌, refl, sym, ◌∙◌, subst, codes, Option, Some, None, arith, nat_lt, ℤ, pos, negsuc, unsigned_abs}
use Rattle.std.specs.Prelude.{if◌then◌else◌, IfSome, option_and_then, option_map, is_some}
use Rattle.std.specs.Char.{digit_value}
use Rattle.std.specs.List.{list_all, AllByRecursion}
use Rattle.std.specs.Option.{option_or}
use Rattle.std.specs.Ordering.{int_cmp}
use Rattle.std.specs.declared.cmp.Ordering.TheVariants.{Less, Equal, Greater}
use Rattle.std.proofs.Math.Nat.{div-lt_iff_lt-mul}
use Rattle.std.proofs.lemmas.Bool.Decides.{nat_tests}
use Rattle.dec_fix.specs.Decimal.{Decimal, IsDec, IsExact}
use Rattle.dec_fix.specs.Arithmetic.{IsFromZeroToOne, whole_of, byte_of}
use Rattle.dec_fix.proofs.Again.{both}
use Rattle.dec_fix.proofs.SameNumber.{ten_above}
use Rattle.transforms.specs.Config.{Settings}
use Rattle.transforms.specs.FiveNames.{family_end, size_end, weight_end, spacing_end, height_end}
use Rattle.transforms.specs.Hexadecimal.{hex_value}
use Rattle.transforms.specs.PlatformName.{is_kept, is_identifier}
use Rattle.transforms.specs.Scaling.{scaled}
use Rattle.transforms.specs.declared.platform.Platform.TheVariants.{Android}
use Rattle.transforms.proofs.Endings.{endings_stay}
use Rattle.transforms.proofs.ScaledAreWritten.{exact_dec, times_dec, scaled_dec}
use Rattle.transforms.proofs.Spelled.{both as together}
use Rattle.type_rules.specs.Ranges.{ranges_of, share}
use Rattle.type_rules.specs.Sound.{IsColor, IsSize, IsInRange, IsSimple, IsHex, is_hex_digit}
use Rattle.type_rules.proofs.Kept.{shares_are_parts}
use Rattle.type_rules.specs.declared.color.Color.{Color}
use Rattle.type_rules.specs.declared.simple.Simple.{Simple}
use Rattle.type_rules.specs.declared.simple.Simple.TheVariants as simple
use Rattle.type_rules.specs.declared.size.Size.{Size}
use Rattle.type_rules.specs.declared.space.Space.{Space}
use Rattle.type_rules.specs.declared.space.Space.TheVariants.{Srgb, SrgbLinear, DisplayP3, A98Rgb, ProphotoRgb, Rec2020, XyzD65, XyzD50, Hsl, Hwb, Lab, Lch, Oklab, Oklch}
use Rattle.type_rules.specs.declared.time.TimeUnit.{TimeUnit}
use Rattle.type_rules.specs.declared.time.TimeUnit.TheVariants.{Ms, S}
use Rattle.composite_rules.specs.Sound.{IsTyped, IsTypography}
use Rattle.composite_rules.specs.declared.typed.Typed.{Typed}
use Rattle.composite_rules.specs.declared.typed.Typed.TheVariants as typed
use Rattle.composite_rules.specs.declared.typography.Typography.{Typography}
use Rattle.android_out.specs.Element.{Content, color, integer, item, string}
use Rattle.android_out.specs.PlatformValue.{is_srgb, component_color, digits_color, color_content, is_rem, size_content, whole_content, milliseconds_in, is_plain_char, are_family_words, family_content, simple_content, one_value, unless_omitted, android_values}
use Rattle.android_out.specs.Reading.{no_markup, is_unit}
use Rattle.android_out.specs.inner.Written.{when_some, words_from}
use Rattle.android_out.proofs.Words.{words_by_bytes}
use Rattle.android_out.proofs.ContentsRead.{IsFine, fine_color, fine_dimen, fine_integer, fine_item, fine_string, fine_read, fine_plain}
use Rattle.android_out.proofs.SpelledIsRead.{IsSpellable}

-- bytes of parts
at_most : (a b : Bool) (n m : ℕ) → nat_lt n m ≡ a → nat_lt m n ≡ b → cond a Less (cond b Greater Equal) ≢ Greater → n ≤ m
at_most true b n m h i e = grind (arith, nat_tests)
at_most false true n m h i e = absurd (e refl)
at_most false false n m h i e = grind (arith, nat_tests)

byte_from : (c : ℤ) (s : ℕ) → int_cmp c (pos (0 * 10 ^ s)) ≢ Less → int_cmp c (pos (1 * 10 ^ s)) ≢ Greater → (510 * unsigned_abs c + 10 ^ s) / (2 * 10 ^ s) < 256
byte_from (negsuc n) s low high = absurd (low refl)
byte_from (pos n) s low high =
    let some : 0 < 10 ^ s = ten_above s in
    let most : n ≤ 1 * 10 ^ s = at_most (nat_lt n (1 * 10 ^ s)) (nat_lt (1 * 10 ^ s) n) n (1 * 10 ^ s) refl refl high in
    let above : 0 < 2 * 10 ^ s = omega (arith, some) in
    (div-lt_iff_lt-mul above).1 (omega (arith, most, some))

byte_fits : (d : Decimal) → IsFromZeroToOne d → byte_of d < 256
byte_fits d h = byte_from d.c d.s h.low h.high

-- bytes of two digits
small_digit : (c : ℕ) → is_hex_digit c ≡ true → digit_value c < 16
small_digit c h = grind (arith, nat_tests)

pair_fits : (a b : ℕ) → is_hex_digit a ≡ true → is_hex_digit b ≡ true → hex_value (a ∷ b ∷ []) < 256
pair_fits a b h i = let x = small_digit a h in let y = small_digit b i in omega (arith, x, y)

-- what an option holds is fine
abbrev AreFine : Option Content → Type 0
AreFine o = IfSome o IsFine

fine_or : (o p : Option Content) → AreFine o → AreFine p → AreFine (option_or o p)
fine_or None p h i = i
fine_or (Some c) p h i = h

fine_if : (b : Bool) (o : Option Content) → (b ≡ true → AreFine o) → AreFine (if b then o else None)
fine_if true o h = h refl
fine_if false o h = tt

fine_components : (alpha : Decimal) (x y z : Option Decimal) → IsFromZeroToOne alpha → IfSome x (IsInRange share) → IfSome y (IsInRange share) → IfSome z (IsInRange share)
    → AreFine (option_and_then (λ red. option_and_then (λ green. option_map (λ blue. color (byte_of alpha) (byte_of red) (byte_of green) (byte_of blue)) z) y) x)
fine_components alpha None y z h i j k = tt
fine_components alpha (Some r) None z h i j k = tt
fine_components alpha (Some r) (Some g) None h i j k = tt
fine_components alpha (Some r) (Some g) (Some b) h i j k =
    fine_color (byte_of alpha) (byte_of r) (byte_of g) (byte_of b) (byte_fits alpha h)
    (byte_fits r (shares_are_parts r i.within)) (byte_fits g (shares_are_parts g j.within)) (byte_fits b (shares_are_parts b k.within))

srgb_is : (s : Space) → is_srgb s ≡ true → s ≡ Srgb
srgb_is Srgb h = refl
srgb_is SrgbLinear h = cc
srgb_is DisplayP3 h = cc
srgb_is A98Rgb h = cc
srgb_is ProphotoRgb h = cc
srgb_is Rec2020 h = cc
srgb_is XyzD65 h = cc
srgb_is XyzD50 h = cc
srgb_is Hsl h = cc
srgb_is Hwb h = cc
srgb_is Lab h = cc
srgb_is Lch h = cc
srgb_is Oklab h = cc
srgb_is Oklch h = cc

fine_srgb : (c : Color) → IsColor c → is_srgb c.space ≡ true → AreFine (component_color c)
fine_srgb c h e =
    let same = srgb_is c.space e in
    let P : Space → Type 0 = λ s. IfSome c.first (IsInRange (ranges_of s).first) in
    let Q : Space → Type 0 = λ s. IfSome c.second (IsInRange (ranges_of s).second) in
    let R : Space → Type 0 = λ s. IfSome c.third (IsInRange (ranges_of s).third) in
    fine_components c.alpha c.first c.second c.third h.alpha.part (subst P same h.first) (subst Q same h.second) (subst R same h.third)

fine_digits : (alpha : ℕ) (digits : List ℕ) → alpha < 256 → list_all is_hex_digit digits ≡ true → AreFine (digits_color alpha digits)
fine_digits alpha [] h i = tt
fine_digits alpha (a ∷ []) h i = tt
fine_digits alpha (a ∷ b ∷ []) h i = tt
fine_digits alpha (a ∷ b ∷ c ∷ []) h i = tt
fine_digits alpha (a ∷ b ∷ c ∷ d ∷ []) h i = tt
fine_digits alpha (a ∷ b ∷ c ∷ d ∷ e ∷ []) h i = tt
fine_digits alpha (a ∷ b ∷ c ∷ d ∷ e ∷ f ∷ []) h i =
    let p = both (is_hex_digit a) (list_all is_hex_digit (b ∷ c ∷ d ∷ e ∷ f ∷ [])) i in
    let q = both (is_hex_digit b) (list_all is_hex_digit (c ∷ d ∷ e ∷ f ∷ [])) p.1 in
    let r = both (is_hex_digit c) (list_all is_hex_digit (d ∷ e ∷ f ∷ [])) q.1 in
    let s = both (is_hex_digit d) (list_all is_hex_digit (e ∷ f ∷ [])) r.1 in
    let t = both (is_hex_digit e) (list_all is_hex_digit (f ∷ [])) s.1 in
    let u = both (is_hex_digit f) true t.1 in
    fine_color alpha _ _ _ h (pair_fits a b p.0 q.0) (pair_fits c d r.0 s.0) (pair_fits e f t.0 u.0)
fine_digits alpha (a ∷ b ∷ c ∷ d ∷ e ∷ f ∷ g ∷ more) h i = tt

fine_hex : (alpha : Decimal) (hex : Option (List ℕ)) → IsFromZeroToOne alpha → IfSome hex IsHex → AreFine (option_and_then (digits_color (byte_of alpha)) hex)
fine_hex alpha None h i = tt
fine_hex alpha (Some digits) h i = fine_digits (byte_of alpha) digits (byte_fits alpha h) i.lower

fine_colors : (c : Color) → IsColor c → AreFine (color_content c)
fine_colors c h = fine_or (if is_srgb c.space then component_color c else None) (option_and_then (digits_color (byte_of c.alpha)) c.hex)
    (fine_if (is_srgb c.space) (component_color c) (fine_srgb c h)) (fine_hex c.alpha c.hex h.alpha.part h.hex)

-- numbers
fine_size : (settings : Settings) (unit : List ℕ) (s : Size) → settings.rem_base < 2 ^ 8 → is_unit unit ≡ true → IsSize s → IsFine (size_content settings unit s)
fine_size settings unit s base is h = fine_dimen (scaled s.value (is_rem s.unit) settings.rem_base) unit (scaled_dec s.value (is_rem s.unit) settings.rem_base h base) is

whole_if : (a b : Bool) (n : ℤ) → is_some (if a && b then Some n else None) ≡ true → a ≡ true
whole_if true b n h = refl
whole_if false b n h = cc

fine_whole : (d : Decimal) → IsDec d → AreFine (whole_content d)
fine_whole d h = fine_if (is_some (whole_of d)) (Some (integer d)) (λ e. fine_integer d h (whole_if (d.s == 0) _ d.c e))

fine_milliseconds : (u : TimeUnit) (d : Decimal) → IsExact d → IsDec (milliseconds_in u d)
fine_milliseconds Ms d h = exact_dec d h
fine_milliseconds S d h = times_dec d 1000 h (omega arith)

-- families
plain_byte : (c : ℕ) → is_plain_char c ≡ true → no_markup c ≡ true
plain_byte c h = grind (arith, nat_tests)

words_plain : (b : Bool) (t : List ℕ) → words_from b t ≡ true → list_all no_markup t ≡ true
words_plain b [] h = refl
words_plain b (c ∷ t) h = at (λ x i. words_plain x t i) (c == 32) refl (is_plain_char c) refl b h
  where
    at : ((x : Bool) → words_from x t ≡ true → list_all no_markup t ≡ true) → (s : Bool) → (c == 32) ≡ s → (k : Bool) → is_plain_char c ≡ k → (b : Bool)
        → when_some (λ x. words_from x t) (if s then (if b then Some false else None) else (if k then Some true else None)) ≡ true → list_all no_markup (c ∷ t) ≡ true
    at again true e k f true h = let a : no_markup c ≡ true = grind (arith, nat_tests, e) in together (no_markup c) (list_all no_markup t) a (again false h)
    at again true e k f false h = cc
    at again false e true f b h = together (no_markup c) (list_all no_markup t) (plain_byte c f) (again true h)
    at again false e false f b h = cc

fine_family : (families : List (List ℕ)) → AreFine (family_content families)
fine_family [] = tt
fine_family (f ∷ fs) = fine_if (are_family_words f) (Some (string f)) (λ e. fine_string f (words_plain false f (sym (words_by_bytes f) ∙ e)))

fine_simple : (settings : Settings) (s : Simple) → settings.rem_base < 2 ^ 8 → IsSimple s → AreFine (simple_content settings s)
fine_simple settings (simple.Color c) base h = fine_colors c h
fine_simple settings (simple.Dimension s) base h = fine_size settings (codes "dp") s base refl h
fine_simple settings (simple.FontFamily families) base h = fine_family families
fine_simple settings (simple.FontWeight w) base h = fine_whole w (exact_dec w h.exact)
fine_simple settings (simple.Duration t) base h = fine_whole (milliseconds_in t.unit t.value) (fine_milliseconds t.unit t.value h)
fine_simple settings (simple.CubicBezier c) base h = tt
fine_simple settings (simple.Number d) base h = fine_item d (exact_dec d h)

-- values
spellable : (name : List ℕ) (c : Content) → is_identifier name ≡ true → IsFine c → IsSpellable (name, c)
spellable name c n h = record { named = n; plain = fine_plain h; says = fine_read h }

one_spellable : (name : List ℕ) (o : Option Content) → is_identifier name ≡ true → AreFine o → AllByRecursion IsSpellable (one_value name o)
one_spellable name None n h = tt
one_spellable name (Some c) n h = (spellable name c n h, tt)

ended : (name ending : List ℕ) → is_identifier name ≡ true → list_all (is_kept Android) ending ≡ true → is_identifier (name ++ ending) ≡ true
ended name ending n e = endings_stay Android name ending n e

five_spellable : (settings : Settings) (name : List ℕ) (t : Typography) (family weight : Option Content) → settings.rem_base < 2 ^ 8 → IsTypography t → is_identifier name ≡ true
    → AreFine family → AreFine weight → AllByRecursion IsSpellable (unless_omitted settings name t family weight)
five_spellable settings name t None weight base h n f w = tt
five_spellable settings name t (Some family) None base h n f w = tt
five_spellable settings name t (Some family) (Some weight) base h n f w = (
  spellable (name ++ family_end Android) family (ended name (family_end Android) n refl) f,
  (
    spellable (name ++ size_end Android) (size_content settings (codes "sp") t.size) (ended name (size_end Android) n refl) (fine_size settings (codes "sp") t.size base refl h.size),
    (
      spellable (name ++ weight_end Android) weight (ended name (weight_end Android) n refl) w,
      (
        spellable (name ++ spacing_end Android) (size_content settings (codes "dp") t.spacing) (ended name (spacing_end Android) n refl) (fine_size settings (codes "dp") t.spacing base refl h.spacing),
        (spellable (name ++ height_end Android) (item t.line_height) (ended name (height_end Android) n refl) (fine_item t.line_height (exact_dec t.line_height h.line_height)), tt),
      ),
    ),
  ),
)

pub values_spellable : (settings : Settings) (name : List ℕ) (v : Typed) → settings.rem_base < 2 ^ 8 → IsTyped v → is_identifier name ≡ true → AllByRecursion IsSpellable (android_values settings name v)
values_spellable settings name (typed.Simple s) base h n = one_spellable name (simple_content settings s) n (fine_simple settings s base h)
values_spellable settings name (typed.StrokeStyle s) base h n = tt
values_spellable settings name (typed.Border b) base h n = tt
values_spellable settings name (typed.Transition t) base h n = tt
values_spellable settings name (typed.Shadow items) base h n = tt
values_spellable settings name (typed.Gradient stops) base h n = tt
values_spellable settings name (typed.Typography t) base h n =
    five_spellable settings name t (family_content t.family) (whole_content t.weight) base h n (fine_family t.family) (fine_whole t.weight (exact_dec t.weight h.weight.exact))
