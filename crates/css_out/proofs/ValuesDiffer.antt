-- Where two values of one kind are to have the same in CSS, they are equal but for `hex`.
use Rattle.std.proofs.Common.{◌≡◌, ◌≢◌, ℕ, ◌*◌, ◌^◌, Bool, true, false, List, [], ◌∷◌, ◌++◌, map, flat_map, refl, sym, ◌∙◌, ap, subst, append_assoc, Option, Some, None, codes, inl, arith, ℤ, pos, negsuc}
use Rattle.std.specs.Prelude.{if◌then◌else◌, unsigned_abs, ◌*ℤ◌}
use Rattle.std.specs.FinMap.{int_cmp-IsAntisymmetric}
use Rattle.std.specs.List.{AllByRecursion}
use Rattle.std.specs.Ordering.{int_cmp, is_eq}
use Rattle.std.specs.Str.{bytes_eq}
use Rattle.std.specs.declared.cmp.Ordering.{Ordering}
use Rattle.std.specs.declared.cmp.Ordering.TheVariants.{Less, Equal, Greater}
use Rattle.std.proofs.lemmas.Int.{unsigned_abs-mul}
use Rattle.std.proofs.lemmas.List.{append_cancel_left, map-id}
use Rattle.std.proofs.Math.IntN.{pos-*ℤ-pos}
use Rattle.dec_fix.specs.Arithmetic.{order_with, times, whole_decimal}
use Rattle.dec_fix.specs.Decimal.{Decimal, IsExact, IsSameNumber, is_negative}
use Rattle.dec_fix.proofs.SameNumber.{same_once, same_through, same_from, times-same}
use Rattle.name_path.specs.Kinds.{is_simple_kind}
use Rattle.name_path.specs.declared.kind.Kind.{Kind}
use Rattle.name_path.specs.declared.kind.Kind.TheVariants as kind
use Rattle.type_rules.specs.Sound.{kind_of as simple_kind_of, IsColor, IsSimple, IsShare}
use Rattle.type_rules.specs.Words.{meaning, size_units, size_unit_name, time_units, time_unit_name, spaces}
use Rattle.type_rules.specs.declared.color.Color.{Color}
use Rattle.type_rules.specs.declared.curve.Curve.{Curve}
use Rattle.type_rules.specs.declared.simple.Simple.{Simple}
use Rattle.type_rules.specs.declared.simple.Simple.TheVariants as simple
use Rattle.type_rules.specs.declared.size.Size.{Size}
use Rattle.type_rules.specs.declared.size.SizeUnit.{SizeUnit}
use Rattle.type_rules.specs.declared.size.SizeUnit.TheVariants.{Px, Rem}
use Rattle.type_rules.specs.declared.space.Space.{Space}
use Rattle.type_rules.specs.declared.space.Space.TheVariants.{Srgb, SrgbLinear, DisplayP3, A98Rgb, ProphotoRgb, Rec2020, XyzD65, XyzD50, Hsl, Hwb, Lab, Lch, Oklab, Oklch}
use Rattle.type_rules.specs.declared.time.Time.{Time}
use Rattle.type_rules.specs.declared.time.TimeUnit.{TimeUnit}
use Rattle.type_rules.specs.declared.time.TimeUnit.TheVariants.{Ms, S}
use Rattle.composite_rules.specs.Sound.{kind_of, IsBorder, IsShadowItem, IsColorStop, IsTypography, IsTyped}
use Rattle.composite_rules.specs.Words.{stroke_words, stroke_word_name}
use Rattle.composite_rules.specs.declared.border.Border.{Border}
use Rattle.composite_rules.specs.declared.gradient.ColorStop.{ColorStop}
use Rattle.composite_rules.specs.declared.shadow.ShadowItem.{ShadowItem}
use Rattle.composite_rules.specs.declared.stroke.Stroke.{Stroke}
use Rattle.composite_rules.specs.declared.stroke.Stroke.TheVariants as stroke
use Rattle.composite_rules.specs.declared.stroke.StrokeWord.{StrokeWord}
use Rattle.composite_rules.specs.declared.stroke.StrokeWord.TheVariants.{Solid, Dashed, Dotted, Double, Groove, Ridge, Outset, Inset}
use Rattle.composite_rules.specs.declared.transition.Transition.{Transition}
use Rattle.composite_rules.specs.declared.typed.Typed.{Typed}
use Rattle.composite_rules.specs.declared.typed.Typed.TheVariants as typed
use Rattle.composite_rules.specs.declared.typography.Typography.{Typography}
use Rattle.css_out.specs.Piece.{Mark, number, unit, string, word, opens, closes, comma, slash, Values}
use Rattle.css_out.specs.PlatformValue.{size_marks, time_marks, number_marks, curve_marks, function_name, space_marks, has_percents, component_mark, component_marks, alpha_marks, color_marks, listed, is_generic, family_marks, families_marks, simple_marks, stroke_marks, border_marks, transition_marks, inset_marks, shadow_marks, position_mark, stop_marks, has_word, can_spell, all_values, css_values}
use Rattle.css_out.specs.WithoutHex.{color_without_hex, simple_without_hex, border_without_hex, item_without_hex, stop_without_hex, without_hex}

-- words by their names
size_unit_again : (u : SizeUnit) → meaning size_units (size_unit_name u) ≡ Some u
size_unit_again Px = refl
size_unit_again Rem = refl

time_unit_again : (u : TimeUnit) → meaning time_units (time_unit_name u) ≡ Some u
time_unit_again Ms = refl
time_unit_again S = refl

stroke_word_again : (w : StrokeWord) → meaning stroke_words (stroke_word_name w) ≡ Some w
stroke_word_again Solid = refl
stroke_word_again Dashed = refl
stroke_word_again Dotted = refl
stroke_word_again Double = refl
stroke_word_again Groove = refl
stroke_word_again Ridge = refl
stroke_word_again Outset = refl
stroke_word_again Inset = refl

size_units_once : (u v : SizeUnit) → size_unit_name u ≡ size_unit_name v → u ≡ v
size_units_once u v h = let some : Some u ≡ Some v = sym (size_unit_again u) ∙ ap (meaning size_units) h ∙ size_unit_again v in cc

time_units_once : (u v : TimeUnit) → time_unit_name u ≡ time_unit_name v → u ≡ v
time_units_once u v h = let some : Some u ≡ Some v = sym (time_unit_again u) ∙ ap (meaning time_units) h ∙ time_unit_again v in cc

stroke_words_once : (u v : StrokeWord) → stroke_word_name u ≡ stroke_word_name v → u ≡ v
stroke_words_once u v h = let some : Some u ≡ Some v = sym (stroke_word_again u) ∙ ap (meaning stroke_words) h ∙ stroke_word_again v in cc

-- lengths and times before other marks
sizes_once : (x y : Size) (ms ns : List Mark) → size_marks x ++ ms ≡ size_marks y ++ ns → (x ≡ y) × (ms ≡ ns)
sizes_once x y ms ns h =
    let value : x.value ≡ y.value = cc in
    let name : size_unit_name x.unit ≡ size_unit_name y.unit = cc in
    let more : ms ≡ ns = cc in
    let made : Decimal → SizeUnit → Size = λ d u. record { value = d; unit = u } in
    (ap (λ d. made d x.unit) value ∙ ap (made y.value) (size_units_once x.unit y.unit name), more)

times_once : (x y : Time) (ms ns : List Mark) → time_marks x ++ ms ≡ time_marks y ++ ns → (x ≡ y) × (ms ≡ ns)
times_once x y ms ns h =
    let value : x.value ≡ y.value = cc in
    let name : time_unit_name x.unit ≡ time_unit_name y.unit = cc in
    let more : ms ≡ ns = cc in
    let made : Decimal → TimeUnit → Time = λ d u. record { value = d; unit = u } in
    (ap (λ d. made d x.unit) value ∙ ap (made y.value) (time_units_once x.unit y.unit name), more)

curves_once : (x y : Curve) (ms ns : List Mark) → curve_marks x ++ ms ≡ curve_marks y ++ ns → (x ≡ y) × (ms ≡ ns)
curves_once x y ms ns h =
    let x1 : x.x1 ≡ y.x1 = cc in
    let y1 : x.y1 ≡ y.y1 = cc in
    let x2 : x.x2 ≡ y.x2 = cc in
    let y2 : x.y2 ≡ y.y2 = cc in
    let more : ms ≡ ns = cc in
    let made : Decimal → Decimal → Decimal → Decimal → Curve = λ a b c d. record { x1 = a; y1 = b; x2 = c; y2 = d } in
    (ap (λ d. made d x.y1 x.x2 x.y2) x1 ∙ ap (λ d. made y.x1 d x.x2 x.y2) y1 ∙ ap (λ d. made y.x1 y.y1 d x.y2) x2 ∙ ap (made y.x1 y.y1 y.x2) y2, more)

-- numbers
is_equal : (o : Ordering) → is_eq o ≡ true → o ≡ Equal
is_equal Less h = cc
is_equal Equal h = refl
is_equal Greater h = cc

-- a number that is 1 is so in one way
one_is : (d : Decimal) → IsExact d → is_eq (order_with d 1) ≡ true → d ≡ whole_decimal (pos 1)
one_is d h e =
    let size : d.c ≡ pos (1 * 10 ^ d.s) = int_cmp-IsAntisymmetric d.c (pos (1 * 10 ^ d.s)) (is_equal (order_with d 1) e) in
    let places : 1 * 10 ^ d.s * 1 ≡ 1 * 10 ^ d.s = omega arith in
    let same : IsSameNumber d (whole_decimal (pos 1)) = ap (λ c. c *ℤ pos 1) size ∙ pos-*ℤ-pos (1 * 10 ^ d.s) 1 ∙ ap pos places ∙ sym (pos-*ℤ-pos 1 (10 ^ d.s)) in
    same_once d (whole_decimal (pos 1)) h.short (inl refl) same

ones_once : (d e : Decimal) → IsExact d → IsExact e → is_eq (order_with d 1) ≡ true → is_eq (order_with e 1) ≡ true → d ≡ e
ones_once d e h i x y = one_is d h x ∙ sym (one_is e i y)

-- colours: the space, by the function and the word after it
abbrev word_space : List Mark → Option Space
word_space (word w ∷ ms) = meaning spaces w
word_space ms = None

abbrev marks_space : List Mark → Option Space
marks_space (opens w ∷ ms) = if bytes_eq w (codes "color") then word_space ms else meaning spaces w
marks_space ms = None

space_again : (s : Space) (ms : List Mark) → marks_space (opens (function_name s) ∷ (space_marks s ++ ms)) ≡ Some s
space_again Srgb ms = refl
space_again SrgbLinear ms = refl
space_again DisplayP3 ms = refl
space_again A98Rgb ms = refl
space_again ProphotoRgb ms = refl
space_again Rec2020 ms = refl
space_again XyzD65 ms = refl
space_again XyzD50 ms = refl
space_again Hsl ms = refl
space_again Hwb ms = refl
space_again Lab ms = refl
space_again Lch ms = refl
space_again Oklab ms = refl
space_again Oklch ms = refl

components_once : (b : Bool) (o p : Option Decimal) → component_mark b o ≡ component_mark b p → o ≡ p
components_once b None None h = refl
components_once true None (Some d) h = cc
components_once false None (Some d) h = cc
components_once true (Some d) None h = cc
components_once false (Some d) None h = cc
components_once true (Some d) (Some e) h = let same : d ≡ e = cc in ap (λ x. Some x) same
components_once false (Some d) (Some e) h = let same : d ≡ e = cc in ap (λ x. Some x) same

alpha_by : (p q : Bool) (a b : Decimal) (ms ns : List Mark) → (p ≡ true → q ≡ true → a ≡ b)
    → (if p then [] else slash ∷ number a ∷ []) ++ (closes ∷ ms) ≡ (if q then [] else slash ∷ number b ∷ []) ++ (closes ∷ ns) → (a ≡ b) × (ms ≡ ns)
alpha_by true true a b ms ns same h = let more : ms ≡ ns = cc in (same refl refl, more)
alpha_by true false a b ms ns same h = cc
alpha_by false true a b ms ns same h = cc
alpha_by false false a b ms ns same h = let one : a ≡ b = cc in let more : ms ≡ ns = cc in (one, more)

-- the marks of a colour before others, one after another
abbrev spread : Space → Option Decimal → Option Decimal → Option Decimal → Decimal → List Mark → List Mark
spread s x y z alpha ms =
    opens (function_name s) ∷ (space_marks s
    ++ (component_mark false x ∷ component_mark (has_percents s) y ∷ component_mark (has_percents s) z ∷ (alpha_marks alpha ++ (closes ∷ ms))))

color_spread : (c : Color) (ms : List Mark) → color_marks c ++ ms ≡ spread c.space c.first c.second c.third c.alpha ms
color_spread c ms =
    let alpha = alpha_marks c.alpha in
    ap (λ t. opens (function_name c.space) ∷ t)
    (append_assoc (space_marks c.space) (component_marks c ++ (alpha ++ closes ∷ [])) ms
    ∙ ap (λ t. space_marks c.space ++ (component_marks c ++ t)) (append_assoc alpha (closes ∷ []) ms))

record AreEqual (c d : Color) : Type 0 where
  first : c.first ≡ d.first
  second : c.second ≡ d.second
  third : c.third ≡ d.third
  alpha : c.alpha ≡ d.alpha

spread_once : (s : Space) (c d : Color) (ms ns : List Mark) → IsExact c.alpha → IsExact d.alpha
    → spread s c.first c.second c.third c.alpha ms ≡ spread s d.first d.second d.third d.alpha ns → AreEqual c d × (ms ≡ ns)
spread_once s c d ms ns h i e =
    let xs = component_mark false c.first ∷ component_mark (has_percents s) c.second ∷ component_mark (has_percents s) c.third ∷ (alpha_marks c.alpha ++ (closes ∷ ms)) in
    let ys = component_mark false d.first ∷ component_mark (has_percents s) d.second ∷ component_mark (has_percents s) d.third ∷ (alpha_marks d.alpha ++ (closes ∷ ns)) in
    let behind : space_marks s ++ xs ≡ space_marks s ++ ys = cc in
    let both : xs ≡ ys = append_cancel_left (space_marks s) xs ys behind in
    let first : component_mark false c.first ≡ component_mark false d.first = cc in
    let second : component_mark (has_percents s) c.second ≡ component_mark (has_percents s) d.second = cc in
    let third : component_mark (has_percents s) c.third ≡ component_mark (has_percents s) d.third = cc in
    let last : alpha_marks c.alpha ++ (closes ∷ ms) ≡ alpha_marks d.alpha ++ (closes ∷ ns) = cc in
    let alpha = alpha_by (is_eq (order_with c.alpha 1)) (is_eq (order_with d.alpha 1)) c.alpha d.alpha ms ns (ones_once c.alpha d.alpha h i) last in (
      record {
        first = components_once false c.first d.first first;
        second = components_once (has_percents s) c.second d.second second;
        third = components_once (has_percents s) c.third d.third third;
        alpha = alpha.0;
      },
      alpha.1,
    )

abbrev made_color : Space → Option Decimal → Option Decimal → Option Decimal → Decimal → Color
made_color s x y z alpha = record { space = s; first = x; second = y; third = z; alpha = alpha; hex = None }

same_color : (c d : Color) → c.space ≡ d.space → AreEqual c d → color_without_hex c ≡ color_without_hex d
same_color c d s h =
    ap (λ x. made_color x c.first c.second c.third c.alpha) s
    ∙ ap (λ x. made_color d.space x c.second c.third c.alpha) h.first
    ∙ ap (λ x. made_color d.space d.first x c.third c.alpha) h.second
    ∙ ap (λ x. made_color d.space d.first d.second x c.alpha) h.third
    ∙ ap (made_color d.space d.first d.second d.third) h.alpha

colors_once : (c d : Color) (ms ns : List Mark) → IsColor c → IsColor d → color_marks c ++ ms ≡ color_marks d ++ ns → (color_without_hex c ≡ color_without_hex d) × (ms ≡ ns)
colors_once c d ms ns h i e =
    let long : spread c.space c.first c.second c.third c.alpha ms ≡ spread d.space d.first d.second d.third d.alpha ns = sym (color_spread c ms) ∙ e ∙ color_spread d ns in
    let some : Some c.space ≡ Some d.space = sym (space_again c.space _) ∙ ap marks_space long ∙ space_again d.space _ in
    let space : c.space ≡ d.space = cc in
    let P : Space → Type 0 = λ s. spread c.space c.first c.second c.third c.alpha ms ≡ spread s d.first d.second d.third d.alpha ns in
    let (same, more) = spread_once c.space c d ms ns h.alpha.exact i.alpha.exact (subst P (sym space) long) in
    (same_color c d space same, more)

-- families
family_by : (p q : Bool) (f g : List ℕ) (ms ns : List Mark) → (if p then word f ∷ [] else string f ∷ []) ++ ms ≡ (if q then word g ∷ [] else string g ∷ []) ++ ns → (f ≡ g) × (ms ≡ ns)
family_by true true f g ms ns h = let one : f ≡ g = cc in let more : ms ≡ ns = cc in (one, more)
family_by true false f g ms ns h = cc
family_by false true f g ms ns h = cc
family_by false false f g ms ns h = let one : f ≡ g = cc in let more : ms ≡ ns = cc in (one, more)

-- lists with commas
module _ {A B : Type 0} (f : A → List Mark) (bare : A → B) (P : A → Type 0) (once : (x y : A) (ms ns : List Mark) → P x → P y → f x ++ ms ≡ f y ++ ns → (bare x ≡ bare y) × (ms ≡ ns)) where
  more_once : (xs ys : List A) → AllByRecursion P xs → AllByRecursion P ys → flat_map (λ y. comma ∷ f y) xs ≡ flat_map (λ y. comma ∷ f y) ys → map bare xs ≡ map bare ys
  more_once [] [] h i e = refl
  more_once [] (y ∷ ys) h i e = cc
  more_once (x ∷ xs) [] h i e = cc
  more_once (x ∷ xs) (y ∷ ys) h i e =
      let behind : f x ++ flat_map (λ z. comma ∷ f z) xs ≡ f y ++ flat_map (λ z. comma ∷ f z) ys = cc in
      let (one, others) = once x y (flat_map (λ z. comma ∷ f z) xs) (flat_map (λ z. comma ∷ f z) ys) h.0 i.0 behind in
      ap (λ b. b ∷ map bare xs) one ∙ ap (λ bs. bare y ∷ bs) (more_once xs ys h.1 i.1 others)

  listed_once : (xs ys : List A) → xs ≢ [] → ys ≢ [] → AllByRecursion P xs → AllByRecursion P ys → listed f xs ≡ listed f ys → map bare xs ≡ map bare ys
  listed_once [] ys some any h i e = absurd (some refl)
  listed_once (x ∷ xs) [] some any h i e = absurd (any refl)
  listed_once (x ∷ xs) (y ∷ ys) some any h i e =
      let (one, others) = once x y (flat_map (λ z. comma ∷ f z) xs) (flat_map (λ z. comma ∷ f z) ys) h.0 i.0 e in
      ap (λ b. b ∷ map bare xs) one ∙ ap (λ bs. bare y ∷ bs) (more_once xs ys h.1 i.1 others)

all_texts : (xs : List (List ℕ)) → AllByRecursion (λ x. Unit {0}) xs
all_texts [] = tt
all_texts (x ∷ xs) = (tt, all_texts xs)

families_once : (xs ys : List (List ℕ)) → xs ≢ [] → ys ≢ [] → families_marks xs ≡ families_marks ys → xs ≡ ys
families_once xs ys some any e =
    sym (map-id xs)
    ∙ listed_once family_marks (λ x. x) (λ x. Unit {0}) (λ x y ms ns h i. family_by (is_generic x) (is_generic y) x y ms ns) xs ys some any (all_texts xs) (all_texts ys) e
    ∙ map-id ys

-- values of simple kinds
simples_once : (s t : Simple) → IsSimple s → IsSimple t → simple_kind_of s ≡ simple_kind_of t → simple_marks s ≡ simple_marks t → simple_without_hex s ≡ simple_without_hex t
simples_once (simple.Color c) (simple.Color d) h i k e =
    ap simple.Color (colors_once c d [] [] h i (ap (λ ms. ms ++ []) e)).0
simples_once (simple.Dimension s) (simple.Dimension t) h i k e = ap simple.Dimension (sizes_once s t [] [] e).0
simples_once (simple.FontFamily fs) (simple.FontFamily gs) h i k e = ap simple.FontFamily (families_once fs gs h i e)
simples_once (simple.FontWeight v) (simple.FontWeight w) h i k e = let same : v ≡ w = cc in ap simple.FontWeight same
simples_once (simple.Duration s) (simple.Duration t) h i k e = ap simple.Duration (times_once s t [] [] e).0
simples_once (simple.CubicBezier c) (simple.CubicBezier d) h i k e = ap simple.CubicBezier (curves_once c d [] [] e).0
simples_once (simple.Number d) (simple.Number f) h i k e = let same : d ≡ f = cc in ap simple.Number same
simples_once s t h i k e = cc

-- borders and transitions
strokes_once : (s t : Stroke) (ms ns : List Mark) → has_word s ≡ true → has_word t ≡ true → stroke_marks s ++ ms ≡ stroke_marks t ++ ns → (s ≡ t) × (ms ≡ ns)
strokes_once (stroke.Word v) (stroke.Word w) ms ns h i e =
    let name : stroke_word_name v ≡ stroke_word_name w = cc in let more : ms ≡ ns = cc in (ap stroke.Word (stroke_words_once v w name), more)
strokes_once (stroke.Word v) (stroke.Dashes lengths cap) ms ns h i e = cc
strokes_once (stroke.Dashes lengths cap) t ms ns h i e = cc

borders_once : (x y : Border) → IsBorder x → IsBorder y → has_word x.style ≡ true → has_word y.style ≡ true → border_marks x ≡ border_marks y → border_without_hex x ≡ border_without_hex y
borders_once x y h i s t e =
    let (width, behind) = sizes_once x.width y.width (stroke_marks x.style ++ color_marks x.color) (stroke_marks y.style ++ color_marks y.color) e in
    let (style, last) = strokes_once x.style y.style (color_marks x.color) (color_marks y.color) s t behind in
    let color = (colors_once x.color y.color [] [] h.color i.color (ap (λ ms. ms ++ []) last)).0 in
    let made : Color → Size → Stroke → Border = λ a b c. record { color = a; width = b; style = c } in
    ap (λ a. made a x.width x.style) color ∙ ap (λ b. made (color_without_hex y.color) b x.style) width ∙ ap (made (color_without_hex y.color) y.width) style

transitions_once : (x y : Transition) → transition_marks x ≡ transition_marks y → x ≡ y
transitions_once x y e =
    let (duration, behind) = times_once x.duration y.duration (curve_marks x.timing ++ time_marks x.delay) (curve_marks y.timing ++ time_marks y.delay) e in
    let (timing, last) = curves_once x.timing y.timing (time_marks x.delay) (time_marks y.delay) behind in
    let delay = (times_once x.delay y.delay [] [] last).0 in
    let made : Time → Time → Curve → Transition = λ a b c. record { duration = a; delay = b; timing = c } in
    ap (λ a. made a x.delay x.timing) duration ∙ ap (λ b. made y.duration b x.timing) delay ∙ ap (made y.duration y.delay) timing

-- shadows
inset_once : (b c : Bool) (v w : Decimal) (u t : List ℕ) (ms ns : List Mark) → inset_marks b ++ (unit v u ∷ ms) ≡ inset_marks c ++ (unit w t ∷ ns) → (b ≡ c) × (unit v u ∷ ms ≡ unit w t ∷ ns)
inset_once true true v w u t ms ns h = let more : unit v u ∷ ms ≡ unit w t ∷ ns = cc in (refl, more)
inset_once true false v w u t ms ns h = cc
inset_once false true v w u t ms ns h = cc
inset_once false false v w u t ms ns h = (refl, h)

abbrev behind_inset : ShadowItem → List Mark → List Mark
behind_inset i ms = size_marks i.offset_x ++ (size_marks i.offset_y ++ (size_marks i.blur ++ (size_marks i.spread ++ (color_marks i.color ++ ms))))

shadow_spread : (i : ShadowItem) (ms : List Mark) → shadow_marks i ++ ms ≡ inset_marks i.inset ++ behind_inset i ms
shadow_spread i ms = append_assoc (inset_marks i.inset) (size_marks i.offset_x ++ (size_marks i.offset_y ++ (size_marks i.blur ++ (size_marks i.spread ++ color_marks i.color)))) ms

abbrev made_item : Color → Size → Size → Size → Size → Bool → ShadowItem
made_item c x y b s i = record { color = c; offset_x = x; offset_y = y; blur = b; spread = s; inset = i }

items_once : (x y : ShadowItem) (ms ns : List Mark) → IsShadowItem x → IsShadowItem y → shadow_marks x ++ ms ≡ shadow_marks y ++ ns → (item_without_hex x ≡ item_without_hex y) × (ms ≡ ns)
items_once x y ms ns h i e =
    let long : inset_marks x.inset ++ behind_inset x ms ≡ inset_marks y.inset ++ behind_inset y ns = sym (shadow_spread x ms) ∙ e ∙ shadow_spread y ns in
    let (inset, a) = inset_once x.inset y.inset x.offset_x.value y.offset_x.value (size_unit_name x.offset_x.unit) (size_unit_name y.offset_x.unit) _ _ long in
    let (offset_x, b) = sizes_once x.offset_x y.offset_x (size_marks x.offset_y ++ (size_marks x.blur ++ (size_marks x.spread ++ (color_marks x.color ++ ms))))
    (size_marks y.offset_y ++ (size_marks y.blur ++ (size_marks y.spread ++ (color_marks y.color ++ ns)))) a in
    let (offset_y, c) = sizes_once x.offset_y y.offset_y (size_marks x.blur ++ (size_marks x.spread ++ (color_marks x.color ++ ms))) (size_marks y.blur ++ (size_marks y.spread ++ (color_marks y.color ++ ns))) b in
    let (blur, d) = sizes_once x.blur y.blur (size_marks x.spread ++ (color_marks x.color ++ ms)) (size_marks y.spread ++ (color_marks y.color ++ ns)) c in
    let (far, f) = sizes_once x.spread y.spread (color_marks x.color ++ ms) (color_marks y.color ++ ns) d in
    let (color, more) = colors_once x.color y.color ms ns h.color i.color f in
    let bare = color_without_hex y.color in (
      ap (λ z. made_item z x.offset_x x.offset_y x.blur x.spread x.inset) color
          ∙ ap (λ z. made_item bare z x.offset_y x.blur x.spread x.inset) offset_x
          ∙ ap (λ z. made_item bare y.offset_x z x.blur x.spread x.inset) offset_y
          ∙ ap (λ z. made_item bare y.offset_x y.offset_y z x.spread x.inset) blur
          ∙ ap (λ z. made_item bare y.offset_x y.offset_y y.blur z x.inset) far
          ∙ ap (made_item bare y.offset_x y.offset_y y.blur y.spread) inset,
      more,
    )

-- gradients
hundred : (a b x y : ℕ) → a * 100 * x ≡ b * 100 * y → a * x ≡ b * y
hundred a b x y h = omega arith

not_negative : (c : ℤ) (s : ℕ) → int_cmp c (pos (0 * 10 ^ s)) ≢ Less → is_negative c ≡ false
not_negative (pos n) s h = refl
not_negative (negsuc n) s h = absurd (h refl)

shares_alike : (d e : Decimal) → IsExact d → IsExact e → is_negative d.c ≡ is_negative e.c → times d 100 ≡ times e 100 → d ≡ e
shares_alike d e h i signs same =
    let a : Decimal = record { c = d.c *ℤ pos 100; s = d.s } in
    let b : Decimal = record { c = e.c *ℤ pos 100; s = e.s } in
    let P : Decimal → Type 0 = λ x. IsSameNumber x b in
    let left : IsSameNumber a (times d 100) = sym (times-same d 100) in
    let right : IsSameNumber (times d 100) b = subst P (sym same) (times-same e 100) in
    let one : IsSameNumber a b = same_through a b (times d 100) left (sym right) in
    let sizes : unsigned_abs (d.c *ℤ pos 100) * 10 ^ e.s ≡ unsigned_abs (e.c *ℤ pos 100) * 10 ^ d.s =
    sym (unsigned_abs-mul (d.c *ℤ pos 100) (pos (10 ^ e.s))) ∙ ap unsigned_abs one ∙ unsigned_abs-mul (e.c *ℤ pos 100) (pos (10 ^ d.s)) in
    let left_size : unsigned_abs (d.c *ℤ pos 100) ≡ unsigned_abs d.c * 100 = unsigned_abs-mul d.c (pos 100) in
    let right_size : unsigned_abs (e.c *ℤ pos 100) ≡ unsigned_abs e.c * 100 = unsigned_abs-mul e.c (pos 100) in
    let hundreds : unsigned_abs d.c * 100 * 10 ^ e.s ≡ unsigned_abs e.c * 100 * 10 ^ d.s =
    ap (λ n. n * 10 ^ e.s) (sym left_size) ∙ sizes ∙ ap (λ n. n * 10 ^ d.s) right_size in
    same_once d e h.short i.short (same_from d e (hundred (unsigned_abs d.c) (unsigned_abs e.c) (10 ^ e.s) (10 ^ d.s) hundreds) signs)

shares_once : (d e : Decimal) → IsShare d → IsShare e → times d 100 ≡ times e 100 → d ≡ e
shares_once d e h i same = shares_alike d e h.exact i.exact (not_negative d.c d.s h.part.low ∙ sym (not_negative e.c e.s i.part.low)) same

stops_once : (x y : ColorStop) (ms ns : List Mark) → IsColorStop x → IsColorStop y → stop_marks x ++ ms ≡ stop_marks y ++ ns → (stop_without_hex x ≡ stop_without_hex y) × (ms ≡ ns)
stops_once x y ms ns h i e =
    let long : color_marks x.color ++ (position_mark x.position ∷ ms) ≡ color_marks y.color ++ (position_mark y.position ∷ ns) =
    sym (append_assoc (color_marks x.color) (position_mark x.position ∷ []) ms) ∙ e ∙ append_assoc (color_marks y.color) (position_mark y.position ∷ []) ns in
    let (color, behind) = colors_once x.color y.color (position_mark x.position ∷ ms) (position_mark y.position ∷ ns) h.color i.color long in
    let share : times x.position 100 ≡ times y.position 100 = cc in
    let more : ms ≡ ns = cc in
    let made : Color → Decimal → ColorStop = λ c d. record { color = c; position = d } in
    (ap (λ c. made c x.position) color ∙ ap (made (color_without_hex y.color)) (shares_once x.position y.position h.position i.position share), more)

-- values by their names
first_value : (p q : List ℕ × List Mark) (ps qs : Values) → p ∷ ps ≡ q ∷ qs → (p.1 ≡ q.1) × (ps ≡ qs)
first_value p q ps qs h = let one : p ≡ q = cc in let more : ps ≡ qs = cc in (ap (λ v. v.1) one, more)

abbrev single : List ℕ → List Mark → Values
single name ms = (name, ms) ∷ []

one_value : (name : List ℕ) (ms ns : List Mark) → single name ms ≡ single name ns → ms ≡ ns
one_value name ms ns h = (first_value (name, ms) (name, ns) [] [] h).0

-- typographies
numbers_once : (d e : Decimal) → number_marks d ≡ number_marks e → d ≡ e
numbers_once d e h = cc

typographies_once : (name : List ℕ) (x y : Typography) → IsTypography x → IsTypography y → all_values name (typed.Typography x) ≡ all_values name (typed.Typography y) → x ≡ y
typographies_once name x y h i e =
    let (families, a) = first_value _ _ _ _ e in
    let (sizes, b) = first_value _ _ _ _ a in
    let (weights, c) = first_value _ _ _ _ b in
    let (spacings, d) = first_value _ _ _ _ c in
    let (heights, none) = first_value _ _ _ _ d in
    let weight : x.weight ≡ y.weight = numbers_once x.weight y.weight weights in
    let height : x.line_height ≡ y.line_height = numbers_once x.line_height y.line_height heights in
    let family = families_once x.family y.family h.family i.family families in
    let size = (sizes_once x.size y.size [] [] sizes).0 in
    let spacing = (sizes_once x.spacing y.spacing [] [] spacings).0 in
    let made : List (List ℕ) → Size → Decimal → Size → Decimal → Typography = λ a b c d f. record { family = a; size = b; weight = c; spacing = d; line_height = f } in
    ap (λ z. made z x.size x.weight x.spacing x.line_height) family
    ∙ ap (λ z. made y.family z x.weight x.spacing x.line_height) size
    ∙ ap (λ z. made y.family y.size z x.spacing x.line_height) weight
    ∙ ap (λ z. made y.family y.size y.weight z x.line_height) spacing
    ∙ ap (made y.family y.size y.weight y.spacing) height

-- all kinds
simple_is : (s : Simple) → is_simple_kind (simple_kind_of s) ≡ true
simple_is (simple.Color c) = refl
simple_is (simple.Dimension s) = refl
simple_is (simple.FontFamily fs) = refl
simple_is (simple.FontWeight w) = refl
simple_is (simple.Duration t) = refl
simple_is (simple.CubicBezier c) = refl
simple_is (simple.Number d) = refl

simple_not : (s : Simple) (k : Kind) → simple_kind_of s ≡ k → is_simple_kind k ≡ false → ⊥
simple_not s k e h = let yes : is_simple_kind k ≡ true = subst (λ j. is_simple_kind j ≡ true) e (simple_is s) in cc

all_once : (name : List ℕ) (v w : Typed) → IsTyped v → IsTyped w → kind_of v ≡ kind_of w → can_spell v ≡ true → can_spell w ≡ true → all_values name v ≡ all_values name w → without_hex v ≡ without_hex w
all_once name (typed.Simple s) (typed.Simple t) h i k a b e = ap typed.Simple (simples_once s t h i k (one_value name (simple_marks s) (simple_marks t) e))
all_once name (typed.StrokeStyle s) (typed.StrokeStyle t) h i k a b e =
    ap typed.StrokeStyle (strokes_once s t [] [] a b (ap (λ ms. ms ++ []) (one_value name (stroke_marks s) (stroke_marks t) e))).0
all_once name (typed.Border x) (typed.Border y) h i k a b e = ap typed.Border (borders_once x y h i a b (one_value name (border_marks x) (border_marks y) e))
all_once name (typed.Transition x) (typed.Transition y) h i k a b e = ap typed.Transition (transitions_once x y (one_value name (transition_marks x) (transition_marks y) e))
all_once name (typed.Shadow xs) (typed.Shadow ys) h i k a b e =
    ap typed.Shadow (listed_once shadow_marks item_without_hex IsShadowItem items_once xs ys h.some i.some h.every i.every (one_value name (listed shadow_marks xs) (listed shadow_marks ys) e))
all_once name (typed.Gradient xs) (typed.Gradient ys) h i k a b e =
    ap typed.Gradient (listed_once stop_marks stop_without_hex IsColorStop stops_once xs ys h.some i.some h.every i.every (one_value name (listed stop_marks xs) (listed stop_marks ys) e))
all_once name (typed.Typography x) (typed.Typography y) h i k a b e = ap typed.Typography (typographies_once name x y h i e)
all_once name (typed.Simple s) (typed.StrokeStyle t) h i k a b e = absurd (simple_not s kind.StrokeStyle k refl)
all_once name (typed.Simple s) (typed.Border y) h i k a b e = absurd (simple_not s kind.Border k refl)
all_once name (typed.Simple s) (typed.Transition y) h i k a b e = absurd (simple_not s kind.Transition k refl)
all_once name (typed.Simple s) (typed.Shadow ys) h i k a b e = absurd (simple_not s kind.Shadow k refl)
all_once name (typed.Simple s) (typed.Gradient ys) h i k a b e = absurd (simple_not s kind.Gradient k refl)
all_once name (typed.Simple s) (typed.Typography y) h i k a b e = absurd (simple_not s kind.Typography k refl)
all_once name (typed.StrokeStyle s) (typed.Simple t) h i k a b e = absurd (simple_not t kind.StrokeStyle (sym k) refl)
all_once name (typed.Border x) (typed.Simple t) h i k a b e = absurd (simple_not t kind.Border (sym k) refl)
all_once name (typed.Transition x) (typed.Simple t) h i k a b e = absurd (simple_not t kind.Transition (sym k) refl)
all_once name (typed.Shadow xs) (typed.Simple t) h i k a b e = absurd (simple_not t kind.Shadow (sym k) refl)
all_once name (typed.Gradient xs) (typed.Simple t) h i k a b e = absurd (simple_not t kind.Gradient (sym k) refl)
all_once name (typed.Typography x) (typed.Simple t) h i k a b e = absurd (simple_not t kind.Typography (sym k) refl)
all_once name v w h i k a b e = cc

some_values : (name : List ℕ) (v : Typed) → all_values name v ≢ []
some_values name (typed.Simple s) h = cc
some_values name (typed.StrokeStyle s) h = cc
some_values name (typed.Border b) h = cc
some_values name (typed.Transition t) h = cc
some_values name (typed.Shadow items) h = cc
some_values name (typed.Gradient stops) h = cc
some_values name (typed.Typography t) h = cc

both_spelled : (p q : Bool) (vs ws : Values) → p ≡ true → vs ≢ [] → (if p then vs else []) ≡ (if q then ws else []) → (q ≡ true) × (vs ≡ ws)
both_spelled true true vs ws h some e = (refl, e)
both_spelled true false vs ws h some e = absurd (some e)
both_spelled false q vs ws h some e = cc

pub equal_values : (name : List ℕ) (v w : Typed) → IsTyped v → IsTyped w → kind_of v ≡ kind_of w → can_spell v ≡ true → css_values name v ≡ css_values name w → without_hex v ≡ without_hex w
equal_values name v w h i k a e =
    let both = both_spelled (can_spell v) (can_spell w) (all_values name v) (all_values name w) a (some_values name v) e in
    all_once name v w h i k a both.0 both.1
