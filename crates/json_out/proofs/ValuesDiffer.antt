-- Values of one kind whose JSON values are equal are equal.
use Rattle.std.proofs.Common.{◌≡◌, ℕ, true, false, List, [], ◌∷◌, map, Option, Some, None, refl, sym, ap, ◌∙◌, subst}
use Rattle.dec_fix.specs.Decimal.{Decimal}
use Rattle.json_span.specs.Plain.{Plains, no_plains, plain_null, plain_boolean, plain_number, plain_string, plain_array, plain_object, plain_members_of, plains_of}
use Rattle.name_path.specs.Kinds.{is_simple_kind}
use Rattle.name_path.specs.declared.kind.Kind.{Kind}
use Rattle.name_path.specs.declared.kind.Kind.TheVariants as kind
use Rattle.type_rules.specs.Sound.{kind_of as simple_kind_of}
use Rattle.type_rules.specs.Words.{meaning, size_units, size_unit_name, time_units, time_unit_name, spaces, space_name}
use Rattle.type_rules.specs.declared.color.Color.{Color}
use Rattle.type_rules.specs.declared.curve.Curve.{Curve}
use Rattle.type_rules.specs.declared.simple.Simple.{Simple}
use Rattle.type_rules.specs.declared.simple.Simple.TheVariants as simple
use Rattle.type_rules.specs.declared.size.Size.{Size}
use Rattle.type_rules.specs.declared.size.SizeUnit.{SizeUnit}
use Rattle.type_rules.specs.declared.size.SizeUnit.TheVariants.{Px, Rem}
use Rattle.type_rules.specs.declared.space.Space.{Space}
use Rattle.type_rules.specs.declared.space.Space.TheVariants.{Srgb, SrgbLinear, DisplayP3, A98Rgb, ProphotoRgb, Rec2020, XyzD65, XyzD50, Hsl, Hwb, Lab, Lch, Oklab, Oklch}
use Rattle.type_rules.specs.declared.time.Time.{Time}
use Rattle.type_rules.specs.declared.time.TimeUnit.{TimeUnit}
use Rattle.type_rules.specs.declared.time.TimeUnit.TheVariants.{Ms, S}
use Rattle.composite_rules.specs.Sound.{kind_of}
use Rattle.composite_rules.specs.Words.{stroke_words, stroke_word_name, caps, cap_name}
use Rattle.composite_rules.specs.declared.border.Border.{Border}
use Rattle.composite_rules.specs.declared.gradient.ColorStop.{ColorStop}
use Rattle.composite_rules.specs.declared.shadow.ShadowItem.{ShadowItem}
use Rattle.composite_rules.specs.declared.stroke.Cap.{Cap}
use Rattle.composite_rules.specs.declared.stroke.Cap.TheVariants.{Round, Butt, Square}
use Rattle.composite_rules.specs.declared.stroke.Stroke.{Stroke}
use Rattle.composite_rules.specs.declared.stroke.Stroke.TheVariants as stroke
use Rattle.composite_rules.specs.declared.stroke.StrokeWord.{StrokeWord}
use Rattle.composite_rules.specs.declared.stroke.StrokeWord.TheVariants.{Solid, Dashed, Dotted, Double, Groove, Ridge, Outset, Inset}
use Rattle.composite_rules.specs.declared.transition.Transition.{Transition}
use Rattle.composite_rules.specs.declared.typed.Typed.{Typed}
use Rattle.composite_rules.specs.declared.typed.Typed.TheVariants as typed
use Rattle.composite_rules.specs.declared.typography.Typography.{Typography}
use Rattle.json_out.specs.PlatformValue.{Json, component_json, hex_members, size_json, time_json, curve_json, color_json, families_json, stroke_json, border_json, transition_json, shadow_json, stop_json, typography_json, simple_json, typed_json}

-- words by their names
size_unit_again : (u : SizeUnit) → meaning size_units (size_unit_name u) ≡ Some u
size_unit_again Px = refl
size_unit_again Rem = refl

time_unit_again : (u : TimeUnit) → meaning time_units (time_unit_name u) ≡ Some u
time_unit_again Ms = refl
time_unit_again S = refl

cap_again : (c : Cap) → meaning caps (cap_name c) ≡ Some c
cap_again Round = refl
cap_again Butt = refl
cap_again Square = refl

stroke_word_again : (w : StrokeWord) → meaning stroke_words (stroke_word_name w) ≡ Some w
stroke_word_again Solid = refl
stroke_word_again Dashed = refl
stroke_word_again Dotted = refl
stroke_word_again Double = refl
stroke_word_again Groove = refl
stroke_word_again Ridge = refl
stroke_word_again Outset = refl
stroke_word_again Inset = refl

space_again : (s : Space) → meaning spaces (space_name s) ≡ Some s
space_again Srgb = refl
space_again SrgbLinear = refl
space_again DisplayP3 = refl
space_again A98Rgb = refl
space_again ProphotoRgb = refl
space_again Rec2020 = refl
space_again XyzD65 = refl
space_again XyzD50 = refl
space_again Hsl = refl
space_again Hwb = refl
space_again Lab = refl
space_again Lch = refl
space_again Oklab = refl
space_again Oklch = refl

-- a name that a table gives back is the name of one word
once : {A : Type 0} (table : List (List ℕ × A)) (name : A → List ℕ) → ((x : A) → meaning table (name x) ≡ Some x) → (x y : A) → name x ≡ name y → x ≡ y
once table name again x y e = let f : Some x ≡ Some y = sym (again x) ∙ ap (meaning table) e ∙ again y in cc

-- parts
one_size : (s t : Size) → size_json s ≡ size_json t → s ≡ t
one_size s t e =
    let v : s.value ≡ t.value = cc in
    let n : size_unit_name s.unit ≡ size_unit_name t.unit = cc in
    let u = once size_units size_unit_name size_unit_again s.unit t.unit n in
    λ i. record { value = v i; unit = u i }

one_time : (s t : Time) → time_json s ≡ time_json t → s ≡ t
one_time s t e =
    let v : s.value ≡ t.value = cc in
    let n : time_unit_name s.unit ≡ time_unit_name t.unit = cc in
    let u = once time_units time_unit_name time_unit_again s.unit t.unit n in
    λ i. record { value = v i; unit = u i }

one_curve : (c d : Curve) → curve_json c ≡ curve_json d → c ≡ d
one_curve c d e =
    let a : c.x1 ≡ d.x1 = cc in
    let b : c.y1 ≡ d.y1 = cc in
    let x : c.x2 ≡ d.x2 = cc in
    let y : c.y2 ≡ d.y2 = cc in
    λ i. record { x1 = a i; y1 = b i; x2 = x i; y2 = y i }

one_component : (c d : Option Decimal) → component_json c ≡ component_json d → c ≡ d
one_component None None e = refl
one_component None (Some d) e = cc
one_component (Some c) None e = cc
one_component (Some c) (Some d) e = cc

one_hex : (h k : Option (List ℕ)) → plain_members_of (hex_members h) ≡ plain_members_of (hex_members k) → h ≡ k
one_hex None None e = refl
one_hex None (Some k) e = cc
one_hex (Some h) None e = cc
one_hex (Some h) (Some k) e = cc

one_color : (c d : Color) → color_json c ≡ color_json d → c ≡ d
one_color c d e =
    let n : space_name c.space ≡ space_name d.space = cc in
    let a : component_json c.first ≡ component_json d.first = cc in
    let b : component_json c.second ≡ component_json d.second = cc in
    let x : component_json c.third ≡ component_json d.third = cc in
    let y : c.alpha ≡ d.alpha = cc in
    let z : plain_members_of (hex_members c.hex) ≡ plain_members_of (hex_members d.hex) = cc in
    let space = once spaces space_name space_again c.space d.space n in
    let first = one_component c.first d.first a in
    let second = one_component c.second d.second b in
    let third = one_component c.third d.third x in
    let hex = one_hex c.hex d.hex z in
    λ i. record { space = space i; first = first i; second = second i; third = third i; alpha = y i; hex = hex i }

one_list : {A : Type 0} (f : A → Json) → ((x y : A) → f x ≡ f y → x ≡ y) → (xs ys : List A) → plains_of (map f xs) ≡ plains_of (map f ys) → xs ≡ ys
one_list f g [] [] e = refl
one_list f g [] (y ∷ ys) e = cc
one_list f g (x ∷ xs) [] e = cc
one_list f g (x ∷ xs) (y ∷ ys) e =
    let h : f x ≡ f y = cc in
    let k : plains_of (map f xs) ≡ plains_of (map f ys) = cc in
    let p = g x y h in
    let q = one_list f g xs ys k in
    λ i. p i ∷ q i

abbrev text_json : List ℕ → Json
text_json s = plain_string s

abbrev items_in : Json → Plains Decimal
items_in (plain_array vs) = vs
items_in plain_null = no_plains
items_in (plain_boolean b) = no_plains
items_in (plain_number d) = no_plains
items_in (plain_string s) = no_plains
items_in (plain_object ms) = no_plains

one_text : (s t : List ℕ) → text_json s ≡ text_json t → s ≡ t
one_text s t e = cc

one_family : (fs gs : List (List ℕ)) → families_json fs ≡ families_json gs → fs ≡ gs
one_family fs gs e = one_list text_json one_text fs gs (ap items_in e)

-- values
simple_is : (s : Simple) → is_simple_kind (simple_kind_of s) ≡ true
simple_is (simple.Color c) = refl
simple_is (simple.Dimension s) = refl
simple_is (simple.FontFamily fs) = refl
simple_is (simple.FontWeight w) = refl
simple_is (simple.Duration t) = refl
simple_is (simple.CubicBezier c) = refl
simple_is (simple.Number d) = refl

simple_not : (s : Simple) (k : Kind) → simple_kind_of s ≡ k → is_simple_kind k ≡ false → ⊥
simple_not s k e h = let yes : is_simple_kind k ≡ true = subst (λ j. is_simple_kind j ≡ true) e (simple_is s) in cc

one_simple : (s t : Simple) → simple_kind_of s ≡ simple_kind_of t → simple_json s ≡ simple_json t → s ≡ t
one_simple (simple.Color c) (simple.Color d) k e = ap simple.Color (one_color c d e)
one_simple (simple.Dimension s) (simple.Dimension t) k e = ap simple.Dimension (one_size s t e)
one_simple (simple.FontFamily fs) (simple.FontFamily gs) k e = ap simple.FontFamily (one_family fs gs e)
one_simple (simple.FontWeight w) (simple.FontWeight x) k e = cc
one_simple (simple.Duration s) (simple.Duration t) k e = ap simple.Duration (one_time s t e)
one_simple (simple.CubicBezier c) (simple.CubicBezier d) k e = ap simple.CubicBezier (one_curve c d e)
one_simple (simple.Number d) (simple.Number c) k e = cc
one_simple s t k e = cc

one_stroke : (s t : Stroke) → stroke_json s ≡ stroke_json t → s ≡ t
one_stroke (stroke.Word v) (stroke.Word w) e =
    let n : stroke_word_name v ≡ stroke_word_name w = cc in
    ap stroke.Word (once stroke_words stroke_word_name stroke_word_again v w n)
one_stroke (stroke.Word v) (stroke.Dashes lengths cap) e = cc
one_stroke (stroke.Dashes lengths cap) (stroke.Word w) e = cc
one_stroke (stroke.Dashes ss c) (stroke.Dashes ts d) e =
    let k : plains_of (map size_json ss) ≡ plains_of (map size_json ts) = cc in
    let n : cap_name c ≡ cap_name d = cc in
    let p = one_list size_json one_size ss ts k in
    let q = once caps cap_name cap_again c d n in
    λ i. stroke.Dashes (p i) (q i)

one_border : (a b : Border) → border_json a ≡ border_json b → a ≡ b
one_border a b e =
    let c : color_json a.color ≡ color_json b.color = cc in
    let w : size_json a.width ≡ size_json b.width = cc in
    let s : stroke_json a.style ≡ stroke_json b.style = cc in
    let color = one_color a.color b.color c in
    let width = one_size a.width b.width w in
    let style = one_stroke a.style b.style s in
    λ i. record { color = color i; width = width i; style = style i }

one_transition : (a b : Transition) → transition_json a ≡ transition_json b → a ≡ b
one_transition a b e =
    let d : time_json a.duration ≡ time_json b.duration = cc in
    let w : time_json a.delay ≡ time_json b.delay = cc in
    let t : curve_json a.timing ≡ curve_json b.timing = cc in
    let duration = one_time a.duration b.duration d in
    let delay = one_time a.delay b.delay w in
    let timing = one_curve a.timing b.timing t in
    λ i. record { duration = duration i; delay = delay i; timing = timing i }

one_shadow : (a b : ShadowItem) → shadow_json a ≡ shadow_json b → a ≡ b
one_shadow a b e =
    let c : color_json a.color ≡ color_json b.color = cc in
    let x : size_json a.offset_x ≡ size_json b.offset_x = cc in
    let y : size_json a.offset_y ≡ size_json b.offset_y = cc in
    let u : size_json a.blur ≡ size_json b.blur = cc in
    let v : size_json a.spread ≡ size_json b.spread = cc in
    let inset : a.inset ≡ b.inset = cc in
    let color = one_color a.color b.color c in
    let offset_x = one_size a.offset_x b.offset_x x in
    let offset_y = one_size a.offset_y b.offset_y y in
    let blur = one_size a.blur b.blur u in
    let spread = one_size a.spread b.spread v in
    λ i. record { color = color i; offset_x = offset_x i; offset_y = offset_y i; blur = blur i; spread = spread i; inset = inset i }

one_stop : (a b : ColorStop) → stop_json a ≡ stop_json b → a ≡ b
one_stop a b e =
    let c : color_json a.color ≡ color_json b.color = cc in
    let p : a.position ≡ b.position = cc in
    let color = one_color a.color b.color c in
    λ i. record { color = color i; position = p i }

one_typography : (a b : Typography) → typography_json a ≡ typography_json b → a ≡ b
one_typography a b e =
    let f : families_json a.family ≡ families_json b.family = cc in
    let s : size_json a.size ≡ size_json b.size = cc in
    let w : a.weight ≡ b.weight = cc in
    let l : size_json a.spacing ≡ size_json b.spacing = cc in
    let h : a.line_height ≡ b.line_height = cc in
    let family = one_family a.family b.family f in
    let size = one_size a.size b.size s in
    let spacing = one_size a.spacing b.spacing l in
    λ i. record { family = family i; size = size i; weight = w i; spacing = spacing i; line_height = h i }

pub one_typed : (v w : Typed) → kind_of v ≡ kind_of w → typed_json v ≡ typed_json w → v ≡ w
one_typed (typed.Simple s) (typed.Simple t) k e = ap typed.Simple (one_simple s t k e)
one_typed (typed.StrokeStyle s) (typed.StrokeStyle t) k e = ap typed.StrokeStyle (one_stroke s t e)
one_typed (typed.Border a) (typed.Border b) k e = ap typed.Border (one_border a b e)
one_typed (typed.Transition a) (typed.Transition b) k e = ap typed.Transition (one_transition a b e)
one_typed (typed.Shadow xs) (typed.Shadow ys) k e =
    let h : plains_of (map shadow_json xs) ≡ plains_of (map shadow_json ys) = cc in
    ap typed.Shadow (one_list shadow_json one_shadow xs ys h)
one_typed (typed.Gradient xs) (typed.Gradient ys) k e =
    let h : plains_of (map stop_json xs) ≡ plains_of (map stop_json ys) = cc in
    ap typed.Gradient (one_list stop_json one_stop xs ys h)
one_typed (typed.Typography a) (typed.Typography b) k e = ap typed.Typography (one_typography a b e)
one_typed (typed.Simple s) (typed.StrokeStyle t) k e = absurd (simple_not s kind.StrokeStyle k refl)
one_typed (typed.Simple s) (typed.Border b) k e = absurd (simple_not s kind.Border k refl)
one_typed (typed.Simple s) (typed.Transition b) k e = absurd (simple_not s kind.Transition k refl)
one_typed (typed.Simple s) (typed.Shadow ys) k e = absurd (simple_not s kind.Shadow k refl)
one_typed (typed.Simple s) (typed.Gradient ys) k e = absurd (simple_not s kind.Gradient k refl)
one_typed (typed.Simple s) (typed.Typography b) k e = absurd (simple_not s kind.Typography k refl)
one_typed (typed.StrokeStyle s) (typed.Simple t) k e = absurd (simple_not t kind.StrokeStyle (sym k) refl)
one_typed (typed.Border a) (typed.Simple t) k e = absurd (simple_not t kind.Border (sym k) refl)
one_typed (typed.Transition a) (typed.Simple t) k e = absurd (simple_not t kind.Transition (sym k) refl)
one_typed (typed.Shadow xs) (typed.Simple t) k e = absurd (simple_not t kind.Shadow (sym k) refl)
one_typed (typed.Gradient xs) (typed.Simple t) k e = absurd (simple_not t kind.Gradient (sym k) refl)
one_typed (typed.Typography a) (typed.Simple t) k e = absurd (simple_not t kind.Typography (sym k) refl)
one_typed v w k e = cc
