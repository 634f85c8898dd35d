-- The text of a token is read as its member.
use Rattle.std.proofs.Common.{◌≡◌, ℕ, Bool, ◌&&◌, true, false, List, [], ◌∷◌, ◌++◌, map, Option, Some, None, option_map, refl, sym, ap, ◌∙◌, subst, append_assoc, append-nil, codes, nat_lt, arith}
use Rattle.std.specs.Prelude.{IfSome}
use Rattle.std.specs.List.{list_all, AllByRecursion}
use Rattle.std.proofs.lemmas.Bool.Decides.{nat_tests}
use Rattle.grammar.specs.Grammar.{one_byte, both, no_more}
use Rattle.dec_fix.specs.Decimal.{Decimal}
use Rattle.json_span.specs.Reading.{StringAt}
use Rattle.json_span.specs.Plain.{plain_boolean, plain_string, plain_members_of, plains_of}
use Rattle.json_span.specs.Says.{Says, says_object, says_member, says_members, SaysMoreMembers, says_no_more_member, says_more_members}
use Rattle.json_span.specs.Spelling.{string_text, are_bytes}
use Rattle.json_span.proofs.Saying.{says_frame}
use Rattle.json_span.proofs.Slices.{frame}
use Rattle.json_span.proofs.Spelled.{string_at}
use Rattle.name_path.specs.Kinds.{kind_name}
use Rattle.name_path.specs.Reference.{path_text}
use Rattle.name_path.specs.declared.kind.Kind.{Kind}
use Rattle.name_path.specs.declared.kind.Kind.TheVariants as kind
use Rattle.token_tree.specs.declared.mark.Mark.{Mark}
use Rattle.token_tree.specs.declared.mark.Mark.TheVariants.{No, Yes, Because}
use Rattle.type_rules.specs.Ranges.{ranges_of}
use Rattle.type_rules.specs.Sound.{IsInRange, IsHex, is_hex_digit, IsColor, IsSize, IsTime, IsCurve, IsSimple}
use Rattle.type_rules.specs.Words.{size_unit_name, time_unit_name, space_name}
use Rattle.type_rules.specs.declared.color.Color.{Color}
use Rattle.type_rules.specs.declared.curve.Curve.{Curve}
use Rattle.type_rules.specs.declared.range.Range.{Range}
use Rattle.type_rules.specs.declared.simple.Simple.{Simple}
use Rattle.type_rules.specs.declared.simple.Simple.TheVariants as simple
use Rattle.type_rules.specs.declared.size.Size.{Size}
use Rattle.type_rules.specs.declared.size.SizeUnit.{SizeUnit}
use Rattle.type_rules.specs.declared.size.SizeUnit.TheVariants.{Px, Rem}
use Rattle.type_rules.specs.declared.space.Space.{Space}
use Rattle.type_rules.specs.declared.space.Space.TheVariants.{Srgb, SrgbLinear, DisplayP3, A98Rgb, ProphotoRgb, Rec2020, XyzD65, XyzD50, Hsl, Hwb, Lab, Lch, Oklab, Oklch}
use Rattle.type_rules.specs.declared.time.Time.{Time}
use Rattle.type_rules.specs.declared.time.TimeUnit.{TimeUnit}
use Rattle.type_rules.specs.declared.time.TimeUnit.TheVariants.{Ms, S}
use Rattle.composite_rules.specs.Sound.{kind_of, IsStroke, IsBorder, IsTransition, IsShadowItem, IsColorStop, IsTypography, IsTyped}
use Rattle.composite_rules.specs.Words.{stroke_word_name, cap_name}
use Rattle.composite_rules.specs.declared.border.Border.{Border}
use Rattle.composite_rules.specs.declared.gradient.ColorStop.{ColorStop}
use Rattle.composite_rules.specs.declared.shadow.ShadowItem.{ShadowItem}
use Rattle.composite_rules.specs.declared.stroke.Cap.{Cap}
use Rattle.composite_rules.specs.declared.stroke.Cap.TheVariants.{Round, Butt, Square}
use Rattle.composite_rules.specs.declared.stroke.Stroke.{Stroke}
use Rattle.composite_rules.specs.declared.stroke.Stroke.TheVariants as stroke
use Rattle.composite_rules.specs.declared.stroke.StrokeWord.{StrokeWord}
use Rattle.composite_rules.specs.declared.stroke.StrokeWord.TheVariants.{Solid, Dashed, Dotted, Double, Groove, Ridge, Outset, Inset}
use Rattle.composite_rules.specs.declared.transition.Transition.{Transition}
use Rattle.composite_rules.specs.declared.typed.Typed.{Typed}
use Rattle.composite_rules.specs.declared.typed.Typed.TheVariants as typed
use Rattle.composite_rules.specs.declared.typography.Typography.{Typography}
use Rattle.json_out.specs.PlatformValue.{Json, Member, object_json, component_json, hex_members, size_json, time_json, curve_json, color_json, families_json, stroke_json, border_json, transition_json, shadow_json, stop_json, typography_json, simple_json, typed_json}
use Rattle.json_out.specs.Properties.{ExtrasData, HaveValue, mark_json, given, token_members, token_member}
use Rattle.json_out.specs.Reading.{number_of_text, IsMember}
use Rattle.json_out.specs.Sheets.{AreBytes, typed_families, simple_families, reason_of, text_or_none}
use Rattle.json_out.specs.Spelling.{value_text, given_text, extras_text, token_text, fragment_text}
use Rattle.json_out.proofs.ValuesRead.{CanRead, ItemsCanRead, MembersCanRead, one_blank, member_says, value_says, text_says}

pub split : (a b : Bool) → a && b ≡ true → (a ≡ true) × (b ≡ true)
split true b h = (refl, h)
split false b h = cc

-- words
size_unit_bytes : (u : SizeUnit) → are_bytes (size_unit_name u) ≡ true
size_unit_bytes Px = refl
size_unit_bytes Rem = refl

time_unit_bytes : (u : TimeUnit) → are_bytes (time_unit_name u) ≡ true
time_unit_bytes Ms = refl
time_unit_bytes S = refl

cap_bytes : (c : Cap) → are_bytes (cap_name c) ≡ true
cap_bytes Round = refl
cap_bytes Butt = refl
cap_bytes Square = refl

stroke_word_bytes : (w : StrokeWord) → are_bytes (stroke_word_name w) ≡ true
stroke_word_bytes Solid = refl
stroke_word_bytes Dashed = refl
stroke_word_bytes Dotted = refl
stroke_word_bytes Double = refl
stroke_word_bytes Groove = refl
stroke_word_bytes Ridge = refl
stroke_word_bytes Outset = refl
stroke_word_bytes Inset = refl

space_bytes : (s : Space) → are_bytes (space_name s) ≡ true
space_bytes Srgb = refl
space_bytes SrgbLinear = refl
space_bytes DisplayP3 = refl
space_bytes A98Rgb = refl
space_bytes ProphotoRgb = refl
space_bytes Rec2020 = refl
space_bytes XyzD65 = refl
space_bytes XyzD50 = refl
space_bytes Hsl = refl
space_bytes Hwb = refl
space_bytes Lab = refl
space_bytes Lch = refl
space_bytes Oklab = refl
space_bytes Oklch = refl

kind_bytes : (k : Kind) → are_bytes (kind_name k) ≡ true
kind_bytes kind.Color = refl
kind_bytes kind.Dimension = refl
kind_bytes kind.FontFamily = refl
kind_bytes kind.FontWeight = refl
kind_bytes kind.Duration = refl
kind_bytes kind.CubicBezier = refl
kind_bytes kind.Number = refl
kind_bytes kind.StrokeStyle = refl
kind_bytes kind.Border = refl
kind_bytes kind.Transition = refl
kind_bytes kind.Shadow = refl
kind_bytes kind.Gradient = refl
kind_bytes kind.Typography = refl

-- digits
digit_byte : (c : ℕ) → is_hex_digit c ≡ true → nat_lt c 256 ≡ true
digit_byte c h = grind (arith, nat_tests)

digits_bytes : (ds : List ℕ) → list_all is_hex_digit ds ≡ true → are_bytes ds ≡ true
digits_bytes [] h = refl
digits_bytes (c ∷ ds) h = let p = split (is_hex_digit c) (list_all is_hex_digit ds) h in rw (digit_byte c p.0) (digits_bytes ds p.1)

-- values
items_can : {A : Type 0} (f : A → Json) (P : A → Type 0) → ((x : A) → P x → CanRead (f x)) → (xs : List A) → AllByRecursion P xs → ItemsCanRead (plains_of (map f xs))
items_can f P g [] h = tt
items_can f P g (x ∷ xs) h = (g x h.0, items_can f P g xs h.1)

families_can : (fs : List (List ℕ)) → list_all are_bytes fs ≡ true → CanRead (families_json fs)
families_can [] h = tt
families_can (f ∷ fs) h = let p = split (are_bytes f) (list_all are_bytes fs) h in (p.0, families_can fs p.1)

size_can : (s : Size) → IsSize s → CanRead (size_json s)
size_can s h = (refl, (h, (refl, (size_unit_bytes s.unit, tt))))

time_can : (t : Time) → IsTime t → CanRead (time_json t)
time_can t h = (refl, (h, (refl, (time_unit_bytes t.unit, tt))))

curve_can : (c : Curve) → IsCurve c → CanRead (curve_json c)
curve_can c h = (h.x1.exact, (h.y1, (h.x2.exact, (h.y2, tt))))

component_can : (r : Range) (c : Option Decimal) → IfSome c (IsInRange r) → CanRead (component_json c)
component_can r None h = refl
component_can r (Some d) h = h.exact

hex_can : (o : Option (List ℕ)) → IfSome o IsHex → MembersCanRead (plain_members_of (hex_members o))
hex_can None h = tt
hex_can (Some ds) h = (refl, (digits_bytes ds h.lower, tt))

color_can : (c : Color) → IsColor c → CanRead (color_json c)
color_can c h = (
  refl,
  (
    space_bytes c.space,
    (
      refl,
      (
        (component_can (ranges_of c.space).first c.first h.first, (component_can (ranges_of c.space).second c.second h.second, (component_can (ranges_of c.space).third c.third h.third, tt))),
        (refl, (h.alpha.exact, hex_can c.hex h.hex)),
      ),
    ),
  ),
)

simple_can : (s : Simple) → IsSimple s → list_all are_bytes (simple_families s) ≡ true → CanRead (simple_json s)
simple_can (simple.Color c) h b = color_can c h
simple_can (simple.Dimension s) h b = size_can s h
simple_can (simple.FontFamily fs) h b = families_can fs b
simple_can (simple.FontWeight w) h b = h.exact
simple_can (simple.Duration t) h b = time_can t h
simple_can (simple.CubicBezier c) h b = curve_can c h
simple_can (simple.Number d) h b = h

stroke_can : (s : Stroke) → IsStroke s → CanRead (stroke_json s)
stroke_can (stroke.Word w) h = stroke_word_bytes w
stroke_can (stroke.Dashes lengths cap) h = (refl, (items_can size_json IsSize size_can lengths h, (refl, (cap_bytes cap, tt))))

border_can : (b : Border) → IsBorder b → CanRead (border_json b)
border_can b h = (refl, (color_can b.color h.color, (refl, (size_can b.width h.width, (refl, (stroke_can b.style h.style, tt))))))

transition_can : (t : Transition) → IsTransition t → CanRead (transition_json t)
transition_can t h = (refl, (time_can t.duration h.duration, (refl, (time_can t.delay h.delay, (refl, (curve_can t.timing h.timing, tt))))))

shadow_can : (i : ShadowItem) → IsShadowItem i → CanRead (shadow_json i)
shadow_can i h = (
  refl,
  (
    color_can i.color h.color,
    (
      refl,
      (
        size_can i.offset_x h.offset_x,
        (
          refl,
          (
            size_can i.offset_y h.offset_y,
            (refl, (size_can i.blur h.blur, (refl, (size_can i.spread h.spread, (refl, (tt, tt)))))),
          ),
        ),
      ),
    ),
  ),
)

stop_can : (s : ColorStop) → IsColorStop s → CanRead (stop_json s)
stop_can s h = (refl, (color_can s.color h.color, (refl, (h.position.exact, tt))))

typography_can : (t : Typography) → IsTypography t → list_all are_bytes t.family ≡ true → CanRead (typography_json t)
typography_can t h b = (
  refl,
  (
    families_can t.family b,
    (
      refl,
      (
        size_can t.size h.size,
        (
          refl,
          (
            h.weight.exact,
            (refl, (size_can t.spacing h.spacing, (refl, (h.line_height, tt)))),
          ),
        ),
      ),
    ),
  ),
)

pub typed_can : (v : Typed) → IsTyped v → list_all are_bytes (typed_families v) ≡ true → CanRead (typed_json v)
typed_can (typed.Simple s) h b = simple_can s h b
typed_can (typed.StrokeStyle s) h b = stroke_can s h
typed_can (typed.Border x) h b = border_can x h
typed_can (typed.Transition t) h b = transition_can t h
typed_can (typed.Shadow items) h b = items_can shadow_json IsShadowItem shadow_can items h.every
typed_can (typed.Gradient stops) h b = items_can stop_json IsColorStop stop_can stops h.every
typed_can (typed.Typography t) h b = typography_can t h b

-- what stands beside the value
given_says : (name : List ℕ) (text : Option (List ℕ)) (v : Option Json) (rest : List ℕ) (ms : List Member) → are_bytes name ≡ true → HaveValue text v
    → SaysMoreMembers number_of_text rest (plain_members_of ms) [] → SaysMoreMembers number_of_text (given_text name text ++ rest) (plain_members_of (given name v ++ ms)) []
given_says name None None rest ms b h m = m
given_says name None (Some v) rest ms b h m = absurd h
given_says name (Some text) None rest ms b h m = absurd h
given_says name (Some text) (Some v) rest ms b h m =
    subst (λ z. SaysMoreMembers number_of_text (44 ∷ 32 ∷ z) (plain_members_of (given name (Some v) ++ ms)) []) (sym (append_assoc (string_text name) (58 ∷ 32 ∷ text) rest))
    (says_more_members (both (one_byte refl) (one_blank no_more))
    (says_member (string_at name (58 ∷ 32 ∷ (text ++ rest)) b) no_more (both (one_byte refl) (one_blank (frame h.lead rest))) (says_frame number_of_text h.says rest))
    (frame h.trail rest) m)

described : (s : Option (List ℕ)) → are_bytes (text_or_none s) ≡ true → HaveValue (option_map string_text s) (option_map plain_string s)
described None h = tt
described (Some s) h = text_says (plain_string s) h

marked : (m : Mark) → are_bytes (reason_of m) ≡ true → HaveValue (option_map value_text (mark_json m)) (mark_json m)
marked No h = tt
marked Yes h = text_says (plain_boolean true) tt
marked (Because s) h = text_says (plain_string s) h

extras_say : (e : ExtrasData) (w : Option Json) → are_bytes (text_or_none e.description) ≡ true → are_bytes (reason_of e.mark) ≡ true → HaveValue e.extensions w
    → SaysMoreMembers number_of_text (extras_text e ++ codes "}") (plain_members_of (given (codes "$description") (option_map plain_string e.description) ++ (given (codes "$extensions") w ++ given (codes "$deprecated") (mark_json e.mark)))) []
extras_say e w d m x =
    let D = given_text (codes "$description") (option_map string_text e.description) in
    let E = given_text (codes "$extensions") e.extensions in
    let M = given_text (codes "$deprecated") (option_map value_text (mark_json e.mark)) in
    let ms = given (codes "$deprecated") (mark_json e.mark) in
    let last = given_says (codes "$deprecated") (option_map value_text (mark_json e.mark)) (mark_json e.mark) (codes "}") [] refl (marked e.mark m) (says_no_more_member (one_byte refl)) in
    let mine : SaysMoreMembers number_of_text (M ++ codes "}") (plain_members_of ms) [] = subst (λ z. SaysMoreMembers number_of_text (M ++ codes "}") (plain_members_of z) []) (append-nil ms) last in
    subst (λ z. SaysMoreMembers number_of_text z (plain_members_of (given (codes "$description") (option_map plain_string e.description) ++ (given (codes "$extensions") w ++ ms))) [])
    (sym (append_assoc D (E ++ M) (codes "}") ∙ ap (λ z. D ++ z) (append_assoc E M (codes "}"))))
    (given_says (codes "$description") (option_map string_text e.description) (option_map plain_string e.description) _ _ refl (described e.description d)
    (given_says (codes "$extensions") e.extensions w _ _ refl x mine))

token_says : (v : Typed) (e : ExtrasData) (w : Option Json) → CanRead (typed_json v) → are_bytes (text_or_none e.description) ≡ true → are_bytes (reason_of e.mark) ≡ true
    → HaveValue e.extensions w → Says number_of_text (token_text v e) (object_json (token_members v e w)) []
token_says v e w h d m x =
    let name = kind_name (kind_of v) in
    let behind = codes ", \"$value\": " ++ (value_text (typed_json v) ++ (extras_text e ++ codes "}")) in
    says_object (both (one_byte refl) no_more)
    (says_members (member_says (codes "$type") (plain_string name) behind refl (value_says (plain_string name) behind (kind_bytes (kind_of v)))) no_more
    (says_more_members (both (one_byte refl) (one_blank no_more)) (member_says (codes "$value") (typed_json v) (extras_text e ++ codes "}") refl (value_says (typed_json v) (extras_text e ++ codes "}") h)) no_more
    (extras_say e w d m x)))

-- the path
bytes_append : (s t : List ℕ) → are_bytes s ≡ true → are_bytes t ≡ true → are_bytes (s ++ t) ≡ true
bytes_append [] t h k = k
bytes_append (c ∷ s) t h k = let p = split (nat_lt c 256) (are_bytes s) h in rw (p.0) (bytes_append s t p.1 k)

path_bytes : (path : List (List ℕ)) → list_all are_bytes path ≡ true → are_bytes (path_text path) ≡ true
path_bytes [] h = refl
path_bytes (x ∷ []) h = (split (are_bytes x) true h).0
path_bytes (x ∷ y ∷ xs) h =
    let p = split (are_bytes x) (list_all are_bytes (y ∷ xs)) h in
    bytes_append x (46 ∷ path_text (y ∷ xs)) p.0 (path_bytes (y ∷ xs) p.1)

pub fragment_read : (path : List (List ℕ)) (v : Typed) (e : ExtrasData) → IsTyped v → AreBytes path v e
    → (w : Option Json) → HaveValue e.extensions w → IsMember (fragment_text path v e) (token_member path v e w)
fragment_read path v e h b w x = record {
  lead = codes "  ";
  quoted = string_text (path_text path);
  gap = [];
  value = 32 ∷ token_text v e;
  before = one_blank (one_blank no_more);
  names = subst (λ z. StringAt z (path_text path) []) (append-nil (string_text (path_text path))) (string_at (path_text path) [] (path_bytes path b.names));
  behind = no_more;
  says = record {
    before = token_text v e;
    after = [];
    lead = one_blank no_more;
    says = token_says v e w (typed_can v h b.families) b.description b.reason x;
    trail = no_more;
  };
  made = refl;
}
