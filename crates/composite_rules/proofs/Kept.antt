-- What typed values keep.
use Rattle.std.proofs.Common.{◌≡◌, ◌≢◌, ℕ, Bool, true, false, cond, List, [], ◌∷◌, codes, pos, Option, Some, None, Ok, refl, arith, inl}
use Rattle.std.specs.Ordering.{is_gt, is_lt}
use Rattle.std.specs.declared.cmp.Ordering.{Ordering}
use Rattle.std.specs.declared.cmp.Ordering.TheVariants.{Less, Equal, Greater}
use Rattle.json_span.specs.Plain.{plain_string_in, plain_array_in}
use Rattle.json_span.specs.PlainView.{Value}
use Rattle.dec_fix.specs.Decimal.{Decimal, IsExact}
use Rattle.dec_fix.specs.Arithmetic.{IsFromZeroToOne, order_with, whole_decimal}
use Rattle.name_path.specs.declared.kind.Kind.{Kind}
use Rattle.type_rules.specs.declared.fault.ValueRule.TheVariants.{StrokeWord, StrokeCap}
use Rattle.type_rules.specs.Checked.{or_broken}
use Rattle.type_rules.specs.Forms.{number_in, members_in, if_text, named, member, member_or, list_in, some_in}
use Rattle.type_rules.specs.Words.{meaning, word_in}
use Rattle.type_rules.specs.Value.{color_in, size_in, time_in, curve_in, families_in, weight_in}
use Rattle.type_rules.specs.Sound.{IsColor, IsSize, IsTime, IsCurve, IsFamilies, IsWeight}
use Rattle.type_rules.proofs.Keeping.{made, found, member_keeps, list_keeps, some_keep, some_is_there}
use Rattle.type_rules.proofs.Kept.{numbers_keep, colors_keep, sizes_keep, times_keep, curves_keep, families_keep, weights_keep, values_keep as simples_keep}
use Rattle.composite_rules.specs.declared.stroke.Stroke.{Stroke}
use Rattle.composite_rules.specs.declared.stroke.Stroke.TheVariants as stroke
use Rattle.composite_rules.specs.declared.border.Border.{Border}
use Rattle.composite_rules.specs.declared.transition.Transition.{Transition}
use Rattle.composite_rules.specs.declared.shadow.ShadowItem.{ShadowItem}
use Rattle.composite_rules.specs.declared.gradient.ColorStop.{ColorStop}
use Rattle.composite_rules.specs.declared.typography.Typography.{Typography}
use Rattle.composite_rules.specs.declared.typed.Typed.{Typed}
use Rattle.composite_rules.specs.Words.{stroke_words, caps}
use Rattle.composite_rules.specs.Value.{stroke_of_word, dashes_in, stroke_in, border_in, transition_in, boolean_in, shadow_item_in, unless_zero, one_item, one_shadow, if_list, shadows_in, clamped, stop_in, gradient_in, typography_in, value_of}
use Rattle.composite_rules.specs.Sound.{kind_of, IsStroke, IsBorder, IsTransition, IsShadowItem, IsShadows, IsColorStop, IsStops, IsTypography, IsTyped}
use Rattle.composite_rules.proofs.ByKind.{by_kind}

-- stroke styles

dashes_keep : (legacy : Bool) (v : Value) (s : Stroke) → dashes_in legacy v ≡ Ok s → IsStroke s
unfolding dashes_in
dashes_keep legacy v s e =
    made (members_in v) _ s e (λ es h e1.
    made (member (list_in (size_in legacy)) (codes "dashArray") es) _ s e1 (λ lengths has e2.
    made (member (word_in StrokeCap caps) (codes "lineCap") es) _ s e2 (λ cap is e3.
    found IsStroke (stroke.Dashes lengths cap) s e3 (member_keeps (list_in (size_in legacy)) (λ xs. IsStroke (stroke.Dashes xs cap)) (list_keeps (size_in legacy) IsSize (sizes_keep legacy)) (codes "dashArray") es lengths has))))

strokes_by : (legacy : Bool) (o : Option (List ℕ)) (v : Value) (s : Stroke) → if_text o stroke_of_word (dashes_in legacy v) ≡ Ok s → IsStroke s
unfolding stroke_of_word
strokes_by legacy (Some text) v s e = made (or_broken StrokeWord (meaning stroke_words text)) _ s e (λ word h e2. found IsStroke (stroke.Word word) s e2 tt)
strokes_by legacy None v s e = dashes_keep legacy v s e

pub strokes_keep : (legacy : Bool) (v : Value) (s : Stroke) → stroke_in legacy v ≡ Ok s → IsStroke s
unfolding stroke_in
strokes_keep legacy v s e = strokes_by legacy (plain_string_in v) v s e

-- borders and transitions

pub borders_keep : (legacy : Bool) (v : Value) (b : Border) → border_in legacy v ≡ Ok b → IsBorder b
unfolding border_in
borders_keep legacy v b e =
    made (members_in v) _ b e (λ es h e1.
    made (member (color_in legacy) (codes "color") es) _ b e1 (λ color c e2.
    made (member (size_in legacy) (codes "width") es) _ b e2 (λ width w e3.
    made (member (stroke_in legacy) (codes "style") es) _ b e3 (λ style s e4.
    found IsBorder (record { color = color; width = width; style = style }) b e4 (record {
      color = member_keeps (color_in legacy) IsColor (colors_keep legacy) (codes "color") es color c;
      width = member_keeps (size_in legacy) IsSize (sizes_keep legacy) (codes "width") es width w;
      style = member_keeps (stroke_in legacy) IsStroke (strokes_keep legacy) (codes "style") es style s;
    })))))

pub transitions_keep : (legacy : Bool) (v : Value) (t : Transition) → transition_in legacy v ≡ Ok t → IsTransition t
unfolding transition_in
transitions_keep legacy v t e =
    made (members_in v) _ t e (λ es h e1.
    made (member (time_in legacy) (codes "duration") es) _ t e1 (λ duration d e2.
    made (member (time_in legacy) (codes "delay") es) _ t e2 (λ delay l e3.
    made (member curve_in (codes "timingFunction") es) _ t e3 (λ timing f e4.
    found IsTransition (record { duration = duration; delay = delay; timing = timing }) t e4 (record {
      duration = member_keeps (time_in legacy) IsTime (times_keep legacy) (codes "duration") es duration d;
      delay = member_keeps (time_in legacy) IsTime (times_keep legacy) (codes "delay") es delay l;
      timing = member_keeps curve_in IsCurve curves_keep (codes "timingFunction") es timing f;
    })))))

-- shadows

pub shadow_items_keep : (legacy : Bool) (v : Value) (item : ShadowItem) → shadow_item_in legacy v ≡ Ok item → IsShadowItem item
unfolding shadow_item_in
shadow_items_keep legacy v item e =
    made (members_in v) _ item e (λ es h e1.
    made (member (color_in legacy) (codes "color") es) _ item e1 (λ color c e2.
    made (member (size_in legacy) (codes "offsetX") es) _ item e2 (λ offset_x x e3.
    made (member (size_in legacy) (codes "offsetY") es) _ item e3 (λ offset_y y e4.
    made (member (size_in legacy) (codes "blur") es) _ item e4 (λ blur b e5.
    made (member (size_in legacy) (codes "spread") es) _ item e5 (λ spread s e6.
    made (member_or boolean_in false (codes "inset") es) _ item e6 (λ inset i e7.
    found IsShadowItem (record { color = color; offset_x = offset_x; offset_y = offset_y; blur = blur; spread = spread; inset = inset }) item e7 (record {
      color = member_keeps (color_in legacy) IsColor (colors_keep legacy) (codes "color") es color c;
      offset_x = member_keeps (size_in legacy) IsSize (sizes_keep legacy) (codes "offsetX") es offset_x x;
      offset_y = member_keeps (size_in legacy) IsSize (sizes_keep legacy) (codes "offsetY") es offset_y y;
      blur = member_keeps (size_in legacy) IsSize (sizes_keep legacy) (codes "blur") es blur b;
      spread = member_keeps (size_in legacy) IsSize (sizes_keep legacy) (codes "spread") es spread s;
    }))))))))

one_keeps : (legacy : Bool) (v : Value) (items : List ShadowItem) → one_item legacy v ≡ Ok items → IsShadows items
unfolding one_item
one_keeps legacy v items e =
    made (shadow_item_in legacy v) _ items e (λ item h e2.
    found IsShadows (item ∷ []) items e2 (record { some = λ n. cc; every = (shadow_items_keep legacy v item h, tt) }))

unless_keeps : (legacy : Bool) (o : Option Value) (v : Value) (items : List ShadowItem) → unless_zero o (one_item legacy v) ≡ Ok items → IsShadows items
unless_keeps legacy (Some zero) v items e = absurd (let h : ⊥ = cc in h)
unless_keeps legacy None v items e = one_keeps legacy v items e

shadows_by : (legacy : Bool) (o : Option (List Value)) (v : Value) (items : List ShadowItem) → if_list o (some_in (shadow_item_in legacy) v) (one_shadow legacy v) ≡ Ok items → IsShadows items
unfolding one_shadow
shadows_by legacy (Some vs) v items e = record { some = some_is_there (shadow_item_in legacy) v items e; every = some_keep (shadow_item_in legacy) IsShadowItem (shadow_items_keep legacy) v items e }
shadows_by legacy None v items e = made (members_in v) _ items e (λ es h e2. unless_keeps legacy (named (codes "0") es) v items e2)

pub shadows_keep : (legacy : Bool) (v : Value) (items : List ShadowItem) → shadows_in legacy v ≡ Ok items → IsShadows items
unfolding shadows_in
shadows_keep legacy v items e = shadows_by legacy (plain_array_in v) v items e

-- gradients

not_less : (o : Ordering) → is_lt o ≡ false → o ≢ Less
not_less Less t e = cc
not_less Equal t e = cc
not_less Greater t e = cc

not_greater : (o : Ordering) → is_gt o ≡ false → o ≢ Greater
not_greater Less t e = cc
not_greater Equal t e = cc
not_greater Greater t e = cc

is_less : (o : Ordering) → o ≢ Less → is_lt o ≡ false
is_less Less n = absurd (n refl)
is_less Equal n = refl
is_less Greater n = refl

is_greater : (o : Ordering) → o ≢ Greater → is_gt o ≡ false
is_greater Less n = refl
is_greater Equal n = refl
is_greater Greater n = absurd (n refl)

record IsClamped (d n : Decimal) : Type 0 where
  exact : IsExact d → IsExact n
  part : IsFromZeroToOne n

zero_exact : IsExact (whole_decimal (pos 0))
zero_exact = record { size = omega arith; places = omega arith; short = inl refl }

one_exact : IsExact (whole_decimal (pos 1))
one_exact = record { size = omega arith; places = omega arith; short = inl refl }

clamped_by : (d : Decimal) (b c : Bool) → is_lt (order_with d 0) ≡ b → is_gt (order_with d 1) ≡ c → IsClamped d (cond b (whole_decimal (pos 0)) (cond c (whole_decimal (pos 1)) d))
clamped_by d true c e f = record { exact = λ h. zero_exact; part = record { low = λ n. cc; high = λ n. cc } }
clamped_by d false true e f = record { exact = λ h. one_exact; part = record { low = λ n. cc; high = λ n. cc } }
clamped_by d false false e f = record { exact = λ h. h; part = record { low = not_less (order_with d 0) e; high = not_greater (order_with d 1) f } }

is_clamped : (d : Decimal) → IsClamped d (clamped d)
is_clamped d = clamped_by d (is_lt (order_with d 0)) (is_gt (order_with d 1)) refl refl

pub positions_clamp : (d : Decimal) → IsFromZeroToOne (clamped d)
positions_clamp d = (is_clamped d).part

pub shares_stay : (d : Decimal) → IsFromZeroToOne d → clamped d ≡ d
shares_stay d h = rw (is_less (order_with d 0) h.low, is_greater (order_with d 1) h.high) refl

pub stops_keep : (legacy : Bool) (v : Value) (stop : ColorStop) → stop_in legacy v ≡ Ok stop → IsColorStop stop
unfolding stop_in
stops_keep legacy v stop e =
    made (members_in v) _ stop e (λ es h e1.
    made (member (color_in legacy) (codes "color") es) _ stop e1 (λ color c e2.
    made (member number_in (codes "position") es) _ stop e2 (λ position p e3.
    found IsColorStop (record { color = color; position = clamped position }) stop e3 (record {
      color = member_keeps (color_in legacy) IsColor (colors_keep legacy) (codes "color") es color c;
      position = record { exact = (is_clamped position).exact (member_keeps number_in IsExact numbers_keep (codes "position") es position p); part = (is_clamped position).part };
    }))))

pub gradients_keep : (legacy : Bool) (v : Value) (stops : List ColorStop) → gradient_in legacy v ≡ Ok stops → IsStops stops
unfolding gradient_in
gradients_keep legacy v stops e = record { some = some_is_there (stop_in legacy) v stops e; every = some_keep (stop_in legacy) IsColorStop (stops_keep legacy) v stops e }

-- typography

pub typographies_keep : (legacy : Bool) (v : Value) (t : Typography) → typography_in legacy v ≡ Ok t → IsTypography t
unfolding typography_in
typographies_keep legacy v t e =
    made (members_in v) _ t e (λ es h e1.
    made (member families_in (codes "fontFamily") es) _ t e1 (λ family f e2.
    made (member (size_in legacy) (codes "fontSize") es) _ t e2 (λ size s e3.
    made (member weight_in (codes "fontWeight") es) _ t e3 (λ weight w e4.
    made (member (size_in legacy) (codes "letterSpacing") es) _ t e4 (λ spacing p e5.
    made (member number_in (codes "lineHeight") es) _ t e5 (λ line_height l e6.
    found IsTypography (record { family = family; size = size; weight = weight; spacing = spacing; line_height = line_height }) t e6 (record {
      family = member_keeps families_in IsFamilies families_keep (codes "fontFamily") es family f;
      size = member_keeps (size_in legacy) IsSize (sizes_keep legacy) (codes "fontSize") es size s;
      weight = member_keeps weight_in IsWeight weights_keep (codes "fontWeight") es weight w;
      spacing = member_keeps (size_in legacy) IsSize (sizes_keep legacy) (codes "letterSpacing") es spacing p;
      line_height = member_keeps number_in IsExact numbers_keep (codes "lineHeight") es line_height l;
    })))))))

-- values

abbrev pub Keeps : Kind → Typed → Type 0
Keeps k t = (kind_of t ≡ k) × IsTyped t

pub values_keep : (legacy : Bool) (k : Kind) (v : Value) (t : Typed) → value_of legacy k v ≡ Ok t → Keeps k t
values_keep legacy k v t e =
    by_kind legacy v Keeps (record {
      simple = λ own x h. simples_keep legacy own v x h;
      stroke = λ x h. (refl, strokes_keep legacy v x h);
      border = λ x h. (refl, borders_keep legacy v x h);
      transition = λ x h. (refl, transitions_keep legacy v x h);
      shadow = λ x h. (refl, shadows_keep legacy v x h);
      gradient = λ x h. (refl, gradients_keep legacy v x h);
      typography = λ x h. (refl, typographies_keep legacy v x h);
    }) k t e
