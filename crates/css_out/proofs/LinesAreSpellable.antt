-- The lines of a token can be spelled: each piece is one that is read as it is spelled, and each function is closed.
use Rattle.std.proofs.Common.{◌≡◌, ℕ, suc, ◌+◌, Bool, true, false, List, [], ◌∷◌, ◌++◌, map, flat_map, refl, ◌∙◌, ap, subst, append_assoc, append-nil, Option, Some, None, option_map, codes, arith}
use Rattle.std.specs.Prelude.{if◌then◌else◌, IfSome}
use Rattle.std.specs.Fmt.{decimal}
use Rattle.std.specs.List.{list_all, AllByRecursion}
use Rattle.std.specs.Option.{option_or}
use Rattle.std.specs.Ordering.{is_eq}
use Rattle.dec_fix.specs.Arithmetic.{order_with}
use Rattle.dec_fix.specs.Decimal.{Decimal, IsExact}
use Rattle.name_path.specs.declared.kind.Kind.{Kind}
use Rattle.name_path.specs.declared.kind.Kind.TheVariants as kind
use Rattle.name_path.specs.declared.link.Link.{Link}
use Rattle.transforms.specs.PlatformName.{is_kept, is_property}
use Rattle.transforms.specs.declared.platform.Platform.TheVariants.{Css}
use Rattle.transforms.proofs.Endings.{endings_stay}
use Rattle.type_rules.specs.Ranges.{ranges_of}
use Rattle.type_rules.specs.Sound.{IsColor, IsSize, IsTime, IsCurve, IsInRange, IsSimple}
use Rattle.type_rules.specs.Words.{size_unit_name, time_unit_name, space_name}
use Rattle.type_rules.specs.declared.color.Color.{Color}
use Rattle.type_rules.specs.declared.curve.Curve.{Curve}
use Rattle.type_rules.specs.declared.range.Range.{Range}
use Rattle.type_rules.specs.declared.simple.Simple.{Simple}
use Rattle.type_rules.specs.declared.simple.Simple.TheVariants as simple
use Rattle.type_rules.specs.declared.size.Size.{Size}
use Rattle.type_rules.specs.declared.size.SizeUnit.{SizeUnit}
use Rattle.type_rules.specs.declared.size.SizeUnit.TheVariants.{Px, Rem}
use Rattle.type_rules.specs.declared.space.Space.{Space}
use Rattle.type_rules.specs.declared.space.Space.TheVariants.{Srgb, SrgbLinear, DisplayP3, A98Rgb, ProphotoRgb, Rec2020, XyzD65, XyzD50, Hsl, Hwb, Lab, Lch, Oklab, Oklch}
use Rattle.type_rules.specs.declared.time.Time.{Time}
use Rattle.type_rules.specs.declared.time.TimeUnit.{TimeUnit}
use Rattle.type_rules.specs.declared.time.TimeUnit.TheVariants.{Ms, S}
use Rattle.transforms.specs.FiveNames.{family_end, size_end, weight_end, spacing_end, height_end}
use Rattle.transforms.proofs.ScaledAreWritten.{exact_dec, times_dec}
use Rattle.composite_rules.specs.Sound.{kind_of, IsBorder, IsTransition, IsShadowItem, IsColorStop, IsTyped}
use Rattle.composite_rules.specs.Words.{stroke_word_name}
use Rattle.composite_rules.specs.declared.border.Border.{Border}
use Rattle.composite_rules.specs.declared.gradient.ColorStop.{ColorStop}
use Rattle.composite_rules.specs.declared.shadow.ShadowItem.{ShadowItem}
use Rattle.composite_rules.specs.declared.stroke.Stroke.{Stroke}
use Rattle.composite_rules.specs.declared.stroke.Stroke.TheVariants as stroke
use Rattle.composite_rules.specs.declared.stroke.StrokeWord.{StrokeWord}
use Rattle.composite_rules.specs.declared.stroke.StrokeWord.TheVariants.{Solid, Dashed, Dotted, Double, Groove, Ridge, Outset, Inset}
use Rattle.composite_rules.specs.declared.transition.Transition.{Transition}
use Rattle.composite_rules.specs.declared.typed.Typed.{Typed}
use Rattle.composite_rules.specs.declared.typed.Typed.TheVariants as typed
use Rattle.css_out.specs.Piece.{Mark, Piece, mark, var, number, unit, string, word, opens, closes, comma, slash, opens_function, closes_function}
use Rattle.css_out.specs.Reading.{is_var, are_closed}
use Rattle.css_out.specs.Links.{link_for, item_link}
use Rattle.css_out.specs.Parts.{Part, shown_part, shown, NamedParts, declaration}
use Rattle.css_out.specs.PlatformValue.{size_marks, time_marks, number_marks, curve_marks, function_name, space_marks, has_percents, component_mark, component_marks, alpha_marks, color_marks, listed, is_generic, family_marks, families_marks, simple_marks, stroke_marks, border_marks, transition_marks, inset_marks, shadow_marks, position_mark, stop_marks, can_spell}
use Rattle.css_out.specs.Fragment.{css_name, linked_or_plain, unless_linked, behind_commas, listed_parts, is_only, border_parts, transition_parts, shadow_parts, stop_parts, value_parts, typography_part, typography_line, lines_of, entries}
use Rattle.css_out.proofs.SpellablePieces.{is_word, is_unit, IsSpellableMark, IsSpellable, AreSpellable}
use Rattle.css_out.proofs.GenericsAreWords.{generic_is_word}
use Rattle.css_out.proofs.RoundsEnd.{marks-append}
use Rattle.css_out.proofs.SpelledIsRead.{IsLine}

-- pieces that can be spelled, wherever they stand
record Sound (ps : List Piece) : Type 0 where
  spellable : AreSpellable ps
  closed : (k : ℕ) (qs : List Piece) → are_closed k (ps ++ qs) ≡ are_closed k qs

all-append : {A : Type 0} (P : A → Type 0) (xs ys : List A) → AllByRecursion P xs → AllByRecursion P ys → AllByRecursion P (xs ++ ys)
all-append P [] ys h i = i
all-append P (x ∷ xs) ys h i = (h.0, all-append P xs ys h.1 i)

nothing : Sound []
nothing = record { spellable = tt; closed = λ k qs. refl }

both_sound : (ps qs : List Piece) → Sound ps → Sound qs → Sound (ps ++ qs)
both_sound ps qs a b = record {
  spellable = all-append IsSpellable ps qs a.spellable b.spellable;
  closed = λ k rs. rw (append_assoc ps qs rs) (a.closed k (qs ++ rs) ∙ b.closed k rs);
}

abbrev SoundMarks : List Mark → Type 0
SoundMarks ms = Sound (map mark ms)

both_marks : (ms ns : List Mark) → SoundMarks ms → SoundMarks ns → SoundMarks (ms ++ ns)
both_marks ms ns a b = rw (marks-append ms ns) (both_sound (map mark ms) (map mark ns) a b)

-- a mark that neither opens nor closes a function
record IsFlat (m : Mark) : Type 0 where
  spellable : IsSpellableMark m
  opens_none : opens_function m ≡ false
  closes_none : closes_function m ≡ false

one_mark : (m : Mark) → IsFlat m → SoundMarks (m ∷ [])
one_mark m h = record { spellable = (h.spellable, tt); closed = λ k qs. rw (h.opens_none, h.closes_none) refl }

more_marks : (m : Mark) (ms : List Mark) → IsFlat m → SoundMarks ms → SoundMarks (m ∷ ms)
more_marks m ms h i = both_sound (mark m ∷ []) (map mark ms) (one_mark m h) i

flat_marks : (ms : List Mark) → AllByRecursion IsFlat ms → SoundMarks ms
flat_marks [] h = nothing
flat_marks (m ∷ ms) h = more_marks m ms h.0 (flat_marks ms h.1)

call : (w : List ℕ) (ms : List Mark) → is_word w ≡ true → is_var w ≡ false → SoundMarks ms → SoundMarks (opens w ∷ (ms ++ closes ∷ []))
call w ms h v i = record {
  spellable = ((h, v), rw (marks-append ms (closes ∷ [])) (all-append IsSpellable (map mark ms) (mark closes ∷ []) i.spellable (tt, tt)));
  closed = λ k qs. rw (marks-append ms (closes ∷ []), append_assoc (map mark ms) (mark closes ∷ []) qs) (i.closed (suc k) (mark closes ∷ qs));
}

-- numbers
number_flat : (d : Decimal) → IsExact d → IsFlat (number d)
number_flat d h = record { spellable = exact_dec d h; opens_none = refl; closes_none = refl }

numbers : (d : Decimal) → IsExact d → SoundMarks (number_marks d)
numbers d h = one_mark (number d) (number_flat d h)

size_unit : (u : SizeUnit) → is_unit (size_unit_name u) ≡ true
size_unit Px = refl
size_unit Rem = refl

time_unit : (u : TimeUnit) → is_unit (time_unit_name u) ≡ true
time_unit Ms = refl
time_unit S = refl

sizes : (s : Size) → IsSize s → SoundMarks (size_marks s)
sizes s h = one_mark (unit s.value (size_unit_name s.unit)) (record { spellable = (exact_dec s.value h, size_unit s.unit); opens_none = refl; closes_none = refl })

times_sound : (t : Time) → IsTime t → SoundMarks (time_marks t)
times_sound t h = one_mark (unit t.value (time_unit_name t.unit)) (record { spellable = (exact_dec t.value h, time_unit t.unit); opens_none = refl; closes_none = refl })

comma_flat : IsFlat comma
comma_flat = record { spellable = tt; opens_none = refl; closes_none = refl }

slash_flat : IsFlat slash
slash_flat = record { spellable = tt; opens_none = refl; closes_none = refl }

word_flat : (w : List ℕ) → is_word w ≡ true → IsFlat (word w)
word_flat w h = record { spellable = h; opens_none = refl; closes_none = refl }

curves : (c : Curve) → IsCurve c → SoundMarks (curve_marks c)
curves c h =
    call (codes "cubic-bezier") (number c.x1 ∷ comma ∷ number c.y1 ∷ comma ∷ number c.x2 ∷ comma ∷ number c.y2 ∷ []) refl refl
    (flat_marks (number c.x1 ∷ comma ∷ number c.y1 ∷ comma ∷ number c.x2 ∷ comma ∷ number c.y2 ∷ [])
    (number_flat c.x1 h.x1.exact, (comma_flat, (number_flat c.y1 h.y1, (comma_flat, (number_flat c.x2 h.x2.exact, (comma_flat, (number_flat c.y2 h.y2, tt))))))))

-- colours
spaces : (s : Space) → (is_word (function_name s) ≡ true) × (is_var (function_name s) ≡ false) × SoundMarks (space_marks s)
spaces Srgb = (refl, refl, one_mark _ (word_flat (space_name Srgb) refl))
spaces SrgbLinear = (refl, refl, one_mark _ (word_flat (space_name SrgbLinear) refl))
spaces DisplayP3 = (refl, refl, one_mark _ (word_flat (space_name DisplayP3) refl))
spaces A98Rgb = (refl, refl, one_mark _ (word_flat (space_name A98Rgb) refl))
spaces ProphotoRgb = (refl, refl, one_mark _ (word_flat (space_name ProphotoRgb) refl))
spaces Rec2020 = (refl, refl, one_mark _ (word_flat (space_name Rec2020) refl))
spaces XyzD65 = (refl, refl, one_mark _ (word_flat (space_name XyzD65) refl))
spaces XyzD50 = (refl, refl, one_mark _ (word_flat (space_name XyzD50) refl))
spaces Hsl = (refl, refl, nothing)
spaces Hwb = (refl, refl, nothing)
spaces Lab = (refl, refl, nothing)
spaces Lch = (refl, refl, nothing)
spaces Oklab = (refl, refl, nothing)
spaces Oklch = (refl, refl, nothing)

component_flat : (b : Bool) (r : Range) (o : Option Decimal) → IfSome o (IsInRange r) → IsFlat (component_mark b o)
component_flat b r None h = word_flat (codes "none") refl
component_flat true r (Some d) h = record { spellable = exact_dec d h.exact; opens_none = refl; closes_none = refl }
component_flat false r (Some d) h = number_flat d h.exact

components : (c : Color) → IsColor c → SoundMarks (component_marks c)
components c h = flat_marks (component_marks c) (
  component_flat false (ranges_of c.space).first c.first h.first,
  (
    component_flat (has_percents c.space) (ranges_of c.space).second c.second h.second,
    (component_flat (has_percents c.space) (ranges_of c.space).third c.third h.third, tt),
  ),
)

alpha_if : (b : Bool) (d : Decimal) → IsExact d → SoundMarks (if b then [] else slash ∷ number d ∷ [])
alpha_if true d h = nothing
alpha_if false d h = flat_marks (slash ∷ number d ∷ []) (slash_flat, (number_flat d h, tt))

colors : (c : Color) → IsColor c → SoundMarks (color_marks c)
colors c h =
    let (w, v, space) = spaces c.space in
    let inner = space_marks c.space ++ (component_marks c ++ alpha_marks c.alpha) in
    let sound : SoundMarks inner = both_marks (space_marks c.space) (component_marks c ++ alpha_marks c.alpha) space
    (both_marks (component_marks c) (alpha_marks c.alpha) (components c h) (alpha_if (is_eq (order_with c.alpha 1)) c.alpha h.alpha.exact)) in
    let same : inner ++ closes ∷ [] ≡ space_marks c.space ++ (component_marks c ++ (alpha_marks c.alpha ++ closes ∷ [])) =
    append_assoc (space_marks c.space) (component_marks c ++ alpha_marks c.alpha) (closes ∷ []) ∙ ap (λ ms. space_marks c.space ++ ms) (append_assoc (component_marks c) (alpha_marks c.alpha) (closes ∷ [])) in
    let P : List Mark → Type 0 = λ ms. SoundMarks (opens (function_name c.space) ∷ ms) in
    subst P same (call (function_name c.space) inner w v sound)

-- families
family_if : (b : Bool) (f : List ℕ) → is_generic f ≡ b → SoundMarks (if b then word f ∷ [] else string f ∷ [])
family_if true f e = one_mark _ (word_flat f (generic_is_word f e))
family_if false f e = one_mark _ (record { spellable = tt; opens_none = refl; closes_none = refl })

more_families : (fs : List (List ℕ)) → SoundMarks (flat_map (λ y. comma ∷ family_marks y) fs)
more_families [] = nothing
more_families (f ∷ fs) = both_marks (comma ∷ family_marks f) (flat_map (λ y. comma ∷ family_marks y) fs) (more_marks comma (family_marks f) comma_flat (family_if (is_generic f) f refl)) (more_families fs)

families : (fs : List (List ℕ)) → SoundMarks (families_marks fs)
families [] = nothing
families (f ∷ fs) = both_marks (family_marks f) (flat_map (λ y. comma ∷ family_marks y) fs) (family_if (is_generic f) f refl) (more_families fs)

simples : (s : Simple) → IsSimple s → SoundMarks (simple_marks s)
simples (simple.Color c) h = colors c h
simples (simple.Dimension s) h = sizes s h
simples (simple.FontFamily fs) h = families fs
simples (simple.FontWeight w) h = numbers w h.exact
simples (simple.Duration t) h = times_sound t h
simples (simple.CubicBezier c) h = curves c h
simples (simple.Number d) h = numbers d h

stroke_words : (w : StrokeWord) → is_word (stroke_word_name w) ≡ true
stroke_words Solid = refl
stroke_words Dashed = refl
stroke_words Dotted = refl
stroke_words Double = refl
stroke_words Groove = refl
stroke_words Ridge = refl
stroke_words Outset = refl
stroke_words Inset = refl

strokes : (s : Stroke) → SoundMarks (stroke_marks s)
strokes (stroke.Word w) = one_mark _ (word_flat (stroke_word_name w) (stroke_words w))
strokes (stroke.Dashes lengths cap) = nothing

inset_sound : (b : Bool) → SoundMarks (inset_marks b)
inset_sound true = one_mark _ (word_flat (codes "inset") refl)
inset_sound false = nothing

-- parts
abbrev SoundPart : Part → Type 0
SoundPart p = Sound (shown_part p)

abbrev SoundParts : List Part → Type 0
SoundParts ps = AllByRecursion SoundPart ps

shown_sound : (ps : List Part) → SoundParts ps → Sound (shown ps)
shown_sound [] h = nothing
shown_sound (p ∷ ps) h = both_sound (shown_part p) (shown ps) h.0 (shown_sound ps h.1)

name_sound : (n : List ℕ) → is_property n ≡ true → Sound (var n ∷ [])
name_sound n h = record { spellable = (h, tt); closed = λ k qs. refl }

module _ (prefix : List ℕ) where
  -- the name of a target is a name of CSS
  abbrev IsNamed : Option (List (List ℕ)) → Type 0
  IsNamed None = Unit {0}
  IsNamed (Some u) = is_property (css_name prefix u) ≡ true

  part_sound : (o : Option (List (List ℕ))) (ms : List Mark) → IsNamed o → SoundMarks ms → SoundPart (linked_or_plain prefix o ms)
  part_sound None ms n h = h
  part_sound (Some u) ms n h = name_sound (css_name prefix u) n

  unless_sound : (o : Option (List (List ℕ))) (ms : List Mark) (ps : List Part) → IsNamed o → SoundParts ps → SoundParts (unless_linked prefix o ms ps)
  unless_sound None ms ps n h = h
  unless_sound (Some u) ms ps n h = (name_sound (css_name prefix u) n, tt)

  if_named : (b : Bool) (x y : Option (List (List ℕ))) → IsNamed x → IsNamed y → IsNamed (if b then x else y)
  if_named true x y h i = h
  if_named false x y h i = i

  or_named : (x y : Option (List (List ℕ))) → IsNamed x → IsNamed y → IsNamed (option_or x y)
  or_named None y h i = i
  or_named (Some u) y h i = h

  link_named : (links : List Link) → AllByRecursion (λ l. is_property (css_name prefix l.target) ≡ true) links → (trail : List (List ℕ)) (k : Kind) → IsNamed (link_for links trail k)
  link_named [] h trail k = tt
  link_named (l ∷ ls) h trail k = if_named _ (Some l.target) (link_for ls trail k) h.0 (link_named ls h.1 trail k)

-- items
module _ {A : Type 0} (f : ℕ → A → List Part) (P : A → Type 0) (each : (i : ℕ) (x : A) → P x → SoundParts (f i x)) where
  behind_sound : (i : ℕ) (xs : List A) → AllByRecursion P xs → SoundParts (behind_commas f i xs)
  behind_sound i [] h = tt
  behind_sound i (x ∷ xs) h = (one_mark comma comma_flat, all-append SoundPart (f i x) (behind_commas f (i + 1) xs) (each i x h.0) (behind_sound (i + 1) xs h.1))

  listed_sound : (xs : List A) → AllByRecursion P xs → SoundParts (listed_parts f xs)
  listed_sound [] h = tt
  listed_sound (x ∷ xs) h = all-append SoundPart (f 0 x) (behind_commas f 1 xs) (each 0 x h.0) (behind_sound 1 xs h.1)

module _ (prefix : List ℕ) (links : List Link) (named : AllByRecursion (λ l. is_property (css_name prefix l.target) ≡ true) links) where
  member_sound : (name : List ℕ) (k : Kind) (ms : List Mark) → SoundMarks ms → SoundPart (linked_or_plain prefix (link_for links (name ∷ []) k) ms)
  member_sound name k ms h = part_sound prefix (link_for links (name ∷ []) k) ms (link_named prefix links named (name ∷ []) k) h

  border_sound : (b : Border) → IsBorder b → SoundParts (border_parts prefix links b)
  border_sound b h = (
    member_sound (codes "width") kind.Dimension (size_marks b.width) (sizes b.width h.width),
    (
      member_sound (codes "style") kind.StrokeStyle (stroke_marks b.style) (strokes b.style),
      (member_sound (codes "color") kind.Color (color_marks b.color) (colors b.color h.color), tt),
    ),
  )

  transition_sound : (t : Transition) → IsTransition t → SoundParts (transition_parts prefix links t)
  transition_sound t h = (
    member_sound (codes "duration") kind.Duration (time_marks t.duration) (times_sound t.duration h.duration),
    (
      member_sound (codes "timingFunction") kind.CubicBezier (curve_marks t.timing) (curves t.timing h.timing),
      (member_sound (codes "delay") kind.Duration (time_marks t.delay) (times_sound t.delay h.delay), tt),
    ),
  )

  item_sound : (only : Bool) (i : ℕ) (name : List ℕ) (k : Kind) (ms : List Mark) → SoundMarks ms → SoundPart (linked_or_plain prefix (item_link links only (decimal i) name k) ms)
  item_sound only i name k ms h = part_sound prefix (item_link links only (decimal i) name k) ms
      (or_named prefix (if only then link_for links (name ∷ []) k else None) (link_for links (decimal i ∷ name ∷ []) k)
      (if_named prefix only (link_for links (name ∷ []) k) None (link_named prefix links named (name ∷ []) k) tt) (link_named prefix links named (decimal i ∷ name ∷ []) k)) h

  shadow_sound : (only : Bool) (i : ℕ) (s : ShadowItem) → IsShadowItem s → SoundParts (shadow_parts prefix links only i s)
  shadow_sound only i s h = (
    inset_sound s.inset,
    (
      item_sound only i (codes "offsetX") kind.Dimension (size_marks s.offset_x) (sizes s.offset_x h.offset_x),
      (
        item_sound only i (codes "offsetY") kind.Dimension (size_marks s.offset_y) (sizes s.offset_y h.offset_y),
        (
          item_sound only i (codes "blur") kind.Dimension (size_marks s.blur) (sizes s.blur h.blur),
          (
            item_sound only i (codes "spread") kind.Dimension (size_marks s.spread) (sizes s.spread h.spread),
            (item_sound only i (codes "color") kind.Color (color_marks s.color) (colors s.color h.color), tt),
          ),
        ),
      ),
    ),
  )

  stop_sound : (only : Bool) (i : ℕ) (s : ColorStop) → IsColorStop s → SoundParts (stop_parts prefix links only i s)
  stop_sound only i s h = (
    item_sound false i (codes "color") kind.Color (color_marks s.color) (colors s.color h.color),
    (one_mark (position_mark s.position) (record { spellable = times_dec s.position 100 h.position.exact (omega arith); opens_none = refl; closes_none = refl }), tt),
  )

  value_sound : (whole : Option (List (List ℕ))) (v : Typed) → IsNamed prefix whole → IsTyped v → SoundParts (value_parts prefix links whole v)
  value_sound whole (typed.Simple s) n h = (part_sound prefix whole (simple_marks s) n (simples s h), tt)
  value_sound whole (typed.StrokeStyle s) n h = (part_sound prefix whole (stroke_marks s) n (strokes s), tt)
  value_sound whole (typed.Border b) n h = unless_sound prefix whole (border_marks b) (border_parts prefix links b) n (border_sound b h)
  value_sound whole (typed.Transition t) n h = unless_sound prefix whole (transition_marks t) (transition_parts prefix links t) n (transition_sound t h)
  value_sound whole (typed.Shadow items) n h = unless_sound prefix whole (listed shadow_marks items) (listed_parts (shadow_parts prefix links (is_only items)) items) n
      (listed_sound (shadow_parts prefix links (is_only items)) IsShadowItem (shadow_sound (is_only items)) items h.every)
  value_sound whole (typed.Gradient stops) n h = unless_sound prefix whole (listed stop_marks stops) (listed_parts (stop_parts prefix links (is_only stops)) stops) n
      (listed_sound (stop_parts prefix links (is_only stops)) IsColorStop (stop_sound (is_only stops)) stops h.every)
  value_sound whole (typed.Typography t) n h = tt

  one_sound : (name : List ℕ) (ps : List Part) → is_property name ≡ true → SoundParts ps → IsLine (record { name = name; pieces = shown ps })
  one_sound name ps n h =
      let s = shown_sound ps h in
      record { name = n; pieces = s.spellable; closed = rw (← append-nil (shown ps)) (s.closed 0 []) }

  typography_sound : (whole : Option (List (List ℕ))) (member : List ℕ) (k : Kind) (ending : List ℕ) (ms : List Mark) → IsNamed prefix whole → list_all (is_kept Css) ending ≡ true → SoundMarks ms
      → SoundPart (typography_part prefix links (option_map (css_name prefix) whole) member k ending ms)
  typography_sound None member k ending ms n e h = member_sound member k ms h
  typography_sound (Some u) member k ending ms n e h = name_sound (css_name prefix u ++ ending) (endings_stay Css (css_name prefix u) ending n e)

  ended_sound : (name : List ℕ) (whole : Option (List (List ℕ))) (member : List ℕ) (k : Kind) (ending : List ℕ) (ms : List Mark) → is_property name ≡ true → IsNamed prefix whole → list_all (is_kept Css) ending ≡ true → SoundMarks ms
      → IsLine (declaration (typography_line prefix links name (option_map (css_name prefix) whole) member k ending ms))
  ended_sound name whole member k ending ms n w e h =
      one_sound (name ++ ending) (typography_part prefix links (option_map (css_name prefix) whole) member k ending ms ∷ []) (endings_stay Css name ending n e)
      (typography_sound whole member k ending ms w e h, tt)

  lines_sound : (name : List ℕ) (whole : Option (List (List ℕ))) (v : Typed) → is_property name ≡ true → IsNamed prefix whole → IsTyped v
      → AllByRecursion IsLine (map declaration (lines_of prefix links name whole v))
  lines_sound name whole (typed.Simple s) n w h = (one_sound name (value_parts prefix links whole (typed.Simple s)) n (value_sound whole (typed.Simple s) w h), tt)
  lines_sound name whole (typed.StrokeStyle s) n w h = (one_sound name (value_parts prefix links whole (typed.StrokeStyle s)) n (value_sound whole (typed.StrokeStyle s) w h), tt)
  lines_sound name whole (typed.Border b) n w h = (one_sound name (value_parts prefix links whole (typed.Border b)) n (value_sound whole (typed.Border b) w h), tt)
  lines_sound name whole (typed.Transition t) n w h = (one_sound name (value_parts prefix links whole (typed.Transition t)) n (value_sound whole (typed.Transition t) w h), tt)
  lines_sound name whole (typed.Shadow items) n w h = (one_sound name (value_parts prefix links whole (typed.Shadow items)) n (value_sound whole (typed.Shadow items) w h), tt)
  lines_sound name whole (typed.Gradient stops) n w h = (one_sound name (value_parts prefix links whole (typed.Gradient stops)) n (value_sound whole (typed.Gradient stops) w h), tt)
  lines_sound name whole (typed.Typography t) n w h = (
    ended_sound name whole (codes "fontFamily") kind.FontFamily (family_end Css) (families_marks t.family) n w refl (families t.family),
    (
      ended_sound name whole (codes "fontSize") kind.Dimension (size_end Css) (size_marks t.size) n w refl (sizes t.size h.size),
      (
        ended_sound name whole (codes "fontWeight") kind.FontWeight (weight_end Css) (number_marks t.weight) n w refl (numbers t.weight h.weight.exact),
        (
          ended_sound name whole (codes "letterSpacing") kind.Dimension (spacing_end Css) (size_marks t.spacing) n w refl (sizes t.spacing h.spacing),
          (ended_sound name whole (codes "lineHeight") kind.Number (height_end Css) (number_marks t.line_height) n w refl (numbers t.line_height h.line_height), tt),
        ),
      ),
    ),
  )

  sound_if : (b : Bool) (es : List NamedParts) → AllByRecursion IsLine (map declaration es) → AllByRecursion IsLine (map declaration (if b then es else []))
  sound_if true es h = h
  sound_if false es h = tt

  pub entries_sound : (name : List ℕ) (v : Typed) → is_property name ≡ true → IsTyped v → AllByRecursion IsLine (map declaration (entries prefix links name v))
  entries_sound name v n h = sound_if (can_spell v) (lines_of prefix links name (link_for links [] (kind_of v)) v)
      (lines_sound name (link_for links [] (kind_of v)) v n (link_named prefix links named [] (kind_of v)) h)
