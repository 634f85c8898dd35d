-- The lines of a token without references.
use Rattle.std.proofs.Common.{◌≡◌, ℕ, ◌+◌, Bool, true, false, List, [], ◌∷◌, ◌++◌, map, flat_map, refl, ◌∙◌, ap, append-nil, Option, Some, None, option_map, codes}
use Rattle.std.specs.Prelude.{if◌then◌else◌}
use Rattle.std.proofs.lemmas.Grind.{flat_map-append}
use Rattle.std.specs.Fmt.{decimal}
use Rattle.name_path.specs.declared.kind.Kind.{Kind}
use Rattle.name_path.specs.declared.kind.Kind.TheVariants as kind
use Rattle.name_path.specs.declared.link.Link.{Link}
use Rattle.transforms.specs.Config.{Settings}
use Rattle.transforms.specs.FiveNames.{family_end, size_end, weight_end, spacing_end, height_end}
use Rattle.transforms.specs.declared.platform.Platform.TheVariants.{Css}
use Rattle.composite_rules.specs.Sound.{kind_of}
use Rattle.composite_rules.specs.declared.border.Border.{Border}
use Rattle.composite_rules.specs.declared.gradient.ColorStop.{ColorStop}
use Rattle.composite_rules.specs.declared.shadow.ShadowItem.{ShadowItem}
use Rattle.composite_rules.specs.declared.transition.Transition.{Transition}
use Rattle.composite_rules.specs.declared.typed.Typed.{Typed}
use Rattle.composite_rules.specs.declared.typed.Typed.TheVariants as typed
use Rattle.css_out.specs.Links.{link_for, item_link}
use Rattle.css_out.specs.Spelling.{fragment_lines, fragment_names}
use Rattle.css_out.specs.Parts.{declaration, Part, own_part, own, NamedParts, own_value}
use Rattle.css_out.specs.Piece.{Mark, comma, Values, value_names}
use Rattle.css_out.specs.PlatformValue.{size_marks, time_marks, number_marks, curve_marks, color_marks, families_marks, stroke_marks, simple_marks, listed, border_marks, transition_marks, shadow_marks, stop_marks, can_spell, all_values, css_values}
use Rattle.css_out.specs.Fragment.{spelled_links, css_name, linked_or_plain, unless_linked, behind_commas, listed_parts, is_only, border_parts, transition_parts, shadow_parts, stop_parts, typography_part, lines_of, entries}

own-append : (ps qs : List Part) → own (ps ++ qs) ≡ own ps ++ own qs
own-append ps qs = flat_map-append own_part ps qs

module _ (prefix : List ℕ) where
  own_of : (o : Option (List (List ℕ))) (ms : List Mark) → own_part (linked_or_plain prefix o ms) ≡ ms
  own_of None ms = refl
  own_of (Some u) ms = refl

  own_unless : (o : Option (List (List ℕ))) (ms : List Mark) (ps : List Part) → own ps ≡ ms → own (unless_linked prefix o ms ps) ≡ ms
  own_unless None ms ps h = h
  own_unless (Some u) ms ps h = append-nil ms

-- lists with commas
module _ {A : Type 0} (f : ℕ → A → List Part) (g : A → List Mark) (each : (i : ℕ) (x : A) → own (f i x) ≡ g x) where
  own_behind : (i : ℕ) (xs : List A) → own (behind_commas f i xs) ≡ flat_map (λ y. comma ∷ g y) xs
  own_behind i [] = refl
  own_behind i (x ∷ xs) = ap (λ ms. comma ∷ ms) (own-append (f i x) (behind_commas f (i + 1) xs) ∙ rw (each i x, own_behind (i + 1) xs) refl)

  own_listed : (xs : List A) → own (listed_parts f xs) ≡ listed g xs
  own_listed [] = refl
  own_listed (x ∷ xs) = own-append (f 0 x) (behind_commas f 1 xs) ∙ rw (each 0 x, own_behind 1 xs) refl

module _ (prefix : List ℕ) (links : List Link) where
  own_member : (name : List ℕ) (k : Kind) (ms : List Mark) → own_part (linked_or_plain prefix (link_for links (name ∷ []) k) ms) ≡ ms
  own_member name k ms = own_of prefix (link_for links (name ∷ []) k) ms

  own_border : (b : Border) → own (border_parts prefix links b) ≡ border_marks b
  own_border b = rw (
    own_member (codes "width") kind.Dimension (size_marks b.width),
    own_member (codes "style") kind.StrokeStyle (stroke_marks b.style),
    own_member (codes "color") kind.Color (color_marks b.color),
    append-nil (color_marks b.color),
  ) refl

  own_transition : (t : Transition) → own (transition_parts prefix links t) ≡ transition_marks t
  own_transition t = rw (
    own_member (codes "duration") kind.Duration (time_marks t.duration),
    own_member (codes "timingFunction") kind.CubicBezier (curve_marks t.timing),
    own_member (codes "delay") kind.Duration (time_marks t.delay),
  ) refl

  own_item : (only : Bool) (i : ℕ) (name : List ℕ) (k : Kind) (ms : List Mark) → own_part (linked_or_plain prefix (item_link links only (decimal i) name k) ms) ≡ ms
  own_item only i name k ms = own_of prefix (item_link links only (decimal i) name k) ms

  own_shadow : (only : Bool) (i : ℕ) (s : ShadowItem) → own (shadow_parts prefix links only i s) ≡ shadow_marks s
  own_shadow only i s = rw (
    own_item only i (codes "offsetX") kind.Dimension (size_marks s.offset_x),
    own_item only i (codes "offsetY") kind.Dimension (size_marks s.offset_y),
    own_item only i (codes "blur") kind.Dimension (size_marks s.blur),
    own_item only i (codes "spread") kind.Dimension (size_marks s.spread),
    own_item only i (codes "color") kind.Color (color_marks s.color),
    append-nil (color_marks s.color),
  ) refl

  own_stop : (only : Bool) (i : ℕ) (s : ColorStop) → own (stop_parts prefix links only i s) ≡ stop_marks s
  own_stop only i s = rw (own_item false i (codes "color") kind.Color (color_marks s.color)) refl

  own_line : (whole : Option (List ℕ)) (name : List ℕ) (k : Kind) (ending : List ℕ) (ms : List Mark) → own (typography_part prefix links whole name k ending ms ∷ []) ≡ ms
  own_line None name k ending ms = rw (own_member name k ms) (append-nil ms)
  own_line (Some u) name k ending ms = append-nil ms

  own_one : (whole : Option (List (List ℕ))) (ms : List Mark) → own (linked_or_plain prefix whole ms ∷ []) ≡ ms
  own_one whole ms = rw (own_of prefix whole ms) (append-nil ms)

  own_lines : (name : List ℕ) (whole : Option (List (List ℕ))) (v : Typed) → map own_value (lines_of prefix links name whole v) ≡ all_values name v
  own_lines name whole (typed.Simple s) = ap (λ ms. (name, ms) ∷ []) (own_one whole (simple_marks s))
  own_lines name whole (typed.StrokeStyle s) = ap (λ ms. (name, ms) ∷ []) (own_one whole (stroke_marks s))
  own_lines name whole (typed.Border b) = ap (λ ms. (name, ms) ∷ []) (own_unless prefix whole (border_marks b) (border_parts prefix links b) (own_border b))
  own_lines name whole (typed.Transition t) = ap (λ ms. (name, ms) ∷ []) (own_unless prefix whole (transition_marks t) (transition_parts prefix links t) (own_transition t))
  own_lines name whole (typed.Shadow items) = ap (λ ms. (name, ms) ∷ [])
      (own_unless prefix whole (listed shadow_marks items) (listed_parts (shadow_parts prefix links (is_only items)) items)
      (own_listed (shadow_parts prefix links (is_only items)) shadow_marks (own_shadow (is_only items)) items))
  own_lines name whole (typed.Gradient stops) = ap (λ ms. (name, ms) ∷ [])
      (own_unless prefix whole (listed stop_marks stops) (listed_parts (stop_parts prefix links (is_only stops)) stops)
      (own_listed (stop_parts prefix links (is_only stops)) stop_marks (own_stop (is_only stops)) stops))
  own_lines name whole (typed.Typography t) =
      let w = option_map (css_name prefix) whole in
      rw (
        own_line w (codes "fontFamily") kind.FontFamily (family_end Css) (families_marks t.family),
        own_line w (codes "fontSize") kind.Dimension (size_end Css) (size_marks t.size),
        own_line w (codes "fontWeight") kind.FontWeight (weight_end Css) (number_marks t.weight),
        own_line w (codes "letterSpacing") kind.Dimension (spacing_end Css) (size_marks t.spacing),
        own_line w (codes "lineHeight") kind.Number (height_end Css) (number_marks t.line_height),
      ) refl

  map_if : (b : Bool) (es : List NamedParts) (vs : Values) → map own_value es ≡ vs → map own_value (if b then es else []) ≡ (if b then vs else [])
  map_if true es vs h = h
  map_if false es vs h = refl

  pub own_values : (name : List ℕ) (v : Typed) → map own_value (entries prefix links name v) ≡ css_values name v
  own_values name v = map_if (can_spell v) (lines_of prefix links name (link_for links [] (kind_of v)) v) (all_values name v) (own_lines name (link_for links [] (kind_of v)) v)

-- the names of lines are those of their values
pub entry_names : (es : List NamedParts) → map (λ e. e.name) es ≡ value_names (map own_value es)
entry_names [] = refl
entry_names (e ∷ es) = ap (λ ns. e.name ∷ ns) (entry_names es)

-- lines declare the names of their values
line_names : (es : List NamedParts) → map (λ d. d.name) (map declaration es) ≡ value_names (map own_value es)
line_names [] = refl
line_names (e ∷ es) = ap (λ ns. e.name ∷ ns) (line_names es)

pub lines_named : (settings : Settings) (path : List (List ℕ)) (links : List Link) (v : Typed) → map (λ d. d.name) (fragment_lines settings path links v) ≡ fragment_names settings path v
lines_named settings path links v =
    let name = css_name settings.prefix path in
    let spelled = spelled_links settings links in
    line_names (entries settings.prefix spelled name v) ∙ ap value_names (own_values settings.prefix spelled name v)
