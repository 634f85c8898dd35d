-- The lines of a token: its values in parts, each by itself or by the name of the token to which a link at the part leads.
use Rattle.std.specs.Prelude.{ℕ, ◌+◌, ◌==◌, length, option_map, Bool, false, List, [], ◌∷◌, ◌++◌, codes, Option, Some, None, if◌then◌else◌}
use Rattle.std.specs.Fmt.{decimal}
use Rattle.name_path.specs.declared.kind.Kind.{Kind}
use Rattle.name_path.specs.declared.kind.Kind.TheVariants as kind
use Rattle.name_path.specs.declared.link.Link.{Link}
use Rattle.transforms.specs.Config.{Settings}
use Rattle.transforms.specs.FiveNames.{family_end, size_end, weight_end, spacing_end, height_end}
use Rattle.transforms.specs.PlatformName.{name_on}
use Rattle.transforms.specs.declared.platform.Platform.TheVariants.{Css}
use Rattle.composite_rules.specs.Sound.{kind_of}
use Rattle.composite_rules.specs.declared.border.Border.{Border}
use Rattle.composite_rules.specs.declared.gradient.ColorStop.{ColorStop}
use Rattle.composite_rules.specs.declared.shadow.ShadowItem.{ShadowItem}
use Rattle.composite_rules.specs.declared.transition.Transition.{Transition}
use Rattle.composite_rules.specs.declared.typed.Typed.{Typed}
use Rattle.composite_rules.specs.declared.typed.Typed.TheVariants as typed
use Rattle.composite_rules.specs.declared.typography.Typography.{Typography}
use Rattle.css_out.specs.Links.{link_for, item_link}
use Rattle.css_out.specs.Parts.{Part, plain, linked, NamedParts}
use Rattle.css_out.specs.Piece.{Mark, comma}
use Rattle.css_out.specs.PlatformValue.{size_marks, time_marks, number_marks, curve_marks, color_marks, families_marks, stroke_marks, simple_marks, inset_marks, position_mark, listed, border_marks, transition_marks, shadow_marks, stop_marks, can_spell}

-- the name of the token at the path
abbrev pub css_name : List ℕ → List (List ℕ) → List ℕ
css_name prefix path = name_on Css prefix path

-- the links that are spelled as references
abbrev pub spelled_links : Settings → List Link → List Link
spelled_links settings links = if settings.references then links else []

-- a part by itself, or by the name of a target
abbrev pub linked_or_plain : List ℕ → Option (List (List ℕ)) → List Mark → Part
linked_or_plain prefix None marks = plain marks
linked_or_plain prefix (Some target) marks = linked (css_name prefix target) marks

-- a value in parts, or the name of the target of a link in place of all
abbrev pub unless_linked : List ℕ → Option (List (List ℕ)) → List Mark → List Part → List Part
unless_linked prefix None marks parts = parts
unless_linked prefix (Some target) marks parts = linked (css_name prefix target) marks ∷ []

-- the parts of items with commas between, each from its index
abbrev pub behind_commas : {A : Type 0} → (ℕ → A → List Part) → ℕ → List A → List Part
behind_commas f i [] = []
behind_commas f i (x ∷ xs) = plain (comma ∷ []) ∷ (f i x ++ behind_commas f (i + 1) xs)

abbrev pub listed_parts : {A : Type 0} → (ℕ → A → List Part) → List A → List Part
listed_parts f [] = []
listed_parts f (x ∷ xs) = f 0 x ++ behind_commas f 1 xs

abbrev pub is_only : {A : Type 0} → List A → Bool
is_only xs = length xs == 1

-- the name of one line and its parts
abbrev pub line : List ℕ → List Part → NamedParts
line name parts = record { name = name; parts = parts }

module _ (prefix : List ℕ) (links : List Link) where
  abbrev pub member_part : List ℕ → Kind → List Mark → Part
  member_part name kind marks = linked_or_plain prefix (link_for links (name ∷ []) kind) marks

  abbrev pub border_parts : Border → List Part
  border_parts b =
      member_part (codes "width") kind.Dimension (size_marks b.width)
      ∷ member_part (codes "style") kind.StrokeStyle (stroke_marks b.style)
      ∷ member_part (codes "color") kind.Color (color_marks b.color) ∷ []

  abbrev pub transition_parts : Transition → List Part
  transition_parts t =
      member_part (codes "duration") kind.Duration (time_marks t.duration)
      ∷ member_part (codes "timingFunction") kind.CubicBezier (curve_marks t.timing)
      ∷ member_part (codes "delay") kind.Duration (time_marks t.delay) ∷ []

  abbrev pub item_part : Bool → ℕ → List ℕ → Kind → List Mark → Part
  item_part is_only i name kind marks = linked_or_plain prefix (item_link links is_only (decimal i) name kind) marks

  abbrev pub shadow_parts : Bool → ℕ → ShadowItem → List Part
  shadow_parts is_only i item =
      plain (inset_marks item.inset)
      ∷ item_part is_only i (codes "offsetX") kind.Dimension (size_marks item.offset_x)
      ∷ item_part is_only i (codes "offsetY") kind.Dimension (size_marks item.offset_y)
      ∷ item_part is_only i (codes "blur") kind.Dimension (size_marks item.blur)
      ∷ item_part is_only i (codes "spread") kind.Dimension (size_marks item.spread)
      ∷ item_part is_only i (codes "color") kind.Color (color_marks item.color) ∷ []

  abbrev pub stop_parts : Bool → ℕ → ColorStop → List Part
  stop_parts is_only i stop =
      item_part false i (codes "color") kind.Color (color_marks stop.color) ∷ plain (position_mark stop.position ∷ []) ∷ []

  -- the parts of a value that stands in one line, where a link stands at the whole value and where none does
  abbrev pub value_parts : Option (List (List ℕ)) → Typed → List Part
  value_parts whole (typed.Simple s) = linked_or_plain prefix whole (simple_marks s) ∷ []
  value_parts whole (typed.StrokeStyle s) = linked_or_plain prefix whole (stroke_marks s) ∷ []
  value_parts whole (typed.Border b) = unless_linked prefix whole (border_marks b) (border_parts b)
  value_parts whole (typed.Transition t) = unless_linked prefix whole (transition_marks t) (transition_parts t)
  value_parts whole (typed.Shadow items) =
      unless_linked prefix whole (listed shadow_marks items) (listed_parts (shadow_parts (is_only items)) items)
  value_parts whole (typed.Gradient stops) =
      unless_linked prefix whole (listed stop_marks stops) (listed_parts (stop_parts (is_only stops)) stops)
  value_parts whole (typed.Typography t) = []

  -- the part of a typography's line, where a token of this name stands for the whole value and where none does
  abbrev pub typography_part : Option (List ℕ) → List ℕ → Kind → List ℕ → List Mark → Part
  typography_part None name kind ending marks = member_part name kind marks
  typography_part (Some target) name kind ending marks = linked (target ++ ending) marks

  abbrev pub typography_line : List ℕ → Option (List ℕ) → List ℕ → Kind → List ℕ → List Mark → NamedParts
  typography_line name whole member kind ending marks =
      line (name ++ ending) (typography_part whole member kind ending marks ∷ [])

  abbrev pub typography_lines : List ℕ → Option (List ℕ) → Typography → List NamedParts
  typography_lines name whole t =
      typography_line name whole (codes "fontFamily") kind.FontFamily (family_end Css) (families_marks t.family)
      ∷ typography_line name whole (codes "fontSize") kind.Dimension (size_end Css) (size_marks t.size)
      ∷ typography_line name whole (codes "fontWeight") kind.FontWeight (weight_end Css) (number_marks t.weight)
      ∷ typography_line name whole (codes "letterSpacing") kind.Dimension (spacing_end Css) (size_marks t.spacing)
      ∷ typography_line name whole (codes "lineHeight") kind.Number (height_end Css) (number_marks t.line_height) ∷ []

  -- the lines of a value under its name
  abbrev pub lines_of : List ℕ → Option (List (List ℕ)) → Typed → List NamedParts
  lines_of name whole (typed.Simple s) = line name (value_parts whole (typed.Simple s)) ∷ []
  lines_of name whole (typed.StrokeStyle s) = line name (value_parts whole (typed.StrokeStyle s)) ∷ []
  lines_of name whole (typed.Border b) = line name (value_parts whole (typed.Border b)) ∷ []
  lines_of name whole (typed.Transition t) = line name (value_parts whole (typed.Transition t)) ∷ []
  lines_of name whole (typed.Shadow items) = line name (value_parts whole (typed.Shadow items)) ∷ []
  lines_of name whole (typed.Gradient stops) = line name (value_parts whole (typed.Gradient stops)) ∷ []
  lines_of name whole (typed.Typography t) = typography_lines name (option_map (css_name prefix) whole) t

  abbrev pub entries : List ℕ → Typed → List NamedParts
  entries name v = if can_spell v then lines_of name (link_for links [] (kind_of v)) v else []

-- the lines of the token of the name, and of the token at the path
abbrev pub entries_under : Settings → List ℕ → List Link → Typed → List NamedParts
entries_under settings name links v = entries settings.prefix (spelled_links settings links) name v

abbrev pub fragment_entries : Settings → List (List ℕ) → List Link → Typed → List NamedParts
fragment_entries settings path links v = entries_under settings (css_name settings.prefix path) links v
