-- What typed values keep, so that writers may rest on it.
use Rattle.std.specs.Prelude.{◌≢◌, List, [], ⊤}
use Rattle.std.specs.List.{AllByRecursion}
use Rattle.dec_fix.specs.Decimal.{IsExact}
use Rattle.name_path.specs.declared.kind.Kind.{Kind}
use Rattle.name_path.specs.declared.kind.Kind.TheVariants as kind
use Rattle.type_rules.specs.Sound.{kind_of as simple_kind_of, IsColor, IsSize, IsTime, IsCurve, IsFamilies, IsWeight, IsShare, IsSimple}
use Rattle.composite_rules.specs.declared.stroke.Stroke.{Stroke}
use Rattle.composite_rules.specs.declared.stroke.Stroke.TheVariants as stroke
use Rattle.composite_rules.specs.declared.border.Border.{Border}
use Rattle.composite_rules.specs.declared.transition.Transition.{Transition}
use Rattle.composite_rules.specs.declared.shadow.ShadowItem.{ShadowItem}
use Rattle.composite_rules.specs.declared.gradient.ColorStop.{ColorStop}
use Rattle.composite_rules.specs.declared.typography.Typography.{Typography}
use Rattle.composite_rules.specs.declared.typed.Typed.{Typed}
use Rattle.composite_rules.specs.declared.typed.Typed.TheVariants as typed

-- the kind of a value
abbrev pub kind_of : Typed → Kind
kind_of (typed.Simple s) = simple_kind_of s
kind_of (typed.StrokeStyle s) = kind.StrokeStyle
kind_of (typed.Border b) = kind.Border
kind_of (typed.Transition t) = kind.Transition
kind_of (typed.Shadow items) = kind.Shadow
kind_of (typed.Gradient stops) = kind.Gradient
kind_of (typed.Typography t) = kind.Typography

abbrev pub IsStroke : Stroke → Type 0
IsStroke (stroke.Word word) = ⊤
IsStroke (stroke.Dashes lengths cap) = AllByRecursion IsSize lengths

pub record IsBorder (b : Border) : Type 0 where
  pub color : IsColor b.color
  pub width : IsSize b.width
  pub style : IsStroke b.style

pub record IsTransition (t : Transition) : Type 0 where
  pub duration : IsTime t.duration
  pub delay : IsTime t.delay
  pub timing : IsCurve t.timing

pub record IsShadowItem (item : ShadowItem) : Type 0 where
  pub color : IsColor item.color
  pub offset_x : IsSize item.offset_x
  pub offset_y : IsSize item.offset_y
  pub blur : IsSize item.blur
  pub spread : IsSize item.spread

-- one or more
pub record IsShadows (items : List ShadowItem) : Type 0 where
  pub some : items ≢ []
  pub every : AllByRecursion IsShadowItem items

pub record IsColorStop (stop : ColorStop) : Type 0 where
  pub color : IsColor stop.color
  pub position : IsShare stop.position

-- one or more
pub record IsStops (stops : List ColorStop) : Type 0 where
  pub some : stops ≢ []
  pub every : AllByRecursion IsColorStop stops

pub record IsTypography (t : Typography) : Type 0 where
  pub family : IsFamilies t.family
  pub size : IsSize t.size
  pub weight : IsWeight t.weight
  pub spacing : IsSize t.spacing
  pub line_height : IsExact t.line_height

abbrev pub IsTyped : Typed → Type 0
IsTyped (typed.Simple s) = IsSimple s
IsTyped (typed.StrokeStyle s) = IsStroke s
IsTyped (typed.Border b) = IsBorder b
IsTyped (typed.Transition t) = IsTransition t
IsTyped (typed.Shadow items) = IsShadows items
IsTyped (typed.Gradient stops) = IsStops stops
IsTyped (typed.Typography t) = IsTypography t
