-- Values without the `hex` of their colours, which CSS does not spell.
use Rattle.std.specs.Prelude.{map, None}
use Rattle.type_rules.specs.declared.color.Color.{Color}
use Rattle.type_rules.specs.declared.simple.Simple.{Simple}
use Rattle.type_rules.specs.declared.simple.Simple.TheVariants as simple
use Rattle.composite_rules.specs.declared.border.Border.{Border}
use Rattle.composite_rules.specs.declared.gradient.ColorStop.{ColorStop}
use Rattle.composite_rules.specs.declared.shadow.ShadowItem.{ShadowItem}
use Rattle.composite_rules.specs.declared.typed.Typed.{Typed}
use Rattle.composite_rules.specs.declared.typed.Typed.TheVariants as typed

abbrev pub color_without_hex : Color → Color
color_without_hex c =
    record { space = c.space; first = c.first; second = c.second; third = c.third; alpha = c.alpha; hex = None }

abbrev pub simple_without_hex : Simple → Simple
simple_without_hex (simple.Color c) = simple.Color (color_without_hex c)
simple_without_hex (simple.Dimension s) = simple.Dimension s
simple_without_hex (simple.FontFamily families) = simple.FontFamily families
simple_without_hex (simple.FontWeight w) = simple.FontWeight w
simple_without_hex (simple.Duration t) = simple.Duration t
simple_without_hex (simple.CubicBezier c) = simple.CubicBezier c
simple_without_hex (simple.Number d) = simple.Number d

abbrev pub border_without_hex : Border → Border
border_without_hex b = record { color = color_without_hex b.color; width = b.width; style = b.style }

abbrev pub item_without_hex : ShadowItem → ShadowItem
item_without_hex i = record {
  color = color_without_hex i.color;
  offset_x = i.offset_x;
  offset_y = i.offset_y;
  blur = i.blur;
  spread = i.spread;
  inset = i.inset;
}

abbrev pub stop_without_hex : ColorStop → ColorStop
stop_without_hex s = record { color = color_without_hex s.color; position = s.position }

abbrev pub without_hex : Typed → Typed
without_hex (typed.Simple s) = typed.Simple (simple_without_hex s)
without_hex (typed.StrokeStyle s) = typed.StrokeStyle s
without_hex (typed.Border b) = typed.Border (border_without_hex b)
without_hex (typed.Transition t) = typed.Transition t
without_hex (typed.Shadow items) = typed.Shadow (map item_without_hex items)
without_hex (typed.Gradient stops) = typed.Gradient (map stop_without_hex stops)
without_hex (typed.Typography t) = typed.Typography t
