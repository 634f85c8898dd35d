-- The names of the thirteen kinds of tokens.
use Rattle.std.specs.Prelude.{ℕ, Bool, true, false, List, codes}
use Rattle.name_path.specs.declared.kind.Kind.{Kind}
use Rattle.name_path.specs.declared.kind.Kind.TheVariants.{Color, Dimension, FontFamily, FontWeight, Duration, CubicBezier, Number, StrokeStyle, Border, Transition, Shadow, Gradient, Typography}

-- the kind as `$type` spells it
abbrev pub kind_name : Kind → List ℕ
kind_name Color = codes "color"
kind_name Dimension = codes "dimension"
kind_name FontFamily = codes "fontFamily"
kind_name FontWeight = codes "fontWeight"
kind_name Duration = codes "duration"
kind_name CubicBezier = codes "cubicBezier"
kind_name Number = codes "number"
kind_name StrokeStyle = codes "strokeStyle"
kind_name Border = codes "border"
kind_name Transition = codes "transition"
kind_name Shadow = codes "shadow"
kind_name Gradient = codes "gradient"
kind_name Typography = codes "typography"

-- whether the values of the kind are made of no values of other kinds
abbrev pub is_simple_kind : Kind → Bool
is_simple_kind Color = true
is_simple_kind Dimension = true
is_simple_kind FontFamily = true
is_simple_kind FontWeight = true
is_simple_kind Duration = true
is_simple_kind CubicBezier = true
is_simple_kind Number = true
is_simple_kind StrokeStyle = false
is_simple_kind Border = false
is_simple_kind Transition = false
is_simple_kind Shadow = false
is_simple_kind Gradient = false
is_simple_kind Typography = false
