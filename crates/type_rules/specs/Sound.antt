-- What typed values keep, so that writers may rest on it.
use Rattle.std.specs.Prelude.{◌≡◌, ◌≢◌, ℕ, true, List, [], Bool, ◌||◌, length, IfSome}
use Rattle.std.specs.Int.{is_in_range}
use Rattle.std.specs.List.{list_all}
use Rattle.dec_fix.specs.Decimal.{Decimal, IsExact}
use Rattle.dec_fix.specs.Arithmetic.{IsFromZeroToOne}
use Rattle.name_path.specs.declared.kind.Kind.{Kind}
use Rattle.name_path.specs.declared.kind.Kind.TheVariants as kind
use Rattle.type_rules.specs.declared.range.Range.{Range}
use Rattle.type_rules.specs.declared.range.Range.TheVariants.{Within}
use Rattle.type_rules.specs.declared.color.Color.{Color}
use Rattle.type_rules.specs.declared.size.Size.{Size}
use Rattle.type_rules.specs.declared.time.Time.{Time}
use Rattle.type_rules.specs.declared.curve.Curve.{Curve}
use Rattle.type_rules.specs.declared.simple.Simple.{Simple}
use Rattle.type_rules.specs.declared.simple.Simple.TheVariants as simple
use Rattle.type_rules.specs.Ranges.{holds, ranges_of}

-- the kind of a value
abbrev pub kind_of : Simple → Kind
kind_of (simple.Color c) = kind.Color
kind_of (simple.Dimension s) = kind.Dimension
kind_of (simple.FontFamily fs) = kind.FontFamily
kind_of (simple.FontWeight w) = kind.FontWeight
kind_of (simple.Duration t) = kind.Duration
kind_of (simple.CubicBezier c) = kind.CubicBezier
kind_of (simple.Number d) = kind.Number

-- a number that is read, and lies in the range
pub record IsInRange (range : Range) (d : Decimal) : Type 0 where
  pub exact : IsExact d
  pub within : holds range d ≡ true

-- a number that is read, from 0 to 1
pub record IsShare (d : Decimal) : Type 0 where
  pub exact : IsExact d
  pub part : IsFromZeroToOne d

-- a digit of a hexadecimal number in lower case
abbrev pub is_hex_digit : ℕ → Bool
is_hex_digit b = is_in_range 48 57 b || is_in_range 97 102 b

pub record IsHex (digits : List ℕ) : Type 0 where
  pub six : length digits ≡ 6
  pub lower : list_all is_hex_digit digits ≡ true

-- each component is none or in its range
pub record IsColor (c : Color) : Type 0 where
  pub first : IfSome c.first (IsInRange (ranges_of c.space).first)
  pub second : IfSome c.second (IsInRange (ranges_of c.space).second)
  pub third : IfSome c.third (IsInRange (ranges_of c.space).third)
  pub alpha : IsShare c.alpha
  pub hex : IfSome c.hex IsHex

abbrev pub IsSize : Size → Type 0
IsSize s = IsExact s.value

abbrev pub IsTime : Time → Type 0
IsTime t = IsExact t.value

abbrev pub IsFamilies : List (List ℕ) → Type 0
IsFamilies families = families ≢ []

abbrev pub IsWeight : Decimal → Type 0
IsWeight d = IsInRange (Within 1 1000) d

pub record IsCurve (c : Curve) : Type 0 where
  pub x1 : IsShare c.x1
  pub y1 : IsExact c.y1
  pub x2 : IsShare c.x2
  pub y2 : IsExact c.y2

abbrev pub IsSimple : Simple → Type 0
IsSimple (simple.Color c) = IsColor c
IsSimple (simple.Dimension s) = IsSize s
IsSimple (simple.FontFamily fs) = IsFamilies fs
IsSimple (simple.FontWeight w) = IsWeight w
IsSimple (simple.Duration t) = IsTime t
IsSimple (simple.CubicBezier c) = IsCurve c
IsSimple (simple.Number d) = IsExact d
