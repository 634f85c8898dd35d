-- The ranges of numbers.
use Rattle.std.specs.Prelude.{Bool, true, ◌&&◌, Ok, if◌then◌else◌}
use Rattle.std.specs.Ordering.{is_ge, is_le}
use Rattle.dec_fix.specs.Decimal.{Decimal}
use Rattle.dec_fix.specs.Arithmetic.{order_with}
use Rattle.type_rules.specs.declared.fault.ValueRule.{ValueRule}
use Rattle.type_rules.specs.declared.range.Range.{Range}
use Rattle.type_rules.specs.declared.range.Range.TheVariants.{Free, AtLeast, Within}
use Rattle.type_rules.specs.declared.space.Ranges.{Ranges}
use Rattle.type_rules.specs.declared.space.Space.{Space}
use Rattle.type_rules.specs.declared.space.Space.TheVariants.{Srgb, SrgbLinear, DisplayP3, A98Rgb, ProphotoRgb, Rec2020, XyzD65, XyzD50, Hsl, Hwb, Lab, Lch, Oklab, Oklch}
use Rattle.type_rules.specs.Checked.{Checked, broken}

-- whether the number lies in the range, both ends included
abbrev pub holds : Range → Decimal → Bool
holds Free d = true
holds (AtLeast low) d = is_ge (order_with d low)
holds (Within low high) d = is_ge (order_with d low) && is_le (order_with d high)

-- the number, where it lies in the range
unfoldable pub ranged : ValueRule → Range → Decimal → Checked Decimal
ranged rule range d = if holds range d then Ok d else broken rule

abbrev pub share : Range
share = Within 0 1

abbrev pub percent : Range
percent = Within 0 100

abbrev pub hue : Range
hue = Within 0 360

abbrev pub not_negative : Range
not_negative = AtLeast 0

-- the ranges of a colour's three components
abbrev pub three : Range → Range → Range → Ranges
three a b c = record { first = a; second = b; third = c }

abbrev pub ranges_of : Space → Ranges
ranges_of Srgb = three share share share
ranges_of SrgbLinear = three share share share
ranges_of DisplayP3 = three share share share
ranges_of A98Rgb = three share share share
ranges_of ProphotoRgb = three share share share
ranges_of Rec2020 = three share share share
ranges_of XyzD65 = three Free Free Free
ranges_of XyzD50 = three Free Free Free
ranges_of Hsl = three hue percent percent
ranges_of Hwb = three hue percent percent
ranges_of Lab = three percent Free Free
ranges_of Lch = three percent not_negative hue
ranges_of Oklab = three share Free Free
ranges_of Oklch = three share not_negative hue
