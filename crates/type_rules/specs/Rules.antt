-- The names of the rules of values.
use Rattle.std.specs.Prelude.{ℕ, List, codes}
use Rattle.type_rules.specs.declared.fault.ValueRule.{ValueRule}
use Rattle.type_rules.specs.declared.fault.ValueRule.TheVariants.{ValueShape, NumberWide, DimensionUnit, DurationUnit, BezierRange, WeightRange, WeightWord, ColorSpace, ColorRange, ColorAlpha, ColorHex, StrokeWord, StrokeCap, LegacyText}

abbrev pub rule_name : ValueRule → List ℕ
rule_name ValueShape = codes "value-shape"
rule_name NumberWide = codes "number-wide"
rule_name DimensionUnit = codes "dimension-unit"
rule_name DurationUnit = codes "duration-unit"
rule_name BezierRange = codes "bezier-range"
rule_name WeightRange = codes "weight-range"
rule_name WeightWord = codes "weight-word"
rule_name ColorSpace = codes "color-space"
rule_name ColorRange = codes "color-range"
rule_name ColorAlpha = codes "color-alpha"
rule_name ColorHex = codes "color-hex"
rule_name StrokeWord = codes "stroke-word"
rule_name StrokeCap = codes "stroke-cap"
rule_name LegacyText = codes "legacy-text"
