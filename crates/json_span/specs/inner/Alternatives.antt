-- The alternatives of a value, by the byte with which each begins.
use Rattle.std.specs.Prelude.{ℕ, ◌||◌, Option, Some, None, if◌then◌else◌}
use Rattle.grammar.specs.Grammar.{Rule, named, within}
use Rattle.json_span.specs.Grammar.{Name, number, string, false_word, null_word, true_word}
use Rattle.json_span.specs.Predictive as predictive
use Rattle.json_span.specs.Predictive.{list_of}
use Rattle.json_span.specs.declared.alternative.Bracket.{Bracket}
use Rattle.json_span.specs.declared.alternative.Bracket.TheVariants.{Square, Curly}
use Rattle.json_span.specs.declared.alternative.Alternative.{Alternative}
use Rattle.json_span.specs.declared.alternative.Alternative.TheVariants.{Scalar as AScalar, List}
use Rattle.json_span.specs.declared.alternative.Scalar.{Scalar}
use Rattle.json_span.specs.declared.alternative.Scalar.TheVariants.{False, Null, True, Number, String}

abbrev pub bracket_of : Bracket → predictive.Bracket
bracket_of Square = predictive.square
bracket_of Curly = predictive.curly

abbrev pub rule_of_scalar : Scalar → Rule Name
rule_of_scalar False = false_word
rule_of_scalar Null = null_word
rule_of_scalar True = true_word
rule_of_scalar Number = named number
rule_of_scalar String = named string

abbrev pub rule_of_alternative : Alternative → Rule Name
rule_of_alternative (AScalar s) = rule_of_scalar s
rule_of_alternative (List b) = list_of (bracket_of b)

abbrev pub alternative_of : ℕ → Option Alternative
alternative_of c =
    if within 102 102 c then Some (AScalar False) else
    (if within 110 110 c then Some (AScalar Null) else
    (if within 116 116 c then Some (AScalar True) else
    (if within 123 123 c then Some (List Curly) else
    (if within 91 91 c then Some (List Square) else
    (if within 45 45 c || within 48 57 c then Some (AScalar Number) else
    (if within 34 34 c then Some (AScalar String) else None))))))
