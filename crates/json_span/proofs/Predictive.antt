-- One byte ahead decides in the grammar for predictive reading, and each of its rules derives some text.
use Rattle.std.proofs.Common.{◌≡◌, ℕ, List, [], ◌∷◌, refl, true}
use Rattle.grammar.specs.Grammar.{Derives, EachPasses, no_byte, one_byte, both, left, right, no_more, by_name, named}
use Rattle.grammar.specs.Predict.{IsHonest, IsSteered}
use Rattle.grammar.specs.Ranges.{is_honest_at}
use Rattle.grammar.proofs.Tables.{honest, steered_from, passes_from}
use Rattle.json_span.specs.Grammar.{Name, value, number, string}
use Rattle.json_span.specs.Predictive.{rules, table, ahead, json}

tests : (n : Name) → is_honest_at rules table n ≡ true
tests value = refl
tests number = refl
tests string = refl

pub honest_json : IsHonest rules ahead
honest_json = honest table rules tests

pub steered_json : IsSteered ahead json
steered_json = steered_from table json refl

-- the number 0 as a number and as a value, and the empty string
pub zero_text : Derives rules (named number) (48 ∷ [])
zero_text = by_name (both (right no_byte) (both (left (one_byte refl)) (both (right no_byte) (right no_byte))))

pub zero_value : Derives rules (named value) (48 ∷ [])
zero_value = by_name (right (right (right (right (right (left zero_text))))))

pub empty_string : Derives rules (named string) (34 ∷ 34 ∷ [])
empty_string = by_name (both (one_byte refl) (both no_more (one_byte refl)))

pub spelled : (n : Name) → (w : List ℕ) × Derives rules (named n) w
spelled value = (48 ∷ [], zero_value)
spelled number = (48 ∷ [], zero_text)
spelled string = (34 ∷ 34 ∷ [], empty_string)

pub passes : (n : Name) → EachPasses (rules n)
passes value = passes_from (rules value) refl
passes number = passes_from (rules number) refl
passes string = passes_from (rules string) refl
