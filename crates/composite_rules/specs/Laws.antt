-- Laws over the definitions alone.
use Rattle.std.specs.Prelude.{◌≡◌, ◌↔◌, ℕ, Bool, List, [], ◌∷◌, codes, Some, Ok, Err}
use Rattle.dec_fix.specs.Decimal.{Decimal}
use Rattle.dec_fix.specs.Arithmetic.{IsFromZeroToOne}
use Rattle.json_span.specs.Plain.{plain_object_in}
use Rattle.json_span.specs.PlainView.{Value, ValueEntry}
use Rattle.name_path.specs.declared.kind.Kind.{Kind}
use Rattle.name_path.specs.declared.kind.Kind.TheVariants as kind
use Rattle.type_rules.specs.declared.fault.ValueRule.TheVariants.{ValueShape}
use Rattle.type_rules.specs.Forms.{named}
use Rattle.type_rules.specs.Trails.{BreaksLead, plain_at}
use Rattle.type_rules.specs.Words.{meaning}
use Rattle.composite_rules.specs.declared.stroke.StrokeWord.{StrokeWord}
use Rattle.composite_rules.specs.declared.stroke.Cap.{Cap}
use Rattle.composite_rules.specs.declared.typed.Typed.{Typed}
use Rattle.composite_rules.specs.Words.{stroke_words, stroke_word_name, caps, cap_name}
use Rattle.composite_rules.specs.Value.{clamped, value_of}
use Rattle.composite_rules.specs.Sound.{kind_of, IsTyped}
use Rattle.composite_rules.specs.Parts.{part_at, HasForm}

-- a value has the kind under which it is read, and keeps what values of the kind keep
abbrev pub KindsStay : Type 0
KindsStay = (legacy : Bool) (kind : Kind) (v : Value) (t : Typed) → value_of legacy kind v ≡ Ok t → kind_of t ≡ kind

abbrev pub ValuesKeep : Type 0
ValuesKeep = (legacy : Bool) (kind : Kind) (v : Value) (t : Typed) → value_of legacy kind v ≡ Ok t → IsTyped t

-- each of those is the value of some plain value
abbrev pub ValuesAreWritten : Type 0
ValuesAreWritten = (legacy : Bool) (t : Typed) → IsTyped t → (v : Value) × (value_of legacy (kind_of t) v ≡ Ok t)

-- what a value breaks, it breaks at a part to which the steps lead
abbrev pub ValuesBreakInside : Type 0
ValuesBreakInside = (legacy : Bool) (kind : Kind) → BreaksLead (value_of legacy kind)

-- a shadow that is one object breaks the rule on shapes at a member `0`, whatever its other members are
abbrev pub ZerosBreak : Type 0
ZerosBreak = (legacy : Bool) (v zero : Value) (es : List ValueEntry) → plain_object_in v ≡ Some es → named (codes "0") es ≡ Some zero
    → value_of legacy kind.Shadow v ≡ Err (record { rule = ValueShape; trail = codes "0" ∷ [] })

-- a position within 0 to 1 stays, and every other is moved there
abbrev pub PositionsClamp : Type 0
PositionsClamp = (d : Decimal) → IsFromZeroToOne (clamped d)

abbrev pub SharesStay : Type 0
SharesStay = (d : Decimal) → IsFromZeroToOne d → clamped d ≡ d

-- what stands at a part's steps has the part as its value, under the kind that the part has
abbrev pub PartsAreTyped : Type 0
PartsAreTyped = (legacy : Bool) (kind : Kind) (v w : Value) (t part : Typed) (steps : List (List ℕ))
    → value_of legacy kind v ≡ Ok t → plain_at v steps ≡ Some w → part_at t steps ≡ Some part → value_of legacy (kind_of part) w ≡ Ok part

-- and where the value is written in the form of such steps, something stands there
abbrev pub PartsStand : Type 0
PartsStand = (legacy : Bool) (kind : Kind) (v : Value) (t part : Typed) (steps : List (List ℕ))
    → value_of legacy kind v ≡ Ok t → part_at t steps ≡ Some part → HasForm v steps → (w : Value) × (plain_at v steps ≡ Some w)

-- a word stands for what has it as its name, and for nothing else
abbrev pub StrokeWordsNamed : Type 0
StrokeWordsNamed = (word : List ℕ) (s : StrokeWord) → (meaning stroke_words word ≡ Some s) ↔ (stroke_word_name s ≡ word)

abbrev pub CapsNamed : Type 0
CapsNamed = (word : List ℕ) (c : Cap) → (meaning caps word ≡ Some c) ↔ (cap_name c ≡ word)
