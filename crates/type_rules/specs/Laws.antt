-- Laws over the definitions alone.
use Rattle.std.specs.Prelude.{◌≡◌, ◌↔◌, ℕ, ◌<◌, ◌≤◌, ◌^◌, ◌⊎◌, ◌&&◌, Bool, true, false, List, [], ◌∷◌, length, slice_get, is_some, Some, Ok, Err, Contains}
use Rattle.std.specs.Fmt.{decimal}
use Rattle.dec_fix.specs.Decimal.{Decimal, IsExact}
use Rattle.dec_fix.specs.Arithmetic.{IsFromZeroToOne}
use Rattle.tk_io.specs.Characters.{left_brace}
use Rattle.json_span.specs.Plain.{plain_string, plain_string_in}
use Rattle.json_span.specs.PlainView.{Value}
use Rattle.name_path.specs.declared.kind.Kind.{Kind}
use Rattle.type_rules.specs.declared.color.Color.{Color}
use Rattle.type_rules.specs.declared.size.Size.{Size}
use Rattle.type_rules.specs.declared.size.SizeUnit.{SizeUnit}
use Rattle.type_rules.specs.declared.time.Time.{Time}
use Rattle.type_rules.specs.declared.time.TimeUnit.{TimeUnit}
use Rattle.type_rules.specs.declared.curve.Curve.{Curve}
use Rattle.type_rules.specs.declared.space.Space.{Space}
use Rattle.type_rules.specs.declared.simple.Simple.{Simple}
use Rattle.type_rules.specs.declared.fault.ValueRule.TheVariants.{ValueShape, NumberWide, LegacyText}
use Rattle.type_rules.specs.Checked.{Break, broken}
use Rattle.type_rules.specs.Forms.{number_in}
use Rattle.type_rules.specs.Legacy.{IsLegacyText, HasLegacyForm, may_be_text}
use Rattle.type_rules.specs.Ranges.{holds, share}
use Rattle.type_rules.specs.Words.{meaning, size_units, size_unit_name, time_units, time_unit_name, spaces, space_name, weights}
use Rattle.type_rules.specs.Value.{color_in, size_in, time_in, curve_in, families_in, weight_in, simple_value}
use Rattle.type_rules.specs.Trails.{BreaksLead, Leads, plain_at, item_at}
use Rattle.type_rules.specs.Sound.{kind_of, IsColor, IsSize, IsTime, IsCurve, IsFamilies, IsWeight, IsSimple}

-- a value has the kind under which it is read, and keeps what values of the kind keep
abbrev pub KindsStay : Type 0
KindsStay = (legacy : Bool) (kind : Kind) (v : Value) (s : Simple) → simple_value legacy kind v ≡ Ok s → kind_of s ≡ kind

abbrev pub ValuesKeep : Type 0
ValuesKeep = (legacy : Bool) (kind : Kind) (v : Value) (s : Simple) → simple_value legacy kind v ≡ Ok s → IsSimple s

-- each of those is the value of some plain value
abbrev pub ValuesAreWritten : Type 0
ValuesAreWritten = (legacy : Bool) (s : Simple) → IsSimple s → (v : Value) × (simple_value legacy (kind_of s) v ≡ Ok s)

-- what a value breaks, it breaks at a part to which the steps lead
abbrev pub ValuesBreakInside : Type 0
ValuesBreakInside = (legacy : Bool) (kind : Kind) → BreaksLead (simple_value legacy kind)

-- the same of parts
abbrev pub ColorsKeep : Type 0
ColorsKeep = (legacy : Bool) (v : Value) (c : Color) → color_in legacy v ≡ Ok c → IsColor c

abbrev pub SizesKeep : Type 0
SizesKeep = (legacy : Bool) (v : Value) (s : Size) → size_in legacy v ≡ Ok s → IsSize s

abbrev pub TimesKeep : Type 0
TimesKeep = (legacy : Bool) (v : Value) (t : Time) → time_in legacy v ≡ Ok t → IsTime t

abbrev pub CurvesKeep : Type 0
CurvesKeep = (v : Value) (c : Curve) → curve_in v ≡ Ok c → IsCurve c

abbrev pub FamiliesKeep : Type 0
FamiliesKeep = (v : Value) (fs : List (List ℕ)) → families_in v ≡ Ok fs → IsFamilies fs

abbrev pub WeightsKeep : Type 0
WeightsKeep = (v : Value) (d : Decimal) → weight_in v ≡ Ok d → IsWeight d

abbrev pub NumbersKeep : Type 0
NumbersKeep = (v : Value) (d : Decimal) → number_in v ≡ Ok d → IsExact d

abbrev pub PartsBreakInside : Type 0
PartsBreakInside = ((legacy : Bool) → BreaksLead (color_in legacy) × BreaksLead (size_in legacy) × BreaksLead (time_in legacy))
    × BreaksLead curve_in × BreaksLead families_in × BreaksLead weight_in × BreaksLead number_in

-- steps that lead to a part lead there
abbrev pub StepsLead : Type 0
StepsLead = (steps : List (List ℕ)) (v w : Value) → plain_at v steps ≡ Some w → Leads steps v w

-- the item whose index is written is the item at this index
abbrev pub ItemsStand : Type 0 → Type 0
ItemsStand A = (xs : List A) (i : ℕ) → length xs ≤ 2 ^ 64 → i < length xs → item_at (decimal i) 0 xs ≡ slice_get xs i

-- what lies in the range from 0 to 1 is a part of 1
abbrev pub SharesAreParts : Type 0
SharesAreParts = (d : Decimal) → holds share d ≡ true → IsFromZeroToOne d

-- a word stands for what has it as its name, and for nothing else
abbrev pub SpacesNamed : Type 0
SpacesNamed = (word : List ℕ) (s : Space) → (meaning spaces word ≡ Some s) ↔ (space_name s ≡ word)

abbrev pub SizeUnitsNamed : Type 0
SizeUnitsNamed = (word : List ℕ) (u : SizeUnit) → (meaning size_units word ≡ Some u) ↔ (size_unit_name u ≡ word)

abbrev pub TimeUnitsNamed : Type 0
TimeUnitsNamed = (word : List ℕ) (u : TimeUnit) → (meaning time_units word ≡ Some u) ↔ (time_unit_name u ≡ word)

-- a word stands for a weight exactly where the table has the two in a row
abbrev pub WeightsNamed : Type 0
WeightsNamed = (word : List ℕ) (n : ℕ) → (meaning weights word ≡ Some n) ↔ Contains weights (word, n)

-- Of a kind a legacy text spells at most one value.
abbrev pub TextsSpellOneValue : Type 0
TextsSpellOneValue = (text : List ℕ) (s t : Simple) → IsSimple s → IsSimple t → kind_of s ≡ kind_of t
    → IsLegacyText text s → IsLegacyText text t → s ≡ t

-- Where texts may be values, each value that a text spells is read of it, and what is read of a text is spelled by it.
abbrev pub SpelledTextsAreRead : Type 0
SpelledTextsAreRead = (text : List ℕ) (s : Simple) → IsSimple s → IsLegacyText text s
    → simple_value true (kind_of s) (plain_string text) ≡ Ok s

abbrev pub ReadTextsAreSpelled : Type 0
ReadTextsAreSpelled = (kind : Kind) (text : List ℕ) (s : Simple) → may_be_text kind ≡ true
    → simple_value true kind (plain_string text) ≡ Ok s → IsLegacyText text s

-- What a text breaks there, it breaks itself: the rule on texts where it has no form of a legacy text ..
pub record HasNoForm (kind : Kind) (text : List ℕ) (b : Break) : Type 0 where
  pub rule : b ≡ (record { rule = LegacyText; trail = [] })
  pub none : ¬ HasLegacyForm kind text

-- .. and the rule on wide numbers where it has one and spells no value
pub record HasWideNumber (kind : Kind) (text : List ℕ) (b : Break) : Type 0 where
  pub rule : b ≡ (record { rule = NumberWide; trail = [] })
  pub form : HasLegacyForm kind text
  pub none : (s : Simple) → IsSimple s → kind_of s ≡ kind → ¬ IsLegacyText text s

abbrev pub TextsBreakAsTexts : Type 0
TextsBreakAsTexts = (kind : Kind) (text : List ℕ) (b : Break) → may_be_text kind ≡ true
    → simple_value true kind (plain_string text) ≡ Err b → HasNoForm kind text b ⊎ HasWideNumber kind text b

-- Where texts may not be values, they break the rule on shapes.
abbrev pub TextsBreakElsewhere : Type 0
TextsBreakElsewhere = (kind : Kind) (text : List ℕ) → may_be_text kind ≡ true
    → simple_value false kind (plain_string text) ≡ broken ValueShape

-- Every other value is alike for either setting.
abbrev pub OthersStay : Type 0
OthersStay = (kind : Kind) (v : Value) → (may_be_text kind && is_some (plain_string_in v)) ≡ false
    → simple_value true kind v ≡ simple_value false kind v

-- A text that begins with a brace, as an alias does, spells no value.
abbrev pub AliasesSpellNothing : Type 0
AliasesSpellNothing = (rest : List ℕ) (s : Simple) → ¬ IsLegacyText (left_brace ∷ rest) s
