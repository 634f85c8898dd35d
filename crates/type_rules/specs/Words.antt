-- The words that values may have, and what each stands for.
use Rattle.std.specs.Prelude.{ℕ, List, [], ◌∷◌, map, codes, Option, Some, None, if◌then◌else◌}
use Rattle.std.specs.Borrow.{Bor}
use Rattle.std.specs.Str.{bytes_eq}
use Rattle.json_span.specs.declared.plain.PlainFields.{PlainFields}
use Rattle.json_span.specs.PlainView.{Value, plain_fields_view}
use Rattle.type_rules.specs.declared.fault.ValueRule.{ValueRule}
use Rattle.type_rules.specs.declared.size.SizeUnit.{SizeUnit}
use Rattle.type_rules.specs.declared.size.SizeUnit.TheVariants.{Px, Rem}
use Rattle.type_rules.specs.declared.time.TimeUnit.{TimeUnit}
use Rattle.type_rules.specs.declared.time.TimeUnit.TheVariants.{Ms, S}
use Rattle.type_rules.specs.declared.space.Space.{Space}
use Rattle.type_rules.specs.declared.space.Space.TheVariants.{Srgb, SrgbLinear, DisplayP3, A98Rgb, ProphotoRgb, Rec2020, XyzD65, XyzD50, Hsl, Hwb, Lab, Lch, Oklab, Oklch}
use Rattle.type_rules.specs.Checked.{Checked, or_broken, ◌>>=◌}
use Rattle.type_rules.specs.Forms.{text_in, member}

-- what a word stands for by a table of words
abbrev pub meaning : {A : Type 0} → List (List ℕ × A) → List ℕ → Option A
meaning [] word = None
meaning (row ∷ rows) word = if bytes_eq row.0 word then Some row.1 else meaning rows word

-- a table of the code
abbrev pub rows_of : {A : Type 0} → List (Bor (List ℕ) × A) → List (List ℕ × A)
rows_of table = map (λ row. (row.0.now, row.1)) table

-- a text that is a word of the table
unfoldable pub word_in : {A : Type 0} → ValueRule → List (List ℕ × A) → Value → Checked A
word_in rule table v = do
  word ← text_in v
  or_broken rule (meaning table word)

-- the same by a table of the code
abbrev pub word_by : {A : Type 0} → ValueRule → List (Bor (List ℕ) × A) → Value → Checked A
word_by rule table v = word_in rule (rows_of table) v

abbrev pub word_at : {A : Type 0} → ValueRule → List (Bor (List ℕ) × A) → List ℕ → PlainFields → Checked A
word_at rule table name members = member (word_by rule table) name (plain_fields_view members)

abbrev pub size_unit_name : SizeUnit → List ℕ
size_unit_name Px = codes "px"
size_unit_name Rem = codes "rem"

abbrev pub size_units : List (List ℕ × SizeUnit)
size_units = (codes "px", Px) ∷ (codes "rem", Rem) ∷ []

abbrev pub time_unit_name : TimeUnit → List ℕ
time_unit_name Ms = codes "ms"
time_unit_name S = codes "s"

abbrev pub time_units : List (List ℕ × TimeUnit)
time_units = (codes "ms", Ms) ∷ (codes "s", S) ∷ []

-- weights of fonts
abbrev pub weights : List (List ℕ × ℕ)
weights =
    (codes "thin", 100) ∷ (codes "hairline", 100) ∷
    (codes "extra-light", 200) ∷ (codes "ultra-light", 200) ∷
    (codes "light", 300) ∷
    (codes "normal", 400) ∷ (codes "regular", 400) ∷ (codes "book", 400) ∷
    (codes "medium", 500) ∷
    (codes "semi-bold", 600) ∷ (codes "demi-bold", 600) ∷
    (codes "bold", 700) ∷
    (codes "extra-bold", 800) ∷ (codes "ultra-bold", 800) ∷
    (codes "black", 900) ∷ (codes "heavy", 900) ∷
    (codes "extra-black", 950) ∷ (codes "ultra-black", 950) ∷ []

abbrev pub space_name : Space → List ℕ
space_name Srgb = codes "srgb"
space_name SrgbLinear = codes "srgb-linear"
space_name DisplayP3 = codes "display-p3"
space_name A98Rgb = codes "a98-rgb"
space_name ProphotoRgb = codes "prophoto-rgb"
space_name Rec2020 = codes "rec2020"
space_name XyzD65 = codes "xyz-d65"
space_name XyzD50 = codes "xyz-d50"
space_name Hsl = codes "hsl"
space_name Hwb = codes "hwb"
space_name Lab = codes "lab"
space_name Lch = codes "lch"
space_name Oklab = codes "oklab"
space_name Oklch = codes "oklch"

abbrev pub all_spaces : List Space
all_spaces = Srgb ∷ SrgbLinear ∷ DisplayP3 ∷ A98Rgb ∷ ProphotoRgb ∷ Rec2020 ∷ XyzD65 ∷ XyzD50 ∷ Hsl ∷ Hwb ∷ Lab ∷ Lch ∷ Oklab ∷ Oklch ∷ []

abbrev pub spaces : List (List ℕ × Space)
spaces = map (λ space. (space_name space, space)) all_spaces
