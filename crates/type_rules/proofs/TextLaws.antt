-- Laws of legacy texts as values.
use Rattle.std.proofs.Common.{◌≡◌, ℕ, ◌⊎◌, ◌++◌, inl, inr, true, false, List, [], ◌∷◌, Option, Some, None, Ok, Err, refl, ap, sym, subst, ◌∙◌, arith}
use Rattle.std.specs.Prelude.{is_some}
use Rattle.json_span.specs.Plain.{plain_null, plain_boolean, plain_number, plain_string, plain_array, plain_object, plain_string_in}
use Rattle.json_span.specs.PlainView.{Value}
use Rattle.dec_fix.specs.Decimal.{Decimal, IsExact}
use Rattle.dec_fix.specs.Reading.{number_of}
use Rattle.dec_fix.specs.Spelling.{IsNumberText}
use Rattle.dec_fix.proofs.ReadingBack.{read_spells, spelled_read as number_read}
use Rattle.dec_fix.proofs.NumberTexts.{text_is_split}
use Rattle.name_path.specs.declared.kind.Kind.{Kind}
use Rattle.name_path.specs.declared.kind.Kind.TheVariants as kind
use Rattle.type_rules.specs.declared.fault.ValueRule.{ValueRule}
use Rattle.type_rules.specs.declared.fault.ValueRule.TheVariants.{NumberWide, LegacyText, DimensionUnit, DurationUnit}
use Rattle.type_rules.specs.declared.color.Color.{Color}
use Rattle.type_rules.specs.declared.size.Size.{Size}
use Rattle.type_rules.specs.declared.size.SizeUnit.TheVariants.{Px, Rem}
use Rattle.type_rules.specs.declared.time.Time.{Time}
use Rattle.type_rules.specs.declared.time.TimeUnit.TheVariants.{Ms, S}
use Rattle.type_rules.specs.declared.simple.Simple.{Simple}
use Rattle.type_rules.specs.declared.simple.Simple.TheVariants as simple
use Rattle.type_rules.specs.Checked.{Checked, Break, or_broken}
use Rattle.type_rules.specs.Forms.{members_in}
use Rattle.type_rules.specs.Words.{size_units, size_unit_name, time_units, time_unit_name}
use Rattle.type_rules.specs.Legacy.{SpellsMeasure, SpellsColor, IsLegacyText, HasLegacyForm, split_measure, measure_of_text, legacy_color, color_of_text}
use Rattle.type_rules.specs.Value.{measure_in_object, measure_in, size_in, time_in, color_in_object, color_in, simple_value}
use Rattle.type_rules.specs.Sound.{kind_of, IsSimple}
use Rattle.type_rules.specs.Laws.{TextsSpellOneValue, SpelledTextsAreRead, ReadTextsAreSpelled, HasNoForm, HasWideNumber, TextsBreakAsTexts, TextsBreakElsewhere, OthersStay, AliasesSpellNothing}
use Rattle.type_rules.proofs.Keeping.{made, ok_is, found, from_some}
use Rattle.type_rules.proofs.Leading.{either, break_is, sound}
use Rattle.type_rules.proofs.LegacyTexts.{IsBefore, split_found, size_split, time_split, no_size, no_time, spelled_number, color_spelled, digits_read, no_color}

-- ---- what is spelled is read

measured : {U : Type 0} (units : List (List ℕ × U)) (text front : List ℕ) (d : Decimal) (u : U) → split_measure units text ≡ Some (front, u) → number_of front ≡ Some d → measure_of_text units text ≡ Ok (d, u)
unfolding measure_of_text
measured units text front d u e f = rw (e, f) refl

size_read : (text : List ℕ) (s : Size) → IsExact s.value → SpellsMeasure (size_unit_name s.unit) text s.value → size_in true (plain_string text) ≡ Ok s
unfolding size_in measure_in
size_read text s exact h =
    rw (measured size_units text h.front s.value s.unit (size_split s.unit text h.front h.spelled (spelled_number h.front s.value h.spells)) (number_read h.front s.value exact h.spells)) refl

time_read : (text : List ℕ) (t : Time) → IsExact t.value → SpellsMeasure (time_unit_name t.unit) text t.value → time_in true (plain_string text) ≡ Ok t
unfolding time_in measure_in
time_read text t exact h =
    rw (measured time_units text h.front t.value t.unit (time_split t.unit text h.front h.spelled (spelled_number h.front t.value h.spells)) (number_read h.front t.value exact h.spells)) refl

color_read : (text : List ℕ) (c : Color) → SpellsColor text c → color_in true (plain_string text) ≡ Ok c
unfolding color_in color_of_text
color_read text c h = ap (or_broken LegacyText) (digits_read text h.digits h.form ∙ ap Some (sym h.is))

pub spelled_read : SpelledTextsAreRead
unfolding simple_value
spelled_read text (simple.Color c) p h = rw (color_read text c h) refl
spelled_read text (simple.Dimension s) p h = rw (size_read text s p h) refl
spelled_read text (simple.FontFamily fs) p h = absurd h
spelled_read text (simple.FontWeight d) p h = absurd h
spelled_read text (simple.Duration t) p h = rw (time_read text t p h) refl
spelled_read text (simple.CubicBezier c) p h = absurd h
spelled_read text (simple.Number d) p h = absurd h

pub one_spelled : TextsSpellOneValue
one_spelled text s t p q e h k =
    ok_is s t (sym (spelled_read text s p h) ∙ (ap (λ x. simple_value true x (plain_string text)) e ∙ spelled_read text t q k))

-- ---- what is read is spelled

-- the parts of a number with a unit that is read
record IsReadMeasure {U : Type 0} (name : U → List ℕ) (text : List ℕ) (m : Decimal × U) : Type 0 where
  is_spelled : SpellsMeasure (name m.1) text m.0

read_measure : {U : Type 0} (name : U → List ℕ) (units : List (List ℕ × U)) (text : List ℕ) (m : Decimal × U)
    → ((p : List ℕ × U) → split_measure units text ≡ Some p → IsBefore (name p.1) text p.0) → measure_of_text units text ≡ Ok m → IsReadMeasure name text m
unfolding measure_of_text
read_measure {U} name units text m before e =
    made (or_broken LegacyText (split_measure units text)) _ m e (λ p h e2.
    made (or_broken NumberWide (number_of p.0)) _ m e2 (λ value k e3.
    let P : Decimal × U → Type 0 = λ z. IsReadMeasure name text z in
    let b = before p (from_some LegacyText (split_measure units text) p h) in
    found P (value, p.1) m e3 (record {
      is_spelled = record {
        front = p.0;
        spells = read_spells p.0 value (from_some NumberWide (number_of p.0) value k);
        spelled = b.spelled;
      };
    })))

size_spelled : (text : List ℕ) (s : Size) → size_in true (plain_string text) ≡ Ok s → SpellsMeasure (size_unit_name s.unit) text s.value
unfolding size_in measure_in
size_spelled text s e =
    made (measure_of_text size_units text) _ s e (λ m h e2.
    let P : Size → Type 0 = λ z. SpellsMeasure (size_unit_name z.unit) text z.value in
    found P (record { value = m.0; unit = m.1 }) s e2 (read_measure size_unit_name size_units text m (split_found size_unit_name (Px ∷ Rem ∷ []) text) h).is_spelled)

time_spelled : (text : List ℕ) (t : Time) → time_in true (plain_string text) ≡ Ok t → SpellsMeasure (time_unit_name t.unit) text t.value
unfolding time_in measure_in
time_spelled text t e =
    made (measure_of_text time_units text) _ t e (λ m h e2.
    let P : Time → Type 0 = λ z. SpellsMeasure (time_unit_name z.unit) text z.value in
    found P (record { value = m.0; unit = m.1 }) t e2 (read_measure time_unit_name time_units text m (split_found time_unit_name (Ms ∷ S ∷ []) text) h).is_spelled)

color_is_spelled : (text : List ℕ) (c : Color) → color_in true (plain_string text) ≡ Ok c → SpellsColor text c
unfolding color_in color_of_text
color_is_spelled text c e = color_spelled text c (from_some LegacyText (legacy_color text) c e)

pub read_spelled : ReadTextsAreSpelled
unfolding simple_value
read_spelled kind.Color text s k e = made (color_in true (plain_string text)) _ s e (λ x h e2. found (IsLegacyText text) (simple.Color x) s e2 (color_is_spelled text x h))
read_spelled kind.Dimension text s k e = made (size_in true (plain_string text)) _ s e (λ x h e2. found (IsLegacyText text) (simple.Dimension x) s e2 (size_spelled text x h))
read_spelled kind.Duration text s k e = made (time_in true (plain_string text)) _ s e (λ x h e2. found (IsLegacyText text) (simple.Duration x) s e2 (time_spelled text x h))
read_spelled kind.FontFamily text s k e = cc
read_spelled kind.FontWeight text s k e = cc
read_spelled kind.CubicBezier text s k e = cc
read_spelled kind.Number text s k e = cc
read_spelled kind.StrokeStyle text s k e = cc
read_spelled kind.Border text s k e = cc
read_spelled kind.Transition text s k e = cc
read_spelled kind.Shadow text s k e = cc
read_spelled kind.Gradient text s k e = cc
read_spelled kind.Typography text s k e = cc

-- ---- what is broken

abbrev here : ValueRule → Break
here rule = record { rule = rule; trail = [] }

-- which rule is broken where something is missing
missing : {A P : Type 0} (rule : ValueRule) (o : Option A) (b : Break) → or_broken rule o ≡ Err b → (o ≡ None → b ≡ here rule → P) → P
missing rule (Some x) b e k = sound x b e
missing {A} rule None b e k = k refl (sym (break_is {A = A} (here rule) b e))

not_both : {A : Type 0} (x : A) (b : Break) (r : Checked A) → r ≡ Err b → r ≡ Ok x → ⊥
not_both x b r e f = let h : ⊥ = cc in h

-- a value that is broken spells nothing
spells_nothing : (k : Kind) (text : List ℕ) (b : Break) → simple_value true k (plain_string text) ≡ Err b → (s : Simple) → IsSimple s → kind_of s ≡ k → ¬ IsLegacyText text s
spells_nothing k text b e s p same h =
    not_both s b (simple_value true k (plain_string text)) e (ap (λ x. simple_value true x (plain_string text)) (sym same) ∙ spelled_read text s p h)

measure_broken : {U P : Type 0} (units : List (List ℕ × U)) (text : List ℕ) (b : Break) → measure_of_text units text ≡ Err b
    → (split_measure units text ≡ None → b ≡ here LegacyText → P) → ((p : List ℕ × U) → split_measure units text ≡ Some p → b ≡ here NumberWide → P) → P
unfolding measure_of_text
measure_broken units text b e none wide =
    either (or_broken LegacyText (split_measure units text)) _ b e (λ h. missing LegacyText (split_measure units text) b h none) (λ p h e2.
    either (or_broken NumberWide (number_of p.0)) _ b e2 (λ k. missing NumberWide (number_of p.0) b k (λ n is. wide p (from_some LegacyText (split_measure units text) p h) is)) (λ value k e3.
    sound _ b e3))

size_broken : {P : Type 0} (text : List ℕ) (b : Break) → size_in true (plain_string text) ≡ Err b
    → (¬ HasLegacyForm kind.Dimension text → b ≡ here LegacyText → P) → (HasLegacyForm kind.Dimension text → b ≡ here NumberWide → P) → P
unfolding size_in measure_in
size_broken text b e none wide =
    either (measure_of_text size_units text) _ b e (λ h. measure_broken size_units text b h (λ n is. none (no_size text n) is) (λ p k is.
    let f = split_found size_unit_name (Px ∷ Rem ∷ []) text p k in wide (p.1, record { front = p.0; is_number = f.is_number; spelled = f.spelled }) is)) (λ m h e2.
    sound _ b e2)

time_broken : {P : Type 0} (text : List ℕ) (b : Break) → time_in true (plain_string text) ≡ Err b
    → (¬ HasLegacyForm kind.Duration text → b ≡ here LegacyText → P) → (HasLegacyForm kind.Duration text → b ≡ here NumberWide → P) → P
unfolding time_in measure_in
time_broken text b e none wide =
    either (measure_of_text time_units text) _ b e (λ h. measure_broken time_units text b h (λ n is. none (no_time text n) is) (λ p k is.
    let f = split_found time_unit_name (Ms ∷ S ∷ []) text p k in wide (p.1, record { front = p.0; is_number = f.is_number; spelled = f.spelled }) is)) (λ m h e2.
    sound _ b e2)

color_broken : {P : Type 0} (text : List ℕ) (b : Break) → color_in true (plain_string text) ≡ Err b → (¬ HasLegacyForm kind.Color text → b ≡ here LegacyText → P) → P
unfolding color_in color_of_text
color_broken text b e none = missing LegacyText (legacy_color text) b e (λ n is. none (no_color text n) is)

abbrev Breaks : Kind → List ℕ → Break → Type 0
Breaks k text b = HasNoForm k text b ⊎ HasWideNumber k text b

pub texts_break : TextsBreakAsTexts
unfolding simple_value
texts_break kind.Color text b k e = either (color_in true (plain_string text)) _ b e (λ h. color_broken {P = Breaks kind.Color text b} text b h (λ n is. inl (record { rule = is; none = n }))) (λ x h e2. sound _ b e2)
texts_break kind.Dimension text b k e =
    either (size_in true (plain_string text)) _ b e (λ h. size_broken {P = Breaks kind.Dimension text b} text b h (λ n is. inl (record { rule = is; none = n }))
    (λ f is. inr (record { rule = is; form = f; none = spells_nothing kind.Dimension text b e }))) (λ x h e2. sound _ b e2)
texts_break kind.Duration text b k e =
    either (time_in true (plain_string text)) _ b e (λ h. time_broken {P = Breaks kind.Duration text b} text b h (λ n is. inl (record { rule = is; none = n }))
    (λ f is. inr (record { rule = is; form = f; none = spells_nothing kind.Duration text b e }))) (λ x h e2. sound _ b e2)
texts_break kind.FontFamily text b k e = cc
texts_break kind.FontWeight text b k e = cc
texts_break kind.CubicBezier text b k e = cc
texts_break kind.Number text b k e = cc
texts_break kind.StrokeStyle text b k e = cc
texts_break kind.Border text b k e = cc
texts_break kind.Transition text b k e = cc
texts_break kind.Shadow text b k e = cc
texts_break kind.Gradient text b k e = cc
texts_break kind.Typography text b k e = cc

pub texts_break_elsewhere : TextsBreakElsewhere
unfolding simple_value size_in time_in color_in measure_in measure_in_object color_in_object members_in
texts_break_elsewhere kind.Color text k = refl
texts_break_elsewhere kind.Dimension text k = refl
texts_break_elsewhere kind.Duration text k = refl
texts_break_elsewhere kind.FontFamily text k = cc
texts_break_elsewhere kind.FontWeight text k = cc
texts_break_elsewhere kind.CubicBezier text k = cc
texts_break_elsewhere kind.Number text k = cc
texts_break_elsewhere kind.StrokeStyle text k = cc
texts_break_elsewhere kind.Border text k = cc
texts_break_elsewhere kind.Transition text k = cc
texts_break_elsewhere kind.Shadow text k = cc
texts_break_elsewhere kind.Gradient text k = cc
texts_break_elsewhere kind.Typography text k = cc

-- ---- every other value

abbrev IsNoText : Value → Type 0
IsNoText v = is_some (plain_string_in v) ≡ false

measure_stays : {U : Type 0} (rule : ValueRule) (units : List (List ℕ × U)) (v : Value) → IsNoText v → measure_in true rule units v ≡ measure_in false rule units v
unfolding measure_in
measure_stays rule units plain_null h = refl
measure_stays rule units (plain_boolean b) h = refl
measure_stays rule units (plain_number n) h = refl
measure_stays rule units (plain_string s) h = cc
measure_stays rule units (plain_array vs) h = refl
measure_stays rule units (plain_object ms) h = refl

size_stays : (v : Value) → IsNoText v → size_in true v ≡ size_in false v
unfolding size_in
size_stays v h = rw (measure_stays DimensionUnit size_units v h) refl

time_stays : (v : Value) → IsNoText v → time_in true v ≡ time_in false v
unfolding time_in
time_stays v h = rw (measure_stays DurationUnit time_units v h) refl

color_stays : (v : Value) → IsNoText v → color_in true v ≡ color_in false v
unfolding color_in
color_stays plain_null h = refl
color_stays (plain_boolean b) h = refl
color_stays (plain_number n) h = refl
color_stays (plain_string s) h = cc
color_stays (plain_array vs) h = refl
color_stays (plain_object ms) h = refl

pub others_stay : OthersStay
unfolding simple_value
others_stay kind.Color v h = rw (color_stays v h) refl
others_stay kind.Dimension v h = rw (size_stays v h) refl
others_stay kind.Duration v h = rw (time_stays v h) refl
others_stay kind.FontFamily v h = refl
others_stay kind.FontWeight v h = refl
others_stay kind.CubicBezier v h = refl
others_stay kind.Number v h = refl
others_stay kind.StrokeStyle v h = refl
others_stay kind.Border v h = refl
others_stay kind.Transition v h = refl
others_stay kind.Shadow v h = refl
others_stay kind.Gradient v h = refl
others_stay kind.Typography v h = refl

-- ---- braces

no_brace : (unit rest front : List ℕ) → IsNumberText front → 123 ∷ rest ≡ front ++ unit → ⊥
no_brace unit rest [] h e = let n : false ≡ true = text_is_split [] h in cc
no_brace unit rest (c ∷ front) h e =
    let first : 123 ∷ rest ≡ c ∷ (front ++ unit) = e in
    let same : 123 ≡ c = cc in
    let P : ℕ → Type 0 = λ x. IsNumberText (x ∷ front) in
    let n : false ≡ true = text_is_split (123 ∷ front) (subst P (sym same) h) in
    cc

pub aliases_spell_nothing : AliasesSpellNothing
aliases_spell_nothing rest (simple.Color c) h = let e = h.form.spelled in let same : ◌≡◌ {A = ℕ} 123 35 = cc in omega (arith, same)
aliases_spell_nothing rest (simple.Dimension s) h = no_brace (size_unit_name s.unit) rest h.front (spelled_number h.front s.value h.spells) h.spelled
aliases_spell_nothing rest (simple.Duration t) h = no_brace (time_unit_name t.unit) rest h.front (spelled_number h.front t.value h.spells) h.spelled
aliases_spell_nothing rest (simple.FontFamily fs) h = h
aliases_spell_nothing rest (simple.FontWeight d) h = h
aliases_spell_nothing rest (simple.CubicBezier c) h = h
aliases_spell_nothing rest (simple.Number d) h = h
