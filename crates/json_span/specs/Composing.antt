-- Texts that say values, put together to the texts of arrays and objects.
use Rattle.std.specs.Prelude.{◌≡◌, ℕ, List, [], ◌∷◌, ◌++◌, ◌↔◌}
use Rattle.std.specs.List.{join_by}
use Rattle.grammar.specs.Grammar.{Derives}
use Rattle.tk_io.specs.Characters.{comma_sign, colon_sign}
use Rattle.json_span.specs.Grammar.{ws}
use Rattle.json_span.specs.Predictive.{rules, square, curly, open_of, close_of}
use Rattle.json_span.specs.Reading.{StringAt}
use Rattle.json_span.specs.Plain.{PlainValue, PlainEntry, plain_array, plain_object, plains_of, plain_members_of}
use Rattle.json_span.specs.Says.{Says, SaysText}

-- blanks, or nothing
abbrev pub Blanks : List ℕ → Type 0
Blanks t = Derives rules ws t

-- each text says its own value
pub data Pointwise {V : Type 0} (R : List ℕ → V → Type 0) : List (List ℕ) → List V → Type 0 where
  no_texts : Pointwise R [] []
  one_more : {t : List ℕ} {v : V} {ts : List (List ℕ)} {vs : List V} → R t v → Pointwise R ts vs →
      Pointwise R (t ∷ ts) (v ∷ vs)

-- the texts, with this between each two
abbrev pub separated : List ℕ → List (List ℕ) → List ℕ
separated between ts = join_by (λ t. t) between ts

-- what stands between two brackets: such texts with a comma between each two, or blanks
pub data Listed {V : Type 0} (R : List ℕ → V → Type 0) : List ℕ → List V → Type 0 where
  only_blanks : {t : List ℕ} → Blanks t → Listed R t []
  by_commas : {ts : List (List ℕ)} {vs : List V} → Pointwise R ts vs → Listed R (separated (comma_sign ∷ []) ts) vs

-- a text of a member: the string of its name, a colon, and a text of its value, with blanks around the string
pub record MemberText {K : Type 0} (num : List ℕ → K) (text : List ℕ) (e : PlainEntry K) : Type 0 where
  pub lead : List ℕ
  pub quoted : List ℕ
  pub gap : List ℕ
  pub value : List ℕ
  pub before : Blanks lead
  pub names : StringAt quoted e.name []
  pub behind : Blanks gap
  pub says : SaysText num value e.value
  pub made : text ≡ lead ++ (quoted ++ (gap ++ (colon_sign ∷ value)))

-- the text is this inside between the two bytes, with blanks around them
pub record Between (opens closes : ℕ) (text inside : List ℕ) : Type 0 where
  pub lead : List ℕ
  pub trail : List ℕ
  pub before : Blanks lead
  pub behind : Blanks trail
  pub made : text ≡ lead ++ (opens ∷ (inside ++ (closes ∷ trail)))

-- brackets around texts that say the values, or around texts of the members
abbrev pub IsArrayText : {K : Type 0} → (List ℕ → K) → List ℕ → List (PlainValue K) → Type 0
IsArrayText num text vs =
    (inside : List ℕ) × Between (open_of square) (close_of square) text inside × Listed (SaysText num) inside vs

abbrev pub IsObjectText : {K : Type 0} → (List ℕ → K) → List ℕ → List (PlainEntry K) → Type 0
IsObjectText num text es =
    (inside : List ℕ) × Between (open_of curly) (close_of curly) text inside × Listed (MemberText num) inside es

-- a text says an array exactly where it is put together so from texts that say its values
abbrev pub ArraysAreJoined : Type 0 → Type 0
ArraysAreJoined K = (num : List ℕ → K) (text : List ℕ) (vs : List (PlainValue K)) →
    SaysText num text (plain_array (plains_of vs)) ↔ IsArrayText num text vs

-- the same of objects and the texts of their members
abbrev pub ObjectsAreJoined : Type 0 → Type 0
ObjectsAreJoined K = (num : List ℕ → K) (text : List ℕ) (es : List (PlainEntry K)) →
    SaysText num text (plain_object (plain_members_of es)) ↔ IsObjectText num text es

-- what is put together so says the array or the object before whatever follows
abbrev pub ArraysSayBefore : Type 0 → Type 0
ArraysSayBefore K = (num : List ℕ → K) (inside : List ℕ) (vs : List (PlainValue K)) → Listed (SaysText num) inside vs →
    (rest : List ℕ) → Says num (open_of square ∷ (inside ++ (close_of square ∷ rest))) (plain_array (plains_of vs)) rest

abbrev pub ObjectsSayBefore : Type 0 → Type 0
ObjectsSayBefore K = (num : List ℕ → K) (inside : List ℕ) (es : List (PlainEntry K)) →
    Listed (MemberText num) inside es → (rest : List ℕ) →
    Says num (open_of curly ∷ (inside ++ (close_of curly ∷ rest))) (plain_object (plain_members_of es)) rest

-- blanks may stand before the first text, after each comma, and after the last text
abbrev pub ListsMayBeSpaced : {V : Type 0} → (List ℕ → V → Type 0) → Type 0
ListsMayBeSpaced {V} R = (first comma last : List ℕ) (ts : List (List ℕ)) (vs : List V) → Blanks first → Blanks comma →
    Blanks last → Pointwise R ts vs → Listed R (first ++ (separated (comma_sign ∷ comma) ts ++ last)) vs

abbrev pub ArraysMayBeSpaced : Type 0 → Type 0
ArraysMayBeSpaced K = (num : List ℕ → K) → ListsMayBeSpaced (SaysText num)

abbrev pub ObjectsMayBeSpaced : Type 0 → Type 0
ObjectsMayBeSpaced K = (num : List ℕ → K) → ListsMayBeSpaced (MemberText num)

-- the prefix that says what a text begins with says it alone
abbrev pub FrontsSay : Type 0 → Type 0
FrontsSay K = (num : List ℕ → K) (t u : List ℕ) (v : PlainValue K) → Says num t v u →
    (front : List ℕ) × (t ≡ front ++ u) × Says num front v []
