-- Laws over the definitions alone.
use Rattle.std.specs.Prelude.{◌≡◌, ℕ, List, ◌++◌, ◌↔◌, slice_range}
use Rattle.std.specs.Str.{IsAscii, IsUtf8}
use Rattle.grammar.specs.Grammar.{Derives, IsFront}
use Rattle.json_span.specs.Grammar.{grammar, json_text}
use Rattle.json_span.specs.Tree.{Placed, start_of, end_of}
use Rattle.json_span.specs.Reading.{Shows}
use Rattle.json_span.specs.Answer.{Answer, IsAnswer}
use Rattle.json_span.specs.Plain.{PlainValue}
use Rattle.json_span.specs.Parts.{IsPart}
use Rattle.json_span.specs.Says.{Says, SaysText, plain_of}

-- a text is a JSON text of RFC 8259 exactly where it shows a value
abbrev pub TextsShow : Type 0
TextsShow = (text : List ℕ) → Derives grammar json_text text ↔ ((n : Placed) × Shows text n)

-- a text is a viable prefix exactly where some text goes on from it to a JSON text
abbrev pub TextFrontsArePrefixes : Type 0
TextFrontsArePrefixes = (text : List ℕ) →
    IsFront grammar json_text text ↔ ((rest : List ℕ) × Derives grammar json_text (text ++ rest))

-- a viable prefix goes on by ASCII alone, to a JSON text that is UTF-8 where the prefix is
pub record GoesOn (text : List ℕ) : Type 0 where
  pub rest : List ℕ
  pub ascii : IsAscii rest
  pub derives : Derives grammar json_text (text ++ rest)
  pub whole : IsUtf8 text → IsUtf8 (text ++ rest)

abbrev pub FrontsGoOn : Type 0
FrontsGoOn = (text : List ℕ) → IsFront grammar json_text text → GoesOn text

-- a text shows at most one value
abbrev pub ShowsOne : Type 0
ShowsOne = (text : List ℕ) (n m : Placed) → Shows text n → Shows text m → n ≡ m

-- a text has at most one answer
abbrev pub OneAnswer : Type 0
OneAnswer = (text : List ℕ) (a b : Answer) → IsAnswer text a → IsAnswer text b → a ≡ b

-- each text has an answer
abbrev pub EachHasAnswer : Type 0
EachHasAnswer = (text : List ℕ) → (a : Answer) × IsAnswer text a

-- What a text shows it says, for any reading of numbers; and what a value's text says, it says whatever follows.
abbrev pub ShowsSay : Type 0 → Type 0
ShowsSay K = (num : List ℕ → K) (text : List ℕ) (n : Placed) → Shows text n → SaysText num text (plain_of num n)

abbrev pub SaysBefore : Type 0 → Type 0
SaysBefore K = (num : List ℕ → K) (t u : List ℕ) (v : PlainValue K) → Says num t v u → (rest : List ℕ) →
    Says num (t ++ rest) v (u ++ rest)

-- what a text says it shows, and it says one value
abbrev pub SaysShow : Type 0 → Type 0
SaysShow K = (num : List ℕ → K) (text : List ℕ) (v : PlainValue K) → SaysText num text v →
    (n : Placed) × Shows text n × (plain_of num n ≡ v)

abbrev pub SaysOne : Type 0 → Type 0
SaysOne K = (num : List ℕ → K) (text : List ℕ) (v w : PlainValue K) → SaysText num text v → SaysText num text w → v ≡ w

-- the slice of a part says what the part is without places
abbrev pub SlicesSay : Type 0 → Type 0
SlicesSay K = (num : List ℕ → K) (text : List ℕ) (root n : Placed) → Shows text root → IsPart n root →
    SaysText num (slice_range text (start_of n) (end_of n)) (plain_of num n)
