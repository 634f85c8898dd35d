-- What holds of every grammar: viable prefixes are the prefixes of what is derived, and one byte ahead decides a
-- predictive reading.
use Rattle.std.specs.Prelude.{◌≡◌, ℕ, List, ◌++◌, Bool, true, false, ◌↔◌, ◌⊎◌}
use Rattle.std.specs.List.{list_all}
use Rattle.grammar.specs.Grammar.{Rule, named, Reads, Derives, IsFront, EachPasses, each_begins}
use Rattle.grammar.specs.Predict.{begins, more_in, Steers, Stuck}
use Rattle.grammar.specs.Ranges.{Table, ahead_of, is_steered, is_honest_at, are_guarded}
use Rattle.grammar.specs.Stop.{Stops, Refuses}

-- each rule that has a name derives some text, and no range of bytes in it is empty
pub record IsProductive {N : Type 0} (grammar : N → Rule N) : Type 0 where
  pub spelled : (n : N) → (w : List ℕ) × Derives grammar (named n) w
  pub passes : (n : N) → EachPasses (grammar n)

-- a text is a viable prefix exactly where it is a prefix of a derived text
abbrev pub FrontsArePrefixes : Type 0 → Type 0
FrontsArePrefixes N = (grammar : N → Rule N) → IsProductive grammar → (r : Rule N) → EachPasses r →
    (t : List ℕ) → IsFront grammar r t ↔ ((w : List ℕ) × Derives grammar r (t ++ w))

-- each rule that has a name derives some text of bytes that pass the test, and each range of bytes in it begins with
-- such a byte
pub record IsProductiveBy {N : Type 0} (test : ℕ → Bool) (grammar : N → Rule N) : Type 0 where
  pub spelled : (n : N) → (w : List ℕ) × ((list_all test w ≡ true) × Derives grammar (named n) w)
  pub begins : (n : N) → each_begins test (grammar n) ≡ true

-- by bytes that pass the test alone, a viable prefix goes on to a derived text
abbrev pub FrontsGoOnBy : Type 0 → Type 0
FrontsGoOnBy N = (test : ℕ → Bool) (grammar : N → Rule N) → IsProductiveBy test grammar → (r : Rule N) → each_begins test r ≡ true →
    (t : List ℕ) → IsFront grammar r t → (w : List ℕ) × ((list_all test w ≡ true) × Derives grammar r (t ++ w))

-- what the table says of each named rule is so, and each is steered by one byte ahead
abbrev pub IsTabled : {N : Type 0} → (N → Rule N) → Table N → Type 0
IsTabled {N = N} grammar table = (n : N) → is_honest_at grammar table n ≡ true

-- two readings of a steered rule that both can't go on have one end
abbrev pub SteeredReadsOnce : Type 0 → Type 0
SteeredReadsOnce N = (grammar : N → Rule N) (table : Table N) → IsTabled grammar table → (r : Rule N) → is_steered table r ≡ true →
    (t u v : List ℕ) → Reads grammar r t u → Reads grammar r t v →
    begins (more_in (ahead_of table) r) u ≡ false → begins (more_in (ahead_of table) r) v ≡ false → u ≡ v

-- where the predictive reading stops, no text is derived, and the longest viable prefix ends
abbrev pub StopsAreExact : Type 0 → Type 0
StopsAreExact N = (grammar : N → Rule N) (table : Table N) → IsTabled grammar table → IsProductive grammar →
    (r : Rule N) → EachPasses r → is_steered table r ≡ true →
    (text : List ℕ) (at : ℕ) → Stops grammar (ahead_of table) r text at → Refuses grammar r text at

-- a predictive reading of any text comes to its end or gets stuck
abbrev pub ReadingsEnd : Type 0 → Type 0
ReadingsEnd N = (grammar : N → Rule N) (table : Table N) → IsTabled grammar table → (low : N → Bool) → ((n : N) → are_guarded grammar low n ≡ true) → (r : Rule N) → is_steered table r ≡ true →
    (t : List ℕ) → ((u : List ℕ) × Steers grammar (ahead_of table) r t u) ⊎ ((u : List ℕ) × Stuck grammar (ahead_of table) r t u)
