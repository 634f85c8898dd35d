-- A grammar over bytes: what its rules derive, and the viable prefixes of what they derive.
use Rattle.std.specs.Prelude.{◌≡◌, ℕ, List, [], ◌∷◌, Bool, true, ◌&&◌, nat_le}

-- N has the names of the rules that other rules go through.
pub data Rule (N : Type 0) : Type 0 where
  -- no byte
  empty : Rule N
  -- one byte, from the first number through the second
  byte : ℕ → ℕ → Rule N
  -- one part after the other
  seq : Rule N → Rule N → Rule N
  -- one or the other
  alt : Rule N → Rule N → Rule N
  -- any number of times
  many : Rule N → Rule N
  -- the rule of this name
  named : N → Rule N

abbrev pub within : ℕ → ℕ → ℕ → Bool
within low high c = nat_le low c && nat_le c high

-- The text begins with bytes that the rule derives, and the second list is what follows them.
pub data Reads {N : Type 0} (grammar : N → Rule N) : Rule N → List ℕ → List ℕ → Type 0 where
  no_byte : {t : List ℕ} → Reads grammar empty t t
  one_byte : {low high c : ℕ} {t : List ℕ} → within low high c ≡ true → Reads grammar (byte low high) (c ∷ t) t
  both : {r s : Rule N} {t u v : List ℕ} → Reads grammar r t u → Reads grammar s u v → Reads grammar (seq r s) t v
  left : {r s : Rule N} {t u : List ℕ} → Reads grammar r t u → Reads grammar (alt r s) t u
  right : {r s : Rule N} {t u : List ℕ} → Reads grammar s t u → Reads grammar (alt r s) t u
  no_more : {r : Rule N} {t : List ℕ} → Reads grammar (many r) t t
  more : {r : Rule N} {t u v : List ℕ} → Reads grammar r t u → Reads grammar (many r) u v → Reads grammar (many r) t v
  by_name : {n : N} {t u : List ℕ} → Reads grammar (grammar n) t u → Reads grammar (named n) t u

-- The rule derives the text.
abbrev pub Derives : {N : Type 0} → (N → Rule N) → Rule N → List ℕ → Type 0
Derives grammar r t = Reads grammar r t []

-- The text is a viable prefix of what the rule derives: it is empty, or derived, or has some parts derived and then a
-- viable prefix of the next part.
pub data IsFront {N : Type 0} (grammar : N → Rule N) : Rule N → List ℕ → Type 0 where
  nothing : {r : Rule N} → IsFront grammar r []
  whole : {r : Rule N} {t : List ℕ} → Derives grammar r t → IsFront grammar r t
  in_first : {r s : Rule N} {t : List ℕ} → IsFront grammar r t → IsFront grammar (seq r s) t
  in_second : {r s : Rule N} {t u : List ℕ} → Reads grammar r t u → IsFront grammar s u → IsFront grammar (seq r s) t
  in_left : {r s : Rule N} {t : List ℕ} → IsFront grammar r t → IsFront grammar (alt r s) t
  in_right : {r s : Rule N} {t : List ℕ} → IsFront grammar s t → IsFront grammar (alt r s) t
  in_next : {r : Rule N} {t u : List ℕ} → Reads grammar (many r) t u → IsFront grammar r u → IsFront grammar (many r) t
  in_named : {n : N} {t : List ℕ} → IsFront grammar (grammar n) t → IsFront grammar (named n) t

-- No range of bytes in the rule is empty.
abbrev pub EachPasses : {N : Type 0} → Rule N → Type 0
EachPasses empty = Unit {0}
EachPasses (byte low high) = within low high low ≡ true
EachPasses (seq r s) = EachPasses r × EachPasses s
EachPasses (alt r s) = EachPasses r × EachPasses s
EachPasses (many r) = EachPasses r
EachPasses (named n) = Unit {0}

-- Each range of bytes in the rule begins with a byte that passes the test, and is not empty.
abbrev pub each_begins : {N : Type 0} → (ℕ → Bool) → Rule N → Bool
each_begins test empty = true
each_begins test (byte low high) = within low high low && test low
each_begins test (seq r s) = each_begins test r && each_begins test s
each_begins test (alt r s) = each_begins test r && each_begins test s
each_begins test (many r) = each_begins test r
each_begins test (named n) = true
