-- The runs of bytes that texts begin with, and the start of a number there.
use Rattle.std.specs.Prelude.{◌≡◌, ℕ, ◌==◌, ◌&&◌, ◌||◌, not, Bool, true, false, List, [], ◌∷◌, ◌++◌, if◌then◌else◌}
use Rattle.std.specs.Char.{is_ascii_digit}
use Rattle.std.specs.List.{list_all}
use Rattle.tk_io.specs.Characters.{full_stop, hyphen}
use Rattle.dec_fix.specs.Decimal.{Decimal, IsDec}
use Rattle.dec_fix.specs.Writing.{spelling}

-- the longest prefix of bytes that pass, and what follows it
abbrev pub first_run : (ℕ → Bool) → List ℕ → List ℕ
first_run p [] = []
first_run p (c ∷ t) = if p c then c ∷ first_run p t else []

abbrev pub behind_run : (ℕ → Bool) → List ℕ → List ℕ
behind_run p [] = []
behind_run p (c ∷ t) = if p c then behind_run p t else c ∷ t

-- the text has no first byte that passes
abbrev pub ends_run : (ℕ → Bool) → List ℕ → Bool
ends_run p [] = true
ends_run p (c ∷ t) = not (p c)

-- a run of bytes that pass is the longest such prefix of a text, where it ends before the next byte
pub record IsFirstRun (p : ℕ → Bool) (run behind : List ℕ) : Type 0 where
  pub run_is : first_run p (run ++ behind) ≡ run
  pub behind_is : behind_run p (run ++ behind) ≡ behind

abbrev pub RunsAreFirst : Type 0
RunsAreFirst = (p : ℕ → Bool) (run behind : List ℕ) → list_all p run ≡ true → ends_run p behind ≡ true
    → IsFirstRun p run behind

-- a text begins with a digit, or with a number of any length
abbrev pub starts_digit : List ℕ → Bool
starts_digit [] = false
starts_digit (c ∷ t) = is_ascii_digit c

abbrev pub starts_number : List ℕ → Bool
starts_number [] = false
starts_number (c ∷ t) = is_ascii_digit c || ((c == hyphen) && starts_digit t)

-- what is spelled of a number begins with one
abbrev pub NumbersStart : Type 0
NumbersStart = (d : Decimal) (behind : List ℕ) → IsDec d → starts_number (spelling d ++ behind) ≡ true

-- a test that the bytes of numbers pass: digits, `-` and `.`
pub record PassesNumbers (p : ℕ → Bool) : Type 0 where
  pub digit : (c : ℕ) → is_ascii_digit c ≡ true → p c ≡ true
  pub minus : p hyphen ≡ true
  pub point : p full_stop ≡ true

abbrev pub NumbersPass : Type 0
NumbersPass = (p : ℕ → Bool) → PassesNumbers p → (d : Decimal) → IsDec d → list_all p (spelling d) ≡ true
