-- The numbers that a text spells.
use Rattle.std.proofs.Common.{◌≡◌, ◌∙◌, ◌==◌, ◌<◌, ◌≤◌, ◌^◌, ℕ, Bool, true, false, not, ◌&&◌, nat_le, length, List, [], ◌∷◌, Option, Some, None, cond, decimal, refl, sym, ap, arith}
use Rattle.std.proofs.lemmas.Bool.{false≢true, le-leb, leb-true, ne_eqb}
use Rattle.std.proofs.lemmas.Fmt.{decimal_is_IsNumeral}
use Rattle.std.proofs.lemmas.Slice.Eq.{bytes_eq-Decides}
use Rattle.std.proofs.lemmas.Str.Parse.{digit_from_value}
use Rattle.std.specs.Str.{bytes_eq}
use Rattle.std.specs.Str.Parse.{AllDigits, digits_value}
use Rattle.command_words.specs.Words.{decimal_within, if_spelled}
use Rattle.command_words.specs.inner.ClapWords.{is_positional}

at_value : (low high n : ℕ) (text : List ℕ) → text ≡ decimal n → low ≤ n → n ≤ high → if_spelled low high text n ≡ Some n
at_value low high n text e l h =
    let same : bytes_eq text (decimal n) ≡ true = (bytes_eq-Decides text (decimal n)).1 e in
    let above : nat_le low n ≡ true = le-leb low n l in
    let below : nat_le n high ≡ true = le-leb n high h in
    λ i. cond (same i && (above i && below i)) (Some n) None

same_number : (n m : ℕ) → Some n ≡ Some m → n ≡ m
same_number n m e = cc

no_number : (m : ℕ) → None ≡ Some m → ⊥
no_number m e = cc

all_true : (x y z : Bool) (n m : ℕ) → cond (x && (y && z)) (Some n) None ≡ Some m → (x ≡ true) × (y ≡ true) × (z ≡ true) × (n ≡ m)
all_true true true true n m e = (refl, refl, refl, same_number n m e)
all_true true true false n m e = absurd (no_number m e)
all_true true false z n m e = absurd (no_number m e)
all_true false y z n m e = absurd (no_number m e)

from_value : (low high n m : ℕ) (text : List ℕ) → if_spelled low high text n ≡ Some m → (text ≡ decimal m) × (low ≤ m) × (m ≤ high)
from_value low high n m text e =
    let tests = all_true (bytes_eq text (decimal n)) (nat_le low n) (nat_le n high) n m e in
    let same : text ≡ decimal n = (bytes_eq-Decides text (decimal n)).0 tests.0 in
    let above : low ≤ n = leb-true low n tests.1 in
    let below : n ≤ high = leb-true n high tests.2 in
    let equal : n ≡ m = tests.3 in
    (same ∙ ap decimal equal, omega arith, omega arith)

-- a text that spells a number within the bounds gives it
pub spelled : (low high n : ℕ) (text : List ℕ) → n < 2 ^ 64 → text ≡ decimal n → low ≤ n → n ≤ high → decimal_within low high text ≡ Some n
unfolding decimal_within
spelled low high n text small e l h =
    let value : digits_value 10 text ≡ n = ap (digits_value 10) e ∙ (decimal_is_IsNumeral n small).1 in
    ap (if_spelled low high text) value ∙ at_value low high n text e l h

-- and what it gives, it spells
pub gives : (low high n : ℕ) (text : List ℕ) → decimal_within low high text ≡ Some n → (text ≡ decimal n) × (low ≤ n) × (n ≤ high)
unfolding decimal_within
gives low high n text e = from_value low high (digits_value 10 text) n text e

never : (o : Option ℕ) → ((n : ℕ) → o ≡ Some n → ⊥) → o ≡ None
never None lacks = refl
never (Some n) lacks = absurd (lacks n refl)

-- a text that spells no number within the bounds gives none
pub unspelled : (low high : ℕ) (text : List ℕ) → ((n : ℕ) → low ≤ n → n ≤ high → text ≡ decimal n → ⊥) → decimal_within low high text ≡ None
unspelled low high text lacks =
    never (decimal_within low high text) (λ n e. let s = gives low high n text e in lacks n s.1 s.2 s.0)

positional_digits : (ds : List ℕ) → 0 < length ds → AllDigits 10 ds → is_positional ds ≡ true
positional_digits [] some all = absurd (omega arith)
positional_digits (c ∷ cs) some all =
    let range = digit_from_value c all.0 in
    let other : (c == 45) ≡ false = ne_eqb c 45 (λ e. omega arith) in
    ap not other

-- an argument that is not positional spells no number
pub not_positional : (low high : ℕ) (text : List ℕ) → high < 2 ^ 64 → is_positional text ≡ false → decimal_within low high text ≡ None
not_positional low high text small p =
    unspelled low high text (λ n l h e.
    let numeral = (decimal_is_IsNumeral n (omega arith)).0 in
    false≢true (sym p ∙ (ap is_positional e ∙ positional_digits (decimal n) numeral.0 numeral.1)))
