-- The names of permutations whose choices are of bytes hold letters, digits and five signs alone, and are not empty.
use Rattle.std.proofs.Common.{◌≡◌, ◌<◌, ◌/◌, ◌%◌, ◌&&◌, ◌||◌, ℕ, Bool, true, false, List, [], ◌∷◌, ◌++◌, length, length-append, append-nil, codes, refl, sym, ap, subst, arith}
use Rattle.std.proofs.lemmas.Bool.Decides.{nat_tests}
use Rattle.std.specs.Char.{is_ascii_alphanumeric}
use Rattle.std.specs.List.{AllByRecursion, list_all}
use Rattle.std.specs.Prelude.{◌==◌, not, nat_lt, if◌then◌else◌}
use Rattle.json_span.specs.Spelling.{are_bytes}
use Rattle.permutations.specs.Name.{Choice, escaped_byte, escaped_name, is_unescaped, label, name_of, upper_digit}
use Rattle.build_plain.specs.Names.{is_name, is_name_byte}

split : (a b : Bool) → (a && b) ≡ true → (a ≡ true) × (b ≡ true)
split true b h = (refl, h)
split false b h = cc

both : (a b : Bool) → a ≡ true → b ≡ true → (a && b) ≡ true
both true b p q = q
both false b p q = cc

-- all bytes of both, and of one
joined_all : (p : ℕ → Bool) (xs ys : List ℕ) → list_all p xs ≡ true → list_all p ys ≡ true → list_all p (xs ++ ys) ≡ true
joined_all p [] ys h k = k
joined_all p (x ∷ xs) ys h k = let s = split (p x) (list_all p xs) h in both (p x) (list_all p (xs ++ ys)) s.0 (joined_all p xs ys s.1 k)

one_more : (a b c rest : Bool) → (a || (b || c)) ≡ true → (a || (b || (c || rest))) ≡ true
one_more true b c rest h = refl
one_more false true c rest h = refl
one_more false false true rest h = refl
one_more false false false rest h = cc

or_else : (a rest : Bool) → a ≡ true → (a || rest) ≡ true
or_else true rest h = refl
or_else false rest h = cc

kept_fits : (c : ℕ) → is_unescaped c ≡ true → is_name_byte c ≡ true
kept_fits c u = one_more (is_ascii_alphanumeric c) (c == 95) (c == 45) _ u

digit_letter : (d : ℕ) → d < 16 → is_ascii_alphanumeric (upper_digit d) ≡ true
digit_letter d small = grind (arith, nat_tests)

digit_fits : (d : ℕ) → d < 16 → is_name_byte (upper_digit d) ≡ true
digit_fits d small = or_else (is_ascii_alphanumeric (upper_digit d)) _ (digit_letter d small)

is_byte : (c : ℕ) → nat_lt c 256 ≡ true → c < 256
is_byte c h = grind (arith, nat_tests)

byte_fits : (c : ℕ) → nat_lt c 256 ≡ true → list_all is_name_byte (escaped_byte c) ≡ true
byte_fits c h = by (is_unescaped c) refl
  where
    by : (t : Bool) → is_unescaped c ≡ t → list_all is_name_byte (if t then c ∷ [] else 37 ∷ upper_digit (c / 16) ∷ upper_digit (c % 16) ∷ []) ≡ true
    by true u = both (is_name_byte c) true (kept_fits c u) refl
    by false u =
        let small = is_byte c h in
        both (is_name_byte (upper_digit (c / 16))) _ (digit_fits (c / 16) (omega (arith, small))) (both (is_name_byte (upper_digit (c % 16))) true (digit_fits (c % 16) (omega (arith))) refl)

escaped_fits : (name : List ℕ) → are_bytes name ≡ true → list_all is_name_byte (escaped_name name) ≡ true
escaped_fits [] h = refl
escaped_fits (c ∷ cs) h = let s = split (nat_lt c 256) (are_bytes cs) h in joined_all is_name_byte (escaped_byte c) (escaped_name cs) (byte_fits c s.0) (escaped_fits cs s.1)

-- the names of a modifier and of its context are of bytes
abbrev pub IsOfBytes : Choice → Type 0
IsOfBytes c = (are_bytes c.modifier ≡ true) × (are_bytes c.context ≡ true)

label_fits : (c : Choice) → IsOfBytes c → list_all is_name_byte (label c) ≡ true
label_fits c h =
    let modifier = joined_all is_name_byte (escaped_name c.modifier) (codes "=") (escaped_fits c.modifier h.0) refl in
    joined_all is_name_byte (escaped_name c.modifier ++ codes "=") (escaped_name c.context) modifier (escaped_fits c.context h.1)

-- the labels after the first, each with '+' before it
abbrev behind : List Choice → List ℕ
behind [] = []
behind (c ∷ cs) = 43 ∷ (label c ++ behind cs)

joined : (c : Choice) (cs : List Choice) → name_of (c ∷ cs) ≡ label c ++ behind cs
joined c [] = sym (append-nil (label c))
joined c (d ∷ ds) = ap (λ rest. label c ++ 43 ∷ rest) (joined d ds)

behind_fits : (cs : List Choice) → AllByRecursion IsOfBytes cs → list_all is_name_byte (behind cs) ≡ true
behind_fits [] h = refl
behind_fits (c ∷ cs) h = joined_all is_name_byte (label c) (behind cs) (label_fits c h.0) (behind_fits cs h.1)

is_some : (n : ℕ) → 0 < n → not (n == 0) ≡ true
is_some n h = grind (arith, nat_tests)

-- a label has an `=`
long_enough : (c : Choice) (rest : List ℕ) → 0 < length (label c ++ rest)
long_enough c rest =
    let one : length (codes "=") ≡ 1 = refl in
    omega (arith, one, length-append (label c) rest, length-append (escaped_name c.modifier ++ codes "=") (escaped_name c.context), length-append (escaped_name c.modifier) (codes "="))

pub name_fits : (cs : List Choice) → AllByRecursion IsOfBytes cs → is_name (name_of cs) ≡ true
name_fits [] h = refl
name_fits (c ∷ cs) h =
    let name = label c ++ behind cs in
    let fits = joined_all is_name_byte (label c) (behind cs) (label_fits c h.0) (behind_fits cs h.1) in
    subst (λ n. is_name n ≡ true) (sym (joined c cs)) (both (not (length name == 0)) (list_all is_name_byte name) (is_some (length name) (long_enough c (behind cs))) fits)
