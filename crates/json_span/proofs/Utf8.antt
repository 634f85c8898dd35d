-- A text is of bytes.
use Rattle.std.proofs.Common.{◌≡◌, ℕ, ◌+◌, ◌/◌, ◌%◌, ◌<◌, List, [], ◌∷◌, ◌++◌, Bool, true, false, ◌&&◌, inl, inr, refl, subst, arith}
use Rattle.std.specs.Prelude.{nat_lt}
use Rattle.std.specs.Str.{IsUtf8}
use Rattle.std.proofs.lemmas.Bool.Decides.{nat_tests}
use lib.Utf8.{scalar, scalars, encode, encodes, scalar_cases}
use Rattle.json_span.specs.Spelling.{are_bytes}

split : (a b : Bool) → (a && b) ≡ true → (a ≡ true) × (b ≡ true)
split true b h = (refl, h)
split false b h = cc

below : (c : ℕ) → scalar c ≡ true → c < 1114112
below c h = elim (scalar_cases c h) [ inl a ↦ omega arith | inr b ↦ b.1 ]

char_bytes : (c : ℕ) → c < 1114112 → are_bytes (encode c) ≡ true
unfolding encode
char_bytes c h =
    let a : nat_lt (240 + c / 262144) 256 ≡ true = grind (arith, nat_tests) in
    let b : (x : ℕ) → nat_lt (128 + x % 64) 256 ≡ true = λ x. grind (arith, nat_tests) in
    grind (arith, nat_tests, a, b)

both_bytes : (xs ys : List ℕ) → are_bytes xs ≡ true → are_bytes ys ≡ true → are_bytes (xs ++ ys) ≡ true
both_bytes [] ys h k = k
both_bytes (x ∷ xs) ys h k = let p = split (nat_lt x 256) (are_bytes xs) h in rw (p.0) (both_bytes xs ys p.1 k)

all_bytes : (cs : List ℕ) → scalars cs ≡ true → are_bytes (encodes cs) ≡ true
all_bytes [] h = refl
all_bytes (c ∷ cs) h = let p = split (scalar c) (scalars cs) h in both_bytes (encode c) (encodes cs) (char_bytes c (below c p.0)) (all_bytes cs p.1)

pub utf8_bytes : (s : List ℕ) → IsUtf8 s → are_bytes s ≡ true
utf8_bytes s u = subst (λ z. are_bytes z ≡ true) u.1.1 (all_bytes u.0 u.1.0)
