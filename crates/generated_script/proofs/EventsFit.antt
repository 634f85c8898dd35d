-- The generated events are those of a script: their texts are ASCII and short.
use Rattle.std.proofs.Common.{◌≡◌, ◌<◌, ◌≤◌, ◌+◌, ◌*◌, ◌%◌, ◌^◌, ◌==◌, ◌-◌, ℕ, zero, suc, Bool, true, false, nat_le, cond, List, [], ◌∷◌, ◌++◌, length, codes, decimal, refl, arith, length-append}
use Rattle.std.proofs.lemmas.Bool.{and_parts, leb-true, ltb-true}
use Rattle.std.proofs.lemmas.Fmt.{IsAscii-decimal, length-decimal-le}
use Rattle.std.proofs.lemmas.Str.{IsAscii-append, IsUtf8-from_ascii}
use Rattle.std.proofs.lemmas.Str.Ascii.{IsAscii-cons, IsAscii-nil}
use Rattle.std.specs.List.{AllByRecursion, flat_map, list_all, range_with_len}
use Rattle.std.specs.Prelude.{nat_lt}
use Rattle.std.specs.Str.{IsAscii}
use Rattle.edit_script.specs.Files.{commit_count}
use Rattle.edit_script.specs.Files.{EveryFits}
use Rattle.edit_script.specs.Script.{HasSpelling, IsScript, event_text, header, is_path, put}
use Rattle.edit_script.specs.declared.version.Version.TheVariants.{First}
use Rattle.edit_script.proofs.UnfitEvents.{first_fits}
use Rattle.generated_script.specs.declared.script.TheConstants.{MOST_TOKENS}
use Rattle.generated_script.specs.Tokens.{core_text, edited, generated_token, generated_value, literal}
use Rattle.generated_script.specs.Script.{edit_events, events_of, first_events, put_core, resolver_text, script_of}

-- ASCII, and no longer than this
record IsShort (most : ℕ) (bs : List ℕ) : Type 0 where
  ascii : IsAscii bs
  bound : length bs ≤ most

ascii_from : (bs : List ℕ) → list_all (λ b. nat_lt b 128) bs ≡ true → IsAscii bs
ascii_from [] h = IsAscii-nil
ascii_from (b ∷ bs) h =
    let p = and_parts (nat_lt b 128) (list_all (λ x. nat_lt x 128) bs) h in
    IsAscii-cons b bs (ltb-true b 128 p.0) (ascii_from bs p.1)

fixed : (most : ℕ) (bs : List ℕ) → list_all (λ b. nat_lt b 128) bs ≡ true → nat_le (length bs) most ≡ true → IsShort most bs
fixed most bs a l = record { ascii = ascii_from bs a; bound = leb-true (length bs) most l }

joined : (m n k : ℕ) (xs ys : List ℕ) → IsShort m xs → IsShort n ys → m + n ≤ k → IsShort k (xs ++ ys)
joined m n k xs ys hx hy h =
    let e : length (xs ++ ys) ≡ length xs + length ys = length-append xs ys in
    record { ascii = IsAscii-append xs ys hx.ascii hy.ascii; bound = omega (arith, hx.bound, hy.bound) }

digits : (n : ℕ) → n < 10 ^ 4 → IsShort 4 (decimal n)
digits n h = record { ascii = IsAscii-decimal n (omega arith); bound = length-decimal-le 4 n (omega arith) h (omega arith) }

either : (b : Bool) (most : ℕ) (xs ys : List ℕ) → IsShort most xs → IsShort most ys → IsShort most (cond b xs ys)
either true most xs ys hx hy = hx
either false most xs ys hx hy = hy

flat : (f : ℕ → List ℕ) (k a n : ℕ) → ((i : ℕ) → a ≤ i → i < a + n → IsShort k (f i)) → IsShort (n * k) (flat_map f (range_with_len a n))
flat f k a zero h = record { ascii = IsAscii-nil; bound = omega arith }
flat f k a (suc n) h =
    joined k (n * k) (suc n * k) (f a) (flat_map f (range_with_len (a + 1) n))
    (h a (omega arith) (omega arith))
    (flat f k (a + 1) n (λ i l u. h i (omega arith) (omega arith)))
    (omega arith)

pick : (b : Bool) (x y : ℕ) → x ≤ 120 → y ≤ 120 → cond b x y ≤ 120
pick true x y hx hy = hx
pick false x y hx hy = hy

literal_small : (seed size edits i : ℕ) → edits ≤ 20 → literal seed size edits i ≤ 120
unfolding literal
literal_small seed size zero i h = omega arith
literal_small seed size (suc j) i h =
    pick (edited seed size (suc j) == i) (100 + suc j) (literal seed size j i) (omega arith) (literal_small seed size j i (omega arith))

value_short : (seed size edits i : ℕ) → edits ≤ 20 → i < MOST_TOKENS → IsShort 26 (generated_value seed size edits i)
value_short seed size edits i h small =
    let value = literal seed size edits i in
    let bound : value ≤ 120 = literal_small seed size edits i h in
    either (i % 10 == 0) 26 (codes "{\"value\":" ++ (decimal value ++ codes ",\"unit\":\"px\"}")) (codes "\"{t.n" ++ (decimal (i - 1) ++ codes "}\""))
    (joined 9 17 26 (codes "{\"value\":") (decimal value ++ codes ",\"unit\":\"px\"}")
    (fixed 9 (codes "{\"value\":") refl refl)
    (joined 4 13 17 (decimal value) (codes ",\"unit\":\"px\"}") (digits value (omega arith)) (fixed 13 (codes ",\"unit\":\"px\"}") refl refl) (omega arith))
    (omega arith))
    (joined 5 6 26 (codes "\"{t.n") (decimal (i - 1) ++ codes "}\"")
    (fixed 5 (codes "\"{t.n") refl refl)
    (joined 4 2 6 (decimal (i - 1)) (codes "}\"") (digits (i - 1) (omega arith)) (fixed 2 (codes "}\"") refl refl) (omega arith))
    (omega arith))

token_short : (seed size edits i : ℕ) → edits ≤ 20 → i < MOST_TOKENS → IsShort 46 (generated_token seed size edits i)
token_short seed size edits i h small =
    let value = generated_value seed size edits i in
    joined 3 43 46 (codes ",\"n") (decimal i ++ (codes "\":{\"$value\":" ++ (value ++ codes "}")))
    (fixed 3 (codes ",\"n") refl refl)
    (joined 4 39 43 (decimal i) (codes "\":{\"$value\":" ++ (value ++ codes "}"))
    (digits i (omega arith))
    (joined 12 27 39 (codes "\":{\"$value\":") (value ++ codes "}")
    (fixed 12 (codes "\":{\"$value\":") refl refl)
    (joined 26 1 27 value (codes "}") (value_short seed size edits i h small) (fixed 1 (codes "}") refl refl) (omega arith))
    (omega arith))
    (omega arith))
    (omega arith)

core_short : (seed size edits : ℕ) → edits ≤ 20 → size ≤ MOST_TOKENS → IsShort 200000 (core_text seed size edits)
unfolding core_text
core_short seed size edits h small =
    let tokens = flat_map (generated_token seed size edits) (range_with_len 0 size) in
    joined 25 (size * 46 + 2) 200000 (codes "{\"t\":{\"$type\":\"dimension\"") (tokens ++ codes "}}")
    (fixed 25 (codes "{\"t\":{\"$type\":\"dimension\"") refl refl)
    (joined (size * 46) 2 (size * 46 + 2) tokens (codes "}}")
    (flat (generated_token seed size edits) 46 0 size (λ i l u. token_short seed size edits i h (omega arith)))
    (fixed 2 (codes "}}") refl refl)
    (omega arith))
    (omega arith)

resolver_short : IsShort 400 resolver_text
unfolding resolver_text
resolver_short = fixed 400 _ refl refl

fits : (most : ℕ) (path text : List ℕ) → is_path path ≡ true → IsShort most text → most < 10 ^ 8 → HasSpelling First (put path text)
fits most path text p short h =
    (refl, (p, IsUtf8-from_ascii text short.ascii, omega (arith, short.bound)))

core_fits : (seed size edits : ℕ) → edits ≤ 20 → size ≤ MOST_TOKENS → HasSpelling First (put_core seed size edits)
core_fits seed size edits h small =
    fits 200000 (codes "core.json") (core_text seed size edits) refl (core_short seed size edits h small) (omega arith)

both : {X : Type 0} (P : X → Type 0) (xs ys : List X) → AllByRecursion P xs → AllByRecursion P ys → AllByRecursion P (xs ++ ys)
both P [] ys hx hy = hy
both P (x ∷ xs) ys hx hy = (hx.0, both P xs ys hx.1 hy)

each : {X : Type 0} (P : X → Type 0) (f : ℕ → List X) (a n : ℕ) → ((i : ℕ) → a ≤ i → i < a + n → AllByRecursion P (f i)) → AllByRecursion P (flat_map f (range_with_len a n))
each P f a zero h = tt
each P f a (suc n) h =
    both P (f a) (flat_map f (range_with_len (a + 1) n)) (h a (omega arith) (omega arith))
    (each P f (a + 1) n (λ i l u. h i (omega arith) (omega arith)))

first_fit : (seed size : ℕ) → size ≤ MOST_TOKENS → AllByRecursion (HasSpelling First) (first_events seed size)
first_fit seed size small = (
  fits 400 (codes "resolver.json") resolver_text refl resolver_short (omega arith),
  (
    core_fits seed size 0 (omega arith) small,
    (
      fits 40 (codes "light.json") _ refl (fixed 40 (codes "{\"theme\":{\"$type\":\"number\",\"$value\":1}}") refl refl) (omega arith),
      (
        fits 40 (codes "dark.json") _ refl (fixed 40 (codes "{\"theme\":{\"$type\":\"number\",\"$value\":2}}") refl refl) (omega arith),
        (
          fits 40 (codes "cozy.json") _ refl (fixed 40 (codes "{\"dens\":{\"$type\":\"number\",\"$value\":1}}") refl refl) (omega arith),
          (
            fits 40 (codes "compact.json") _ refl (fixed 40 (codes "{\"dens\":{\"$type\":\"number\",\"$value\":2}}") refl refl) (omega arith),
            ((refl, tt), tt),
          ),
        ),
      ),
    ),
  ),
)

events_fit : (seed size : ℕ) → size ≤ MOST_TOKENS → AllByRecursion (HasSpelling First) (events_of seed size)
unfolding events_of
events_fit seed size small =
    both (HasSpelling First) (first_events seed size) (flat_map (edit_events seed size) (range_with_len 1 20)) (first_fit seed size small)
    (each (HasSpelling First) (edit_events seed size) 1 20 (λ edit l u. (core_fits seed size edit (omega arith) small, ((refl, tt), tt))))

text_is : (seed size : ℕ) → script_of seed size ≡ header First ++ flat_map event_text (events_of seed size)
unfolding script_of
text_is seed size = refl

-- the text is a script of the events
pub script : (seed size : ℕ) → size ≤ MOST_TOKENS → IsScript (script_of seed size) (events_of seed size)
script seed size small = (First, (text_is seed size, events_fit seed size small))

-- each of the events fits what stands before it
pub every_fits : (seed size : ℕ) → size ≤ MOST_TOKENS → EveryFits (events_of seed size)
every_fits seed size small = first_fits (events_of seed size) (events_fit seed size small)

-- the first commit, and one for each edit
pub commits : (seed size : ℕ) → commit_count (events_of seed size) ≡ 21
unfolding events_of
commits seed size = refl
