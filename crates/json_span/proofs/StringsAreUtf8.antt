-- The characters of a string of a text of UTF-8 are UTF-8, and so is what follows the string.
use Rattle.std.proofs.Common.{◌≡◌, ℕ, ◌<◌, List, [], ◌∷◌, ◌++◌, length, get_or, true, Some, sym, ap, subst, append_assoc, append-nil, length-append, arith}
use Rattle.std.specs.Char.{digit_value, encode_utf8}
use Rattle.std.specs.Str.{IsUtf8, IsCharBoundary}
use Rattle.std.proofs.Math.Seq.{take-append_seam, drop-append_seam, get_or-append_seam}
use Rattle.std.proofs.lemmas.Bool.Decides.{nat_tests}
use Rattle.std.proofs.lemmas.Str.{IsUtf8-append, IsUtf8-drop, IsUtf8-encode, IsUtf8-from_ascii, IsUtf8-past_char, IsUtf8-take, IsCharBoundary-before_ascii, encode_ascii}
use Rattle.grammar.specs.Predict.{first}
use Rattle.json_span.specs.Grammar.{hex}
use Rattle.json_span.specs.Reading.{StringAt}
use Rattle.json_span.specs.Predictive.{ahead}
use Rattle.json_span.specs.Characters.{CharactersAt, closing_quote, unescaped_byte, short_escape, unicode_escape, surrogate_pair, code_unit_of, joined_pair}
use Rattle.json_span.proofs.Boundaries.{one_ascii}
use Rattle.json_span.proofs.EscapeFacts.{digits_in, hex_ascii, short_small, short_letter, scalar_alone, scalar_joined}

-- a text may be cut around an ASCII byte
ascii_apart : (front rest : List ℕ) (c : ℕ) → c < 128 → IsUtf8 (front ++ c ∷ rest) → IsUtf8 front × IsUtf8 rest
ascii_apart front rest c small utf =
    let text = front ++ c ∷ rest in
    let at = length front in
    let inside : at < length text = omega (arith, length-append front (c ∷ rest)) in
    let here : get_or text at 0 < 128 = subst (λ b. b < 128) (sym (get_or-append_seam front c rest 0)) small in
    let cut : IsCharBoundary text at = IsCharBoundary-before_ascii text at inside here in
    let tail : IsUtf8 (c ∷ rest) = subst IsUtf8 (drop-append_seam front (c ∷ rest)) (IsUtf8-drop text at utf cut) in (
      subst IsUtf8 (take-append_seam front (c ∷ rest)) (IsUtf8-take text at utf cut),
      IsUtf8-past_char (c ∷ rest) rest c tail (ap (λ z. z ++ rest) (sym (encode_ascii c small))),
    )

pub behind_ascii : (c : ℕ) (rest : List ℕ) → c < 128 → IsUtf8 (c ∷ rest) → IsUtf8 rest
behind_ascii c rest small utf = (ascii_apart [] rest c small utf).1

behind_digits : (a b c d n : ℕ) (rest : List ℕ) → code_unit_of a b c d ≡ Some n → IsUtf8 (a ∷ b ∷ c ∷ d ∷ rest) → IsUtf8 rest
behind_digits a b c d n rest e utf =
    let k = digits_in a b c d n e in
    behind_ascii d rest (hex_ascii d k.fourth_hex)
    (behind_ascii c (d ∷ rest) (hex_ascii c k.third_hex)
    (behind_ascii b (c ∷ d ∷ rest) (hex_ascii b k.second_hex)
    (behind_ascii a (b ∷ c ∷ d ∷ rest) (hex_ascii a k.first_hex) utf)))

hex_value : (a : ℕ) → first ahead hex a ≡ true → digit_value a < 16
hex_value a h = grind (arith, nat_tests)

unit_small : (a b c d n : ℕ) → code_unit_of a b c d ≡ Some n → n < 65536
unit_small a b c d n e =
    let k = digits_in a b c d n e in
    omega (arith, hex_value a k.first_hex, hex_value b k.second_hex, hex_value c k.third_hex, hex_value d k.fourth_hex, k.number)

pub content_utf8 : (front : List ℕ) {t s u : List ℕ} → CharactersAt t s u → IsUtf8 (front ++ t) → IsUtf8 (front ++ s) × IsUtf8 u
content_utf8 front (closing_quote {c = c} {u = u} e) utf = let k = ascii_apart front u c (omega (arith, e)) utf in (subst IsUtf8 (sym (append-nil front)) k.0, k.1)
content_utf8 front (unescaped_byte {c = c} {t = t} {s = s} e x) utf =
    let k = content_utf8 (front ++ c ∷ []) x (subst IsUtf8 (sym (append_assoc front (c ∷ []) t)) utf) in
    (subst IsUtf8 (append_assoc front (c ∷ []) s) k.0, k.1)
content_utf8 front (short_escape {b = b} {x = letter} {c = c} {t = t} {s = s} e f x) utf =
    let q = ascii_apart front (letter ∷ t) b (omega (arith, e)) utf in
    let k = content_utf8 [] x (behind_ascii letter t (short_letter letter c f) q.1) in
    let one : IsUtf8 (c ∷ []) = IsUtf8-from_ascii (c ∷ []) (one_ascii c (short_small letter c f)) in
    (IsUtf8-append front (c ∷ s) q.0 (IsUtf8-append (c ∷ []) s one k.0), k.1)
content_utf8 front (unicode_escape {e = e} {f = f} {a = a} {b = b} {c = c} {d = d} {n = n} {t = t} {s = s} p q number alone x) utf =
    let cut = ascii_apart front (f ∷ a ∷ b ∷ c ∷ d ∷ t) e (omega (arith, p)) utf in
    let digits = behind_ascii f (a ∷ b ∷ c ∷ d ∷ t) (omega (arith, q)) cut.1 in
    let k = content_utf8 [] x (behind_digits a b c d n t number digits) in
    let one : IsUtf8 (encode_utf8 n) = IsUtf8-encode n (scalar_alone n (unit_small a b c d n number) alone) in
    (IsUtf8-append front (encode_utf8 n ++ s) cut.0 (IsUtf8-append (encode_utf8 n) s one k.0), k.1)
content_utf8 front (surrogate_pair {e = e} {f = f} {a = a} {b = b} {c = c} {d = d} {h = high} {g = g} {i = i} {j = j} {k = k} {l = l} {m = m} {low = low} {t = t} {s = s} p q number is_high r v other is_low x) utf =
    let behind = j ∷ k ∷ l ∷ m ∷ t in
    let cut = ascii_apart front (f ∷ a ∷ b ∷ c ∷ d ∷ g ∷ i ∷ behind) e (omega (arith, p)) utf in
    let digits = behind_ascii f (a ∷ b ∷ c ∷ d ∷ g ∷ i ∷ behind) (omega (arith, q)) cut.1 in
    let second = behind_digits a b c d high (g ∷ i ∷ behind) number digits in
    let letter = behind_ascii g (i ∷ behind) (omega (arith, r)) second in
    let rest = content_utf8 [] x (behind_digits j k l m low t other (behind_ascii i behind (omega (arith, v)) letter)) in
    let one : IsUtf8 (encode_utf8 (joined_pair high low)) = IsUtf8-encode (joined_pair high low) (scalar_joined high low is_high is_low) in
    (IsUtf8-append front (encode_utf8 (joined_pair high low) ++ s) cut.0 (IsUtf8-append (encode_utf8 (joined_pair high low)) s one rest.0), rest.1)

-- a string of a text of UTF-8
pub string_utf8 : {t s u : List ℕ} → StringAt t s u → IsUtf8 t → IsUtf8 s × IsUtf8 u
string_utf8 x utf = content_utf8 [] x.content (behind_ascii 34 x.inner (omega arith) (subst IsUtf8 x.quoted utf))
