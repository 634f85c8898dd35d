-- What the grammar derives as a string has a content.
use Rattle.std.proofs.Common.{◌≡◌, ℕ, ◌+◌, ◌-◌, ◌*◌, List, [], ◌∷◌, ◌++◌, true, false, ◌||◌, sym, subst}
use Rattle.std.specs.Char.{digit_value, encode_utf8}
use Rattle.grammar.specs.Grammar.{seq, many, Reads, one_byte, both, left, right, no_more, more}
use Rattle.grammar.specs.Predict.{first}
use Rattle.json_span.specs.Grammar.{hex, char, one}
use Rattle.json_span.specs.Predictive.{rules, ahead}
use Rattle.json_span.specs.Characters.{CharactersAt, closing_quote, unescaped_byte, short_escape, unicode_escape, surrogate_pair, code_unit, is_high, is_low}
use Rattle.json_span.proofs.Shorts.{choice_read, short_some, is_value, hex_unit, not_d_hex, not_d_value, hex_value, no_surrogate, below_unit, low_digit_value, d_value, high_unit, low_unit, high_digit_value, last_digit_value}

four : (t u2 u3 u4 v : List ℕ) (a b c d : ℕ) → t ≡ a ∷ u2 → u2 ≡ b ∷ u3 → u3 ≡ c ∷ u4 → u4 ≡ d ∷ v → t ≡ a ∷ b ∷ c ∷ d ∷ v
four t u2 u3 u4 v a b c d e f g h = cc

abbrev Has : List ℕ → List ℕ → Type 0
Has t u = (s : List ℕ) × CharactersAt t s u

of_unit : (e f a b c d : ℕ) {t s u : List ℕ} → e ≡ 92 → f ≡ 117 → first ahead hex a ≡ true → first ahead hex b ≡ true → first ahead hex c ≡ true → first ahead hex d ≡ true →
    (is_high (digit_value a * 4096 + digit_value b * 256 + digit_value c * 16 + digit_value d) || is_low (digit_value a * 4096 + digit_value b * 256 + digit_value c * 16 + digit_value d)) ≡ false → CharactersAt t s u → Has (e ∷ f ∷ a ∷ b ∷ c ∷ d ∷ t) u
of_unit e f a b c d {s = s} p q ha hb hc hd n k =
    (encode_utf8 (digit_value a * 4096 + digit_value b * 256 + digit_value c * 16 + digit_value d) ++ s, unicode_escape p q (hex_unit a b c d ha hb hc hd) n k)

of_units : (e f a b c d g i j k l m : ℕ) {t s u : List ℕ} → e ≡ 92 → f ≡ 117 → first ahead hex a ≡ true → first ahead hex b ≡ true → first ahead hex c ≡ true → first ahead hex d ≡ true →
    g ≡ 92 → i ≡ 117 → first ahead hex j ≡ true → first ahead hex k ≡ true → first ahead hex l ≡ true → first ahead hex m ≡ true →
    is_high (code_unit a b c d) ≡ true → is_low (code_unit j k l m) ≡ true → CharactersAt t s u → Has (e ∷ f ∷ a ∷ b ∷ c ∷ d ∷ g ∷ i ∷ j ∷ k ∷ l ∷ m ∷ t) u
of_units e f a b c d g i j k l m {s = s} p q ha hb hc hd p2 q2 hj hk hl hm high low x =
    (encode_utf8 (0x10000 + (code_unit a b c d - 0xd800) * 1024 + (code_unit j k l m - 0xdc00)) ++ s, surrogate_pair p q (hex_unit a b c d ha hb hc hd) high p2 q2 (hex_unit j k l m hj hk hl hm) low x)

pub content_of : {t m u : List ℕ} → Reads rules (many char) t m → Reads rules (one 34) m u → Has t u
content_of no_more (one_byte {c = c} h) = ([], closing_quote (is_value c 34 h))
content_of {u = u} (more (left x) ms) q =
    let (c, e, h) = choice_read x (tt, (tt, tt)) in
    let (s, k) = content_of ms q in
    subst (λ z. Has z u) (sym e) (c ∷ s, unescaped_byte h k)
content_of {u = u} (more (right (both (one_byte {c = b} h) (left x))) ms) q =
    let (c, e, f) = choice_read x (tt, (tt, (tt, (tt, (tt, (tt, (tt, tt))))))) in
    let (s, k) = content_of ms q in
    let (d, g) = short_some c f in
    subst (λ z. Has (b ∷ z) u) (sym e) (d ∷ s, short_escape (is_value b 92 h) g k)
content_of {u = u} (more (right (both (one_byte {c = b} h) (right (both (one_byte {c = f} g) (left (both x (both y (both z w)))))))) ms) q =
    let (a1, e1, f1) = choice_read x (tt, (tt, (tt, (tt, tt)))) in
    let (a2, e2, f2) = choice_read y (tt, (tt, tt)) in
    let (a3, e3, f3) = choice_read z (tt, (tt, tt)) in
    let (a4, e4, f4) = choice_read w (tt, (tt, tt)) in
    let (s, k) = content_of ms q in
    subst (λ v. Has (b ∷ f ∷ v) u) (sym (four _ _ _ _ _ a1 a2 a3 a4 e1 e2 e3 e4))
    (of_unit b f a1 a2 a3 a4 (is_value b 92 h) (is_value f 117 g) (not_d_hex a1 f1) f2 f3 f4
    (no_surrogate (digit_value a1) (digit_value a2) (digit_value a3) (digit_value a4) (hex_value a1 (not_d_hex a1 f1)) (hex_value a2 f2) (hex_value a3 f3) (hex_value a4 f4) (not_d_value a1 f1)) k)
content_of {u = u} (more (right (both (one_byte {c = b} h) (right (both (one_byte {c = f} g) (right (both x (left (both y (both z w))))))))) ms) q =
    let (a1, e1, f1) = choice_read x (tt, tt) in
    let (a2, e2, f2) = choice_read y tt in
    let (a3, e3, f3) = choice_read z (tt, (tt, tt)) in
    let (a4, e4, f4) = choice_read w (tt, (tt, tt)) in
    let (s, k) = content_of ms q in
    let (p1, v1) = d_value a1 f1 in
    let (p2, v2) = low_digit_value a2 f2 in
    subst (λ v. Has (b ∷ f ∷ v) u) (sym (four _ _ _ _ _ a1 a2 a3 a4 e1 e2 e3 e4))
    (of_unit b f a1 a2 a3 a4 (is_value b 92 h) (is_value f 117 g) p1 p2 f3 f4
    (rw v1 (below_unit (digit_value a2) (digit_value a3) (digit_value a4) v2 (hex_value a3 f3) (hex_value a4 f4))) k)
content_of {u = u} (more (right (both (one_byte {c = b} h) (right (both (one_byte {c = f} g) (right (both x (right (both y (both z (both w (both (one_byte {c = b2} h2) (both (one_byte {c = f2} g2) (both x2 (both y2 (both z2 w2))))))))))))))) ms) q =
    let (a1, e1, k1) = choice_read x (tt, tt) in
    let (a2, e2, k2) = choice_read y (tt, (tt, tt)) in
    let (a3, e3, k3) = choice_read z (tt, (tt, tt)) in
    let (a4, e4, k4) = choice_read w (tt, (tt, tt)) in
    let (c1, d1, l1) = choice_read x2 (tt, tt) in
    let (c2, d2, l2) = choice_read y2 (tt, tt) in
    let (c3, d3, l3) = choice_read z2 (tt, (tt, tt)) in
    let (c4, d4, l4) = choice_read w2 (tt, (tt, tt)) in
    let (s, k) = content_of ms q in
    let (p1, v1) = d_value a1 k1 in
    let (p2, v2, v3) = high_digit_value a2 k2 in
    let (r1, o1) = d_value c1 l1 in
    let (r2, o2, o3) = last_digit_value c2 l2 in
    subst (λ v. Has (b ∷ f ∷ v) u) (sym (four _ _ _ _ _ a1 a2 a3 a4 e1 e2 e3 e4)) (subst (λ v. Has (b ∷ f ∷ a1 ∷ a2 ∷ a3 ∷ a4 ∷ b2 ∷ f2 ∷ v) u) (sym (four _ _ _ _ _ c1 c2 c3 c4 d1 d2 d3 d4))
    (of_units b f a1 a2 a3 a4 b2 f2 c1 c2 c3 c4 (is_value b 92 h) (is_value f 117 g) p1 p2 k3 k4 (is_value b2 92 h2) (is_value f2 117 g2) r1 r2 l3 l4
    (rw v1 (high_unit (digit_value a2) (digit_value a3) (digit_value a4) v2 v3 (hex_value a3 k3) (hex_value a4 k4)))
    (rw o1 (low_unit (digit_value c2) (digit_value c3) (digit_value c4) o2 o3 (hex_value c3 l3) (hex_value c4 l4))) k))

-- the rest of a string, with its closing quote
pub content_of_rest : {t u : List ℕ} → Reads rules (seq (many char) (one 34)) t u → Has t u
content_of_rest (both x y) = content_of x y
