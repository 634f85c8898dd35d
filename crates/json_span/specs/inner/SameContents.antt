-- A string has one content.
use Rattle.std.proofs.Common.{◌≡◌, ℕ, List, ◌∷◌, true, false, ◌||◌, Option, Some, refl, sym, ap, subst, arith}
use Rattle.grammar.specs.Predict.{first}
use Rattle.json_span.specs.Grammar.{unescaped}
use Rattle.json_span.specs.Predictive.{ahead}
use Rattle.json_span.specs.Characters.{CharactersAt, closing_quote, unescaped_byte, short_escape, unicode_escape, surrogate_pair, short_of, code_unit_of, is_high, is_low}

not_quote : (c : ℕ) → c ≡ 34 → first ahead unescaped c ≡ true → ⊥
not_quote c e h = let b : first ahead unescaped 34 ≡ true = subst (λ z. first ahead unescaped z ≡ true) e h in cc

not_escape : (c : ℕ) → c ≡ 92 → first ahead unescaped c ≡ true → ⊥
not_escape c e h = let b : first ahead unescaped 92 ≡ true = subst (λ z. first ahead unescaped z ≡ true) e h in cc

not_both : (c : ℕ) → c ≡ 34 → c ≡ 92 → ⊥
not_both c e f = omega arith

not_u : (x c : ℕ) → short_of x ≡ Some c → x ≡ 117 → ⊥
not_u x c e f = let b : short_of 117 ≡ Some c = subst (λ z. short_of z ≡ Some c) f e in cc

same_unit : (o : Option ℕ) (n m : ℕ) → o ≡ Some n → o ≡ Some m → n ≡ m
same_unit o n m e f = cc

high_or_not : (n m : ℕ) → n ≡ m → (is_high n || is_low n) ≡ false → is_high m ≡ true → ⊥
high_or_not n m e f h = let g : is_high n ≡ true = subst (λ z. is_high z ≡ true) (sym e) h in let k : (is_high n || is_low n) ≡ true = rw g refl in cc

pub same_content : {t s u s2 u2 : List ℕ} → CharactersAt t s u → CharactersAt t s2 u2 → (s ≡ s2) × (u ≡ u2)
same_content (closing_quote e) (closing_quote e2) = (refl, refl)
same_content (closing_quote {c = c} e) (unescaped_byte h y) = absurd (not_quote c e h)
same_content (closing_quote {c = c} e) (short_escape b p y) = absurd (not_both c e b)
same_content (closing_quote {c = c} e) (unicode_escape b f p q y) = absurd (not_both c e b)
same_content (closing_quote {c = c} e) (surrogate_pair b f p q g i r v y) = absurd (not_both c e b)
same_content (unescaped_byte {c = c} h x) (closing_quote e) = absurd (not_quote c e h)
same_content (unescaped_byte {c = c} h x) (unescaped_byte h2 y) = let (p, q) = same_content x y in (ap (λ z. c ∷ z) p, q)
same_content (unescaped_byte {c = c} h x) (short_escape b p y) = absurd (not_escape c b h)
same_content (unescaped_byte {c = c} h x) (unicode_escape b f p q y) = absurd (not_escape c b h)
same_content (unescaped_byte {c = c} h x) (surrogate_pair b f p q g i r v y) = absurd (not_escape c b h)
same_content (short_escape {b = c} b p x) (closing_quote e) = absurd (not_both c e b)
same_content (short_escape {b = c} b p x) (unescaped_byte h y) = absurd (not_escape c b h)
same_content (short_escape {x = k} {c = c} b p x) (short_escape {c = c2} b2 p2 y) = let (q, r) = same_content x y in let e : c ≡ c2 = same_unit (short_of k) c c2 p p2 in (rw (e, q) refl, r)
same_content (short_escape {x = k} {c = c} b p x) (unicode_escape b2 f q r y) = absurd (not_u k c p f)
same_content (short_escape {x = k} {c = c} b p x) (surrogate_pair b2 f q r g i v w y) = absurd (not_u k c p f)
same_content (unicode_escape {e = c} b f p q x) (closing_quote e) = absurd (not_both c e b)
same_content (unicode_escape {e = c} b f p q x) (unescaped_byte h y) = absurd (not_escape c b h)
same_content (unicode_escape {f = k} b f p q x) (short_escape {c = c} b2 p2 y) = absurd (not_u k c p2 f)
same_content (unicode_escape {a = a} {b = b1} {c = c} {d = d} {n = n} b f p q x) (unicode_escape {n = n2} b2 f2 p2 q2 y) = let (r, v) = same_content x y in let e : n ≡ n2 = same_unit (code_unit_of a b1 c d) n n2 p p2 in (rw (e, r) refl, v)
same_content (unicode_escape {a = a} {b = b1} {c = c} {d = d} {n = n} b f p q x) (surrogate_pair {h = h} b2 f2 p2 q2 g i r v y) = absurd (high_or_not n h (same_unit (code_unit_of a b1 c d) n h p p2) q q2)
same_content (surrogate_pair {e = c} b f p q g i r v x) (closing_quote e) = absurd (not_both c e b)
same_content (surrogate_pair {e = c} b f p q g i r v x) (unescaped_byte h y) = absurd (not_escape c b h)
same_content (surrogate_pair {f = k} b f p q g i r v x) (short_escape {c = c} b2 p2 y) = absurd (not_u k c p2 f)
same_content (surrogate_pair {a = a} {b = b1} {c = c} {d = d} {h = h} b f p q g i r v x) (unicode_escape {n = n} b2 f2 p2 q2 y) = absurd (high_or_not n h (same_unit (code_unit_of a b1 c d) n h p2 p) q2 q)
same_content (surrogate_pair {a = a} {b = b1} {c = c} {d = d} {h = h} {j = j} {k = k} {l = l} {m = m} {low = o} b f p q g i r v x) (surrogate_pair {h = h2} {low = o2} b2 f2 p2 q2 g2 i2 r2 v2 y) =
    let (w, z) = same_content x y in
    let e : h ≡ h2 = same_unit (code_unit_of a b1 c d) h h2 p p2 in
    let e2 : o ≡ o2 = same_unit (code_unit_of j k l m) o o2 r r2 in
    (rw (e, e2, w) refl, z)
