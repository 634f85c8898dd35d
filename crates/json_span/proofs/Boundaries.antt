-- What ASCII rules read may be cut out of a text.
use Rattle.std.proofs.Common.{◌≡◌, ℕ, zero, suc, ◌+◌, ◌-◌, ◌<◌, ◌≤◌, List, [], ◌∷◌, ◌++◌, length, drop, get_or, Bool, true, false, ◌&&◌, refl, sym, ap, ◌∙◌, subst, append_assoc, arith, length-append, length-drop}
use Rattle.std.specs.Prelude.{nat_lt}
use Rattle.std.proofs.lemmas.List.{get_or-drop, get_or_append_left}
use Rattle.std.proofs.Common.{add-zero}
use Rattle.std.specs.Str.{IsAscii, IsUtf8, IsCharBoundary}
use Rattle.std.proofs.lemmas.Str.{IsAscii-append, IsCharBoundary-before_ascii, IsCharBoundary-after_ascii}
use Rattle.std.proofs.lemmas.Str.Ascii.{IsAscii-nil}
use Rattle.std.proofs.lemmas.Bool.Decides.{nat_tests}
use Rattle.grammar.specs.Grammar.{Rule, empty, byte, seq, alt, many, named, within, Reads, no_byte, one_byte, both, left, right, no_more, more, by_name}
use Rattle.json_span.specs.Grammar.{Name, number}
use Rattle.json_span.specs.Predictive.{rules}

-- each byte of the rule is below 128; the one name is that of numbers
abbrev pub is_ascii : Rule Name → Bool
is_ascii empty = true
is_ascii (byte low high) = nat_lt high 128
is_ascii (seq r s) = is_ascii r && is_ascii s
is_ascii (alt r s) = is_ascii r && is_ascii s
is_ascii (many r) = is_ascii r
is_ascii (named n) = false

and_left : (a b : Bool) → (a && b) ≡ true → a ≡ true
and_left true b e = refl
and_left false b e = e

and_right : (a b : Bool) → (a && b) ≡ true → b ≡ true
and_right true b e = e
and_right false b e = cc

below : (low high c : ℕ) → within low high c ≡ true → nat_lt high 128 ≡ true → c < 128
below low high c h e = grind (arith, nat_tests)

pub one_ascii : (c : ℕ) → c < 128 → IsAscii (c ∷ [])
one_ascii c h zero = h
one_ascii c h (suc i) = omega arith

joined : (t m u f g : List ℕ) → t ≡ f ++ m → m ≡ g ++ u → t ≡ (f ++ g) ++ u
joined t m u f g e e2 = e ∙ ap (λ z. f ++ z) e2 ∙ sym (append_assoc f g u)

pub ascii_front : {r : Rule Name} {t u : List ℕ} → Reads rules r t u → is_ascii r ≡ true → (k : List ℕ) × (t ≡ k ++ u) × IsAscii k
ascii_front no_byte e = ([], refl, IsAscii-nil)
ascii_front (one_byte {low} {high} {c} h) e = (c ∷ [], refl, one_ascii c (below low high c h e))
ascii_front {t = t} {u = u} (both {r} {s} {u = m} x y) e = let (f, p, a) = ascii_front x (and_left _ (is_ascii s) e) in let (g, q, b) = ascii_front y (and_right (is_ascii r) _ e) in (f ++ g, joined t m u f g p q, IsAscii-append f g a b)
ascii_front (left {r} {s} x) e = ascii_front x (and_left _ (is_ascii s) e)
ascii_front (right {r} {s} x) e = ascii_front x (and_right (is_ascii r) _ e)
ascii_front no_more e = ([], refl, IsAscii-nil)
ascii_front {t = t} {u = u} (more {r} {u = m} x y) e = let (f, p, a) = ascii_front x e in let (g, q, b) = ascii_front y e in (f ++ g, joined t m u f g p q, IsAscii-append f g a b)
ascii_front (by_name x) e = cc

is_ascii_number : is_ascii (rules number) ≡ true
is_ascii_number = refl

-- after what ASCII rules read a character begins, or the text ends
past_ascii : (text k u : List ℕ) (at : ℕ) → IsUtf8 text → at ≤ length text → drop at text ≡ k ++ u → IsAscii k → 0 < length k → IsCharBoundary text (at + length k)
past_ascii text k u at utf h e a pos =
    let n : ℕ = length k - 1 in
    let long : length (drop at text) ≡ length k + length u = ap length e ∙ length-append k u in
    let lt : at + n < length text = omega (arith, length-drop at text) in
    let reads : get_or text (at + n) 0 ≡ get_or k n 0 = sym (get_or-drop at text n 0) ∙ ap (λ z. get_or z n 0) e ∙ get_or_append_left k u 0 n (omega arith) in
    let small : get_or text (at + n) 0 < 128 = rw reads (a n) in
    let same : (at + n) + 1 ≡ at + length k = omega arith in
    subst (IsCharBoundary text) same (IsCharBoundary-after_ascii text (at + n) utf lt small)

pub number_boundaries : (text : List ℕ) (at end : ℕ) → IsUtf8 text → at < end → end ≤ length text → Reads rules (named number) (drop at text) (drop end text) → IsCharBoundary text at × IsCharBoundary text end
number_boundaries text at end utf lt le (by_name x) =
    let (k, e, a) = ascii_front x is_ascii_number in
    let long : length (drop at text) ≡ length k + length (drop end text) = ap length e ∙ length-append k (drop end text) in
    let size : length k ≡ end - at = omega (arith, length-drop at text, length-drop end text) in
    let first_ : get_or text at 0 < 128 = rw (sym (ap (λ z. get_or text z 0) (add-zero at)) ∙ sym (get_or-drop at text 0 0) ∙ ap (λ z. get_or z 0 0) e ∙ get_or_append_left k (drop end text) 0 0 (omega arith)) (a 0) in (
      IsCharBoundary-before_ascii text at (omega arith) first_,
      subst (IsCharBoundary text) (omega arith) (past_ascii text k (drop end text) at utf (omega arith) e a (omega arith)),
    )
