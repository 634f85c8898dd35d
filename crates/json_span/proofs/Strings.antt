-- The characters between two places of a text, without and with escapes.
use Rattle.std.proofs.Common.{◌≡◌, ℕ, ◌+◌, ◌-◌, ◌<◌, ◌≤◌, List, [], ◌∷◌, ◌++◌, length, take, drop, get_or, true, false, refl, sym, ap, ◌∙◌, subst, arith, length-drop, append-nil, take-append-drop, Ok}
use Rattle.std.specs.Prelude.{slice_range}
use Rattle.std.proofs.lemmas.List.{drop_more, take_rest, drop-drop, append_cancel_right, get_or-drop}
use Rattle.std.specs.Str.{IsUtf8, IsCharBoundary}
use Rattle.std.proofs.lemmas.Str.{IsCharBoundary-after_ascii}
use Rattle.grammar.specs.Grammar.{within, alt, many, named, seq}
use Rattle.grammar.specs.Predict.{begins, first, Steers, on_end, on_more}
use Rattle.grammar.proofs.Tables.{steered_from}
use Rattle.grammar.proofs.Predicts.{reads}
use Rattle.json_span.specs.Grammar.{unescaped, char, one, string}
use Rattle.json_span.specs.Predictive.{rules, table, ahead}
use Rattle.json_span.specs.Characters.{CharactersAt, closing_quote, unescaped_byte, short_escape, unicode_escape, surrogate_pair}
use Rattle.json_span.specs.Reading.{StringAt}
use Rattle.json_span.specs.inner.Scan.{ReadsTo, Halts}
use Rattle.json_span.specs.declared.bytes.Class.TheVariants.{One}
use Rattle.json_span.proofs.Predictive.{honest_json}
use Rattle.json_span.proofs.Scans as scan
use Rattle.json_span.proofs.Classes as row
use Rattle.json_span.proofs.Shorts.{choice_read, is_value}
use Rattle.json_span.proofs.Contents.{content_of_rest}
use Rattle.json_span.proofs.CharacterScans as characters

-- the slice and the text after it
pub cut_at : (text : List ℕ) (at end : ℕ) → at ≤ end → drop at text ≡ slice_range text at end ++ drop end text
cut_at text at end h =
    let e : at + (end - at) ≡ end = omega arith in
    sym (take-append-drop (end - at) (drop at text)) ∙ ap (λ z. take (end - at) (drop at text) ++ z) (drop-drop (end - at) at text ∙ ap (λ z. drop z text) e)

-- a byte that stands at a place
pub byte_at : (text : List ℕ) (c at : ℕ) → at < length text → scan.Sees text (within c c) at true → drop at text ≡ c ∷ drop (at + 1) text
byte_at text c at lt e =
    let cut : drop at text ≡ get_or text at 0 ∷ drop (at + 1) text = drop_more text at 0 lt in
    let h : within c c (get_or text at 0) ≡ true = subst (λ z. begins (within c c) z ≡ true) cut e in
    cut ∙ ap (λ z. z ∷ drop (at + 1) text) (is_value (get_or text at 0) c h)

not_quote : (c : ℕ) → c ≡ 34 → first ahead unescaped c ≡ true → ⊥
not_quote c e h = let b : first ahead unescaped 34 ≡ true = subst (λ z. first ahead unescaped z ≡ true) e h in cc

not_escape : (c : ℕ) → c ≡ 92 → first ahead unescaped c ≡ true → ⊥
not_escape c e h = let b : first ahead unescaped 92 ≡ true = subst (λ z. first ahead unescaped z ≡ true) e h in cc

plain_inside : {c : ℕ} {t s u : List ℕ} → CharactersAt (c ∷ t) s u → first ahead unescaped c ≡ true → (rest : List ℕ) × CharactersAt t rest u × (s ≡ c ∷ rest)
plain_inside (closing_quote {c} e) h = absurd (not_quote c e h)
plain_inside (unescaped_byte {s = s} e x) h = (s, x, refl)
plain_inside (short_escape {b = c} e f x) h = absurd (not_escape c e h)
plain_inside (unicode_escape {e = c} e f p q x) h = absurd (not_escape c e h)
plain_inside (surrogate_pair {e = c} e f p q g i r v x) h = absurd (not_escape c e h)

-- what a run of plain bytes adds to the characters
pub record Plain (t m : List ℕ) : Type 0 where
  pub front : List ℕ
  pub joined : t ≡ front ++ m
  pub adds : (s u : List ℕ) → CharactersAt m s u → CharactersAt t (front ++ s) u
  pub takes : (s u : List ℕ) → CharactersAt t s u → (rest : List ℕ) × CharactersAt m rest u × (s ≡ front ++ rest)

plain_run : {t m : List ℕ} → Steers rules ahead (many unescaped) t m → Plain t m
plain_run (on_end f) = record { front = []; joined = refl; adds = λ s u x. x; takes = λ s u x. (s, x, refl) }
plain_run (on_more x xs) =
    let (c, e, h) = choice_read (reads rules ahead honest_json x) (tt, (tt, tt)) in
    let r = plain_run xs in
    record {
      front = c ∷ r.front;
      joined = e ∙ ap (λ z. c ∷ z) r.joined;
      adds = λ s u k. subst (λ z. CharactersAt z (c ∷ (r.front ++ s)) u) (sym e) (unescaped_byte h (r.adds s u k));
      takes = λ s u k.
          let (a, k2, p) = plain_inside (subst (λ z. CharactersAt z s u) e k) h in
          let (rest, k3, q) = r.takes a u k2 in
          (rest, k3, p ∙ ap (λ z. c ∷ z) q);
    }

-- the same between two places
pub plain_slice : (text : List ℕ) (at end : ℕ) → ReadsTo (many unescaped) text at end → (p : Plain (drop at text) (drop end text)) × (p.front ≡ slice_range text at end)
plain_slice text at end x =
    let p = plain_run x.steers in
    (p, append_cancel_right p.front (slice_range text at end) (drop end text) (sym p.joined ∙ cut_at text at end x.forward))

pub plain_adds : (text : List ℕ) (at end : ℕ) → ReadsTo (many unescaped) text at end → (s u : List ℕ) → CharactersAt (drop end text) s u → CharactersAt (drop at text) (slice_range text at end ++ s) u
plain_adds text at end x s u k = let (p, e) = plain_slice text at end x in subst (λ z. CharactersAt (drop at text) (z ++ s) u) e (p.adds s u k)

pub plain_takes : (text : List ℕ) (at end : ℕ) → ReadsTo (many unescaped) text at end → (s u : List ℕ) → CharactersAt (drop at text) s u → (rest : List ℕ) × CharactersAt (drop end text) rest u × (s ≡ slice_range text at end ++ rest)
plain_takes text at end x s u k =
    let (p, e) = plain_slice text at end x in
    let (rest, k2, q) = p.takes s u k in
    (rest, k2, q ∙ ap (λ z. z ++ rest) e)

-- a string of no escape
pub plain_string : (text : List ℕ) (at end : ℕ) → at < length text → scan.Sees text (within 34 34) at true → ReadsTo (many unescaped) text (at + 1) end → end < length text → scan.Sees text (within 34 34) end true →
    ReadsTo (named string) text at (end + 1) × StringAt (drop at text) (slice_range text (at + 1) end) (drop (end + 1) text)
plain_string text at end lt e x lt2 f =
    let quote = row.reach_class text (One 34) end lt2 f in
    let other : begins (within 92 92) (drop end text) ≡ false = scan.not_other (within 34 34) (within 92 92) (steered_from table (alt (one 34) (one 92)) refl).2 (drop end text) f in
    let rest = characters.run_leads text (at + 1) end x (Ok (end + 1)) (characters.closing text end (Ok (end + 1)) x.within_text (characters.run_ends text (at + 1) end x) other quote) in
    let whole = scan.reach_name text string at (end + 1) (scan.reach_both text (one 34) (seq (many char) (one 34)) at (at + 1) (end + 1) (row.reach_class text (One 34) at lt e) rest) in
    let empty_rest : CharactersAt (drop end text) [] (drop (end + 1) text) = subst (λ z. CharactersAt z [] (drop (end + 1) text)) (sym (byte_at text 34 end lt2 f)) (closing_quote refl) in (
      whole,
      record {
        reads = reads rules ahead honest_json whole.steers;
        inner = drop (at + 1) text;
        quoted = byte_at text 34 at lt e;
        content = subst (λ z. CharactersAt (drop (at + 1) text) z (drop (end + 1) text)) (append-nil (slice_range text (at + 1) end)) (plain_adds text (at + 1) end x [] (drop (end + 1) text) empty_rest);
      },
    )

-- any string, with the characters that it has
pub any_string : (text s : List ℕ) (at end : ℕ) → at < length text → scan.Sees text (within 34 34) at true → ReadsTo (seq (many char) (one 34)) text (at + 1) end → CharactersAt (drop (at + 1) text) s (drop end text) →
    ReadsTo (named string) text at end × StringAt (drop at text) s (drop end text)
any_string text s at end lt e x k =
    let whole = scan.reach_name text string at end (scan.reach_both text (one 34) (seq (many char) (one 34)) at (at + 1) end (row.reach_class text (One 34) at lt e) x) in
    (whole, record { reads = reads rules ahead honest_json whole.steers; inner = drop (at + 1) text; quoted = byte_at text 34 at lt e; content = k })

-- the characters that a string has
pub has_content : (text : List ℕ) (at end : ℕ) → ReadsTo (seq (many char) (one 34)) text at end → (s : List ℕ) × CharactersAt (drop at text) s (drop end text)
has_content text at end x = content_of_rest (reads rules ahead honest_json x.steers)

-- no string
pub bad_string : (text : List ℕ) (at stop : ℕ) → at < length text → scan.Sees text (within 34 34) at true → Halts (seq (many char) (one 34)) text (at + 1) stop → Halts (named string) text at stop
bad_string text at stop lt e x = scan.halt_name text string at stop (scan.halt_second text (one 34) (seq (many char) (one 34)) at (at + 1) stop (row.reach_class text (One 34) at lt e) x)

pub no_string : (text : List ℕ) (at : ℕ) → at ≤ length text → scan.Sees text (within 34 34) at false → Halts (named string) text at at
no_string text at h e = scan.halt_name text string at at (scan.halt_first text (one 34) (seq (many char) (one 34)) at at (row.halt_class text (One 34) at h e))

-- boundaries of characters: after a byte of ASCII, and before one
pub behind_byte : (text : List ℕ) (c at : ℕ) → IsUtf8 text → c < 128 → at < length text → scan.Sees text (within c c) at true → IsCharBoundary text (at + 1)
behind_byte text c at utf small lt e =
    let cut : drop at text ≡ get_or text at 0 ∷ drop (at + 1) text = drop_more text at 0 lt in
    let same : get_or text at 0 ≡ c = is_value (get_or text at 0) c (subst (λ z. begins (within c c) z ≡ true) cut e) in
    IsCharBoundary-after_ascii text at utf lt (rw same small)

-- a rest of a string is not empty
pub not_ended : {t s u : List ℕ} → CharactersAt t s u → 0 < length t
not_ended (closing_quote e) = omega arith
not_ended (unescaped_byte e x) = omega arith
not_ended (short_escape e f x) = omega arith
not_ended (unicode_escape a b c d x) = omega arith
not_ended (surrogate_pair a b c d e f g h x) = omega arith

pub content_within : (text s u : List ℕ) (at : ℕ) → CharactersAt (drop at text) s u → at < length text
content_within text s u at x = omega (arith, not_ended x, length-drop at text)

-- after the run there is a quote, and no more characters, or a backslash
is_other : (b : ℕ) → b ≡ 92 → within 92 92 b ≡ false → ⊥
is_other b e f = let g : within 92 92 92 ≡ false = subst (λ z. within 92 92 z ≡ false) e f in cc

pub ends_here : (t s u : List ℕ) → CharactersAt t s u → begins (first ahead unescaped) t ≡ false → begins (within 92 92) t ≡ false → s ≡ []
ends_here _ _ _ (closing_quote e) f g = refl
ends_here _ _ _ (unescaped_byte e x) f g = cc
ends_here _ _ _ (short_escape {b = b} e h x) f g = absurd (is_other b e g)
ends_here _ _ _ (unicode_escape {e = b} e h p q x) f g = absurd (is_other b e g)
ends_here _ _ _ (surrogate_pair {e = b} e h p q i j r v x) f g = absurd (is_other b e g)

-- a slice up to the end of the text
pub rest_slice : (text bytes : List ℕ) (at : ℕ) → bytes ≡ text → take (length bytes - at) (drop at bytes) ≡ drop at text
rest_slice text bytes at e = take_rest bytes at ∙ ap (drop at) e

-- after an escape a character begins, or the text ends
pub escape_boundary : (text escape : List ℕ) (at len : ℕ) → IsUtf8 text → escape ≡ drop at text → at ≤ length text → 0 < len → len ≤ length escape → get_or escape (len - 1) 0 < 128 → IsCharBoundary text (at + len)
escape_boundary text escape at len utf e h some le small =
    let long : length escape ≡ length text - at = ap length e ∙ length-drop at text in
    let same : get_or escape (len - 1) 0 ≡ get_or text (at + (len - 1)) 0 = ap (λ z. get_or z (len - 1) 0) e ∙ get_or-drop at text (len - 1) 0 in
    let last : get_or text (at + (len - 1)) 0 < 128 = subst (λ z. z < 128) same small in
    subst (IsCharBoundary text) (omega arith) (IsCharBoundary-after_ascii text (at + (len - 1)) utf (omega arith) last)
