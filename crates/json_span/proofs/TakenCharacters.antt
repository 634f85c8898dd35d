-- The characters of a string up to a place, taken run by run and escape by escape.
use Rattle.std.proofs.Common.{◌≡◌, ℕ, ◌+◌, ◌-◌, ◌<◌, List, [], ◌++◌, length, take, drop, get_or, true, false, refl, sym, ap, ◌∙◌, subst, append_assoc, append-nil}
use Rattle.std.specs.Prelude.{slice_range}
use Rattle.std.specs.Char.{encode_utf8}
use Rattle.std.proofs.lemmas.List.{drop-drop}
use Rattle.std.proofs.Math.Logic.{∥∥₁_elim, ∥∥₁_prop}
use Rattle.grammar.specs.Grammar.{within, many}
use Rattle.json_span.specs.Grammar.{unescaped}
use Rattle.json_span.specs.Characters.{CharactersAt}
use Rattle.json_span.specs.inner.Escapes.{HasCharacters, BeginsEscape, StandsFor}
use Rattle.json_span.specs.inner.Scan.{ReadsTo}
use Rattle.json_span.proofs.Scans as scan
use Rattle.json_span.proofs.CharacterScans as characters
use Rattle.json_span.proofs.Strings.{plain_takes, ends_here, rest_slice, content_within, byte_at}

-- a string that stands from the one place has these characters up to the other, and then the rest
pub record Taken (text : List ℕ) (from at : ℕ) (done : List ℕ) : Type 0 where
  pub left : (s u : List ℕ) → CharactersAt (drop from text) s u → (rest : List ℕ) × CharactersAt (drop at text) rest u × (s ≡ done ++ rest)

pub none_taken : (text : List ℕ) (from : ℕ) → Taken text from from []
none_taken text from = record { left = λ s u k. (s, k, refl) }

-- the same characters, as a list that grew has them
pub taken_as : {text done more : List ℕ} {from at : ℕ} → more ≡ done → Taken text from at done → Taken text from at more
taken_as {text} {from = from} {at = at} e t = subst (Taken text from at) (sym e) t

pub run_taken : {text done : List ℕ} {from at end : ℕ} → Taken text from at done → ReadsTo (many unescaped) text at end → Taken text from end (done ++ slice_range text at end)
run_taken {text} {done} {at = at} {end = end} t x = record {
  left = λ s u k.
      let (rest, k1, e1) = t.left s u k in
      let (rest2, k2, e2) = plain_takes text at end x rest u k1 in
      (rest2, k2, e1 ∙ ap (λ z. done ++ z) e2 ∙ sym (append_assoc done (slice_range text at end) rest2));
}

pub escape_taken : {text done escape : List ℕ} {from at : ℕ} (character len : ℕ) → Taken text from at done → escape ≡ drop at text → StandsFor escape character len → Taken text from (at + len) (done ++ encode_utf8 character)
escape_taken {text} {done} {at = at} character len t e stands = record {
  left = λ s u k.
      let (rest, k1, e1) = t.left s u k in
      let (rest2, k2, e2) = stands rest u (subst (λ z. CharactersAt z rest u) (sym e) k1) in (
        rest2,
        subst (λ z. CharactersAt z rest2 u) (ap (drop len) e ∙ drop-drop len at text) k2,
        e1 ∙ ap (λ z. done ++ z) e2 ∙ sym (append_assoc done (encode_utf8 character) rest2),
      );
}

-- after a run that no backslash follows the string ends
pub all_taken : {text done : List ℕ} {from at end : ℕ} → Taken text from end done → ReadsTo (many unescaped) text at end → scan.Sees text (within 92 92) end false → (s u : List ℕ) → CharactersAt (drop from text) s u → s ≡ done
all_taken {text} {done} {at = at} {end = end} t x sees s u k =
    let (rest, k1, e1) = t.left s u k in
    e1 ∙ ap (λ z. done ++ z) (ends_here (drop end text) rest u k1 (characters.run_ends text at end x) sees) ∙ append-nil done

-- a backslash begins an escape
pub escape_begins : {text bytes done : List ℕ} {from at : ℕ} → Taken text from at done → bytes ≡ text → HasCharacters (drop from text) → scan.Sees text (within 92 92) at true → BeginsEscape (take (length bytes - at) (drop at bytes))
escape_begins {text} {bytes} {at = at} t e has sees = ∥∥₁_elim has ∥∥₁_prop (λ (s, u, k).
    let (rest, k1, e1) = t.left s u k in
    let lt : at < length text = content_within text rest u at k1 in
    let first_ : get_or (drop at text) 0 0 ≡ 92 = ap (λ z. get_or z 0 0) (byte_at text 92 at lt sees) in
    rw (rest_slice text bytes at e) (∣ (rest, u, k1, first_) ∣₁))
