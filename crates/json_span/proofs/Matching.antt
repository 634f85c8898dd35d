-- Two texts compared from their start, and a string compared with a text as far as it was read.
use Rattle.std.proofs.Common.{◌≡◌, ℕ, suc, ◌+◌, ◌==◌, List, [], ◌∷◌, ◌++◌, length, take, drop, Bool, true, false, refl, sym, ap, ◌∙◌, subst, arith, append_assoc, append-nil, slice_range}
use Rattle.std.proofs.lemmas.Bool.Decides.{nat_tests}
use Rattle.std.proofs.lemmas.List.{append_cancel_left, take-append-drop}
use Rattle.std.proofs.lemmas.Slice.Eq.{bytes_eq-Decides}
use Rattle.std.proofs.Math.Seq.{take-append_seam}
use Rattle.std.specs.Char.{encode_utf8}
use Rattle.std.specs.Str.{bytes_eq}
use Rattle.grammar.specs.Grammar.{within, many}
use Rattle.json_span.specs.Grammar.{unescaped}
use Rattle.json_span.specs.Characters.{CharactersAt}
use Rattle.json_span.specs.inner.Escapes.{StandsFor}
use Rattle.json_span.specs.inner.Scan.{ReadsTo}
use Rattle.json_span.proofs.Scans as scan
use Rattle.json_span.proofs.TakenCharacters.{Taken, none_taken, taken_as, run_taken, escape_taken, all_taken}

both_ways : (b : Bool) → b ≡ true → b ≡ false → ⊥
both_ways b e f = cc

refused : (b : Bool) → (b ≡ true → ⊥) → false ≡ b
refused true h = absurd (h refl)
refused false h = refl

no_front : (s p : List ℕ) → bytes_eq (take (length p) s) p ≡ false → (z : List ℕ) → s ≡ p ++ z → ⊥
no_front s p m z e = both_ways (bytes_eq (take (length p) s) p) ((bytes_eq-Decides (take (length p) s) p).1 (ap (take (length p)) e ∙ take-append_seam p z)) m

pub front : (s p x : List ℕ) → bytes_eq (take (length p) s) p ≡ true → x ≡ drop (length p) s → s ≡ p ++ x
front s p x m e = sym (take-append-drop (length p) s) ∙ λ k. (bytes_eq-Decides (take (length p) s) p).0 m k ++ sym e k

-- after equal prefixes one goes on as the other does not
pub not_same : (s characters before rest p r : List ℕ) → characters ≡ before ++ rest → s ≡ before ++ (p ++ r) → bytes_eq (take (length p) rest) p ≡ false → false ≡ bytes_eq s characters
not_same s characters before rest p r c e m =
    refused (bytes_eq s characters) (λ t. no_front rest p m r (append_cancel_left before rest (p ++ r) (sym c ∙ sym ((bytes_eq-Decides s characters).0 t) ∙ e)))

not_empty : (n : ℕ) → (suc n == 0) ≡ false
not_empty n = grind (arith, nat_tests)

no_more : (x : ℕ) (xs : List ℕ) → [] ≡ x ∷ xs → ⊥
no_more x xs e = cc

-- one ends there
pub same_end : (s characters before behind : List ℕ) → characters ≡ before ++ behind → s ≡ before ++ [] → (length behind == 0) ≡ bytes_eq s characters
same_end s characters before [] c e = sym ((bytes_eq-Decides s characters).1 (e ∙ sym c))
same_end s characters before (x ∷ xs) c e = not_empty (length xs) ∙ refused (bytes_eq s characters) (λ t. no_more x xs (append_cancel_left before [] (x ∷ xs) (sym e ∙ (bytes_eq-Decides s characters).0 t ∙ c)))

-- the characters that were taken are those with which the text begins, and this is left of the text
pub record Matched (text : List ℕ) (from at : ℕ) (whole rest : List ℕ) : Type 0 where
  pub done : List ℕ
  pub taken : Taken text from at done
  pub split : whole ≡ done ++ rest

pub none_matched : (text : List ℕ) (from : ℕ) (whole : List ℕ) → Matched text from from whole whole
none_matched text from whole = record { done = []; taken = none_taken text from; split = refl }

-- one text goes on by bytes with which the other does not
differs : {text whole rest : List ℕ} {from at end : ℕ} (piece : List ℕ) (m : Matched text from at whole rest) → Taken text from end (m.done ++ piece) → bytes_eq (take (length piece) rest) piece ≡ false →
    (s u : List ℕ) → CharactersAt (drop from text) s u → false ≡ bytes_eq s whole
differs {whole = whole} {rest = rest} piece m t apart s u k =
    let (after_, k1, e1) = t.left s u k in
    not_same s whole m.done rest piece after_ m.split (e1 ∙ append_assoc m.done piece after_) apart

-- both go on by the same bytes
agrees : {text whole rest left : List ℕ} {from at end : ℕ} (piece : List ℕ) (m : Matched text from at whole rest) → Taken text from end (m.done ++ piece) → bytes_eq (take (length piece) rest) piece ≡ true → left ≡ drop (length piece) rest →
    Matched text from end whole left
agrees {rest = rest} {left = left} piece m t same is = record {
  done = m.done ++ piece;
  taken = t;
  split = m.split ∙ ap (λ z. m.done ++ z) (front rest piece left same is) ∙ sym (append_assoc m.done piece left);
}

pub run_differs : {text bytes whole rest : List ℕ} {from at end : ℕ} → Matched text from at whole rest → ReadsTo (many unescaped) text at end → bytes ≡ text → bytes_eq (take (length (slice_range bytes at end)) rest) (slice_range bytes at end) ≡ false →
    (s u : List ℕ) → CharactersAt (drop from text) s u → false ≡ bytes_eq s whole
run_differs {text} {rest = rest} {at = at} {end = end} m x e apart =
    differs (slice_range text at end) m (run_taken m.taken x) (subst (λ z. bytes_eq (take (length (slice_range z at end)) rest) (slice_range z at end) ≡ false) e apart)

pub run_agrees : {text bytes whole rest left : List ℕ} {from at end : ℕ} → Matched text from at whole rest → ReadsTo (many unescaped) text at end → bytes ≡ text → bytes_eq (take (length (slice_range bytes at end)) rest) (slice_range bytes at end) ≡ true →
    left ≡ drop (length (slice_range bytes at end)) rest → Matched text from end whole left
run_agrees {text} {rest = rest} {left = left} {at = at} {end = end} m x e same is =
    agrees (slice_range text at end) m (run_taken m.taken x) (subst (λ z. bytes_eq (take (length (slice_range z at end)) rest) (slice_range z at end) ≡ true) e same) (subst (λ z. left ≡ drop (length (slice_range z at end)) rest) e is)

pub escape_differs : {text escape whole rest : List ℕ} {from at : ℕ} (piece : List ℕ) (character len : ℕ) → Matched text from at whole rest → escape ≡ drop at text → StandsFor escape character len → piece ≡ encode_utf8 character →
    bytes_eq (take (length piece) rest) piece ≡ false → (s u : List ℕ) → CharactersAt (drop from text) s u → false ≡ bytes_eq s whole
escape_differs piece character len m e stands is = differs piece m (taken_as (ap (λ z. m.done ++ z) is) (escape_taken character len m.taken e stands))

pub escape_agrees : {text escape whole rest left : List ℕ} {from at : ℕ} (piece : List ℕ) (character len : ℕ) → Matched text from at whole rest → escape ≡ drop at text → StandsFor escape character len → piece ≡ encode_utf8 character →
    bytes_eq (take (length piece) rest) piece ≡ true → left ≡ drop (length piece) rest → Matched text from (at + len) whole left
escape_agrees piece character len m e stands is = agrees piece m (taken_as (ap (λ z. m.done ++ z) is) (escape_taken character len m.taken e stands))

-- the string ends after a run
pub ends_alike : {text whole rest : List ℕ} {from at end : ℕ} → Matched text from end whole rest → ReadsTo (many unescaped) text at end → scan.Sees text (within 92 92) end false → (s u : List ℕ) → CharactersAt (drop from text) s u →
    (length rest == 0) ≡ bytes_eq s whole
ends_alike {whole = whole} {rest = rest} m x sees s u k = same_end s whole m.done rest m.split (all_taken m.taken x sees s u k ∙ sym (append-nil m.done))
