-- Words with single blanks between, byte by byte.
use Rattle.std.proofs.Common.{◌≡◌, ℕ, ◌+◌, ◌<◌, ◌≤◌, ◌==◌, ◌&&◌, Bool, true, false, cond, List, [], ◌∷◌, length, get_or, drop, refl, sym, ◌∙◌, ap, add-one, Some, None}
use Rattle.std.specs.Prelude.{if◌then◌else◌}
use Rattle.std.specs.List.{list_all, slice_split, onto_first}
use Rattle.std.proofs.Math.Seq.{drop-cons}
use Rattle.std.proofs.lemmas.List.{drop_all}
use Rattle.android_out.specs.PlatformValue.{is_plain_char, is_family_word, are_family_words}
use Rattle.android_out.specs.inner.Written.{when_some, words_from}

-- whether the first of these pieces can end the word that is begun, and the others are words
abbrev go_on : Bool → List (List ℕ) → Bool
go_on begun [] = true
go_on begun ([] ∷ ws) = begun && list_all is_family_word ws
go_on begun ((c ∷ w) ∷ ws) = list_all is_plain_char (c ∷ w) && list_all is_family_word ws

starts : (ws : List (List ℕ)) → go_on false ws ≡ list_all is_family_word ws
starts [] = refl
starts ([] ∷ ws) = refl
starts ((c ∷ w) ∷ ws) = refl

begins : (c : ℕ) (b : Bool) (ws : List (List ℕ)) → is_plain_char c ≡ true → go_on b (onto_first c ws) ≡ go_on true ws
begins c b [] h = rw h refl
begins c b ([] ∷ ws) h = rw h refl
begins c b ((d ∷ w) ∷ ws) h = rw h refl

stays_out : (c : ℕ) (b : Bool) (ws : List (List ℕ)) → is_plain_char c ≡ false → go_on b (onto_first c ws) ≡ false
stays_out c b [] h = rw h refl
stays_out c b ([] ∷ ws) h = rw h refl
stays_out c b ((d ∷ w) ∷ ws) h = rw h refl

by_bytes : (b : Bool) (t : List ℕ) → words_from b t ≡ go_on b (slice_split (λ c. c == 32) t)
by_bytes true [] = refl
by_bytes false [] = refl
by_bytes b (c ∷ t) = at (λ x. by_bytes x t) (c == 32) refl (is_plain_char c) refl b
  where
    pieces : List (List ℕ)
    pieces = slice_split (λ x. x == 32) t

    at : ((x : Bool) → words_from x t ≡ go_on x pieces) → (s : Bool) → (c == 32) ≡ s → (k : Bool) → is_plain_char c ≡ k → (b : Bool)
        → when_some (λ x. words_from x t) (if s then (if b then Some false else None) else (if k then Some true else None)) ≡ go_on b (cond s ([] ∷ pieces) (onto_first c pieces))
    at again true e k h true = again false ∙ starts pieces
    at again true e k h false = refl
    at again false e true h b = again true ∙ sym (begins c b pieces h)
    at again false e false h b = sym (stays_out c b pieces h)

pub words_by_bytes : (t : List ℕ) → are_family_words t ≡ words_from false t
words_by_bytes t = sym (by_bytes false t ∙ starts (slice_split (λ c. c == 32) t))

pub next_byte : (b : Bool) (t : List ℕ) (i : ℕ) → i < length t → words_from b (drop i t) ≡ words_from b (get_or t i 0 ∷ drop (i + 1) t)
next_byte b t i h = let cut : drop i t ≡ get_or t i 0 ∷ drop (i + 1) t = rw (drop-cons t i 0 h, add-one) refl in ap (words_from b) cut

pub last_byte : (b : Bool) (t : List ℕ) (i : ℕ) → length t ≤ i → words_from b (drop i t) ≡ b
last_byte b t i h = ap (words_from b) (drop_all i t h)
