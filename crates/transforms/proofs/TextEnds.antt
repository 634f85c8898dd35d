-- Texts end to end: each is found between two ends, and one more stands behind the last.
use Rattle.std.proofs.Common.{◌≡◌, ℕ, zero, suc, ◌+◌, ◌-◌, ◌<◌, ◌≤◌, List, [], ◌∷◌, ◌++◌, length, take, drop, get_or, Some, None, arith, refl, sym, ap, ap₂, ◌∙◌}
use Rattle.std.proofs.lemmas.List.{take-append-le, drop-append-le, drop_at, take_all, length-drop}
use Rattle.std.specs.List.{slice_get, slice_index, slice_range}
use Rattle.transforms.specs.inner.Ends.{texts_from, start_from, AreEnds}

pub next_start : (end : ℕ) (ends : List ℕ) (i : ℕ) → slice_index (end ∷ ends) i ≡ start_from end ends i
next_start end ends zero = refl
next_start end ends (suc i) = refl

pub start_behind : (ends : List ℕ) (i : ℕ) → (i ≡ 0 → ⊥) → start_from 0 ends i ≡ get_or ends (i - 1) 0
start_behind ends zero h = absurd (h refl)
start_behind ends (suc i) h = let e : suc i - 1 ≡ i = omega arith in rw e refl

-- the bytes go as far as the first start at least
pub start_within : (start : ℕ) (ends : List ℕ) (len : ℕ) → AreEnds start ends len → start ≤ len
start_within start [] len h = omega (arith, h)
start_within start (end ∷ ends) len h = omega (arith, h.0, start_within end ends len h.1)

-- the i-th text does not end before its start, and ends within the bytes
pub end_within : (start : ℕ) (ends : List ℕ) (len i : ℕ) → AreEnds start ends len → i < length ends
    → (start_from start ends i ≤ get_or ends i 0) × (get_or ends i 0 ≤ len)
end_within start [] len i h within = absurd (omega (arith, within))
end_within start (end ∷ ends) len zero h within = (h.0, start_within end ends len h.1)
end_within start (end ∷ ends) len (suc i) h within =
    let rest = end_within end ends len i h.1 (omega (arith, within)) in
    (omega (arith, next_start end ends i, rest.0), rest.1)

-- the i-th text is what stands between its ends
pub text_between : (start : ℕ) (ends bytes : List ℕ) (i : ℕ) → i < length ends
    → slice_get (texts_from start ends bytes) i ≡ Some (slice_range bytes (start_from start ends i) (get_or ends i 0))
text_between start [] bytes i within = absurd (omega (arith, within))
text_between start (end ∷ ends) bytes zero within = refl
text_between start (end ∷ ends) bytes (suc i) within =
    text_between end ends bytes i (omega (arith, within)) ∙ ap (λ from. Some (slice_range bytes from (get_or ends i 0))) (sym (next_start end ends i))

pub no_text : (start : ℕ) (ends bytes : List ℕ) (i : ℕ) → length ends ≤ i → slice_get (texts_from start ends bytes) i ≡ None
no_text start [] bytes i past = refl
no_text start (end ∷ ends) bytes zero past = absurd (omega (arith, past))
no_text start (end ∷ ends) bytes (suc i) past = no_text end ends bytes i (omega (arith, past))

pub length-texts_from : (start : ℕ) (ends bytes : List ℕ) → length (texts_from start ends bytes) ≡ length ends
length-texts_from start [] bytes = refl
length-texts_from start (end ∷ ends) bytes = ap suc (length-texts_from end ends bytes)

-- one end more, where bytes were added
pub ends_more : (start : ℕ) (ends : List ℕ) (len end : ℕ) → AreEnds start ends len → len ≤ end → AreEnds start (ends ++ end ∷ []) end
ends_more start [] len end h le = (omega (arith, h, le), refl)
ends_more start (first ∷ ends) len end h le = (h.0, ends_more first ends len end h.1 le)

-- bytes behind the end of a text leave it as it is
pub within : (bytes text : List ℕ) (start end : ℕ) → start ≤ end → end ≤ length bytes → slice_range (bytes ++ text) start end ≡ slice_range bytes start end
within bytes text start end le fits =
    ap (take (end - start)) (drop-append-le start bytes text (omega (arith, le, fits)))
    ∙ take-append-le (end - start) (drop start bytes) text (rw length-drop (omega (arith, le, fits)))

behind : (bytes text : List ℕ) (start end : ℕ) → start ≡ length bytes → end ≡ length bytes + length text → slice_range (bytes ++ text) start end ≡ text
behind bytes text start end s e =
    ap (take (end - start)) (drop_at bytes text start (sym s)) ∙ take_all (end - start) text (omega (arith, s, e))

-- the text that was added is one more
pub texts_more : (start : ℕ) (ends bytes text : List ℕ) (end : ℕ) → AreEnds start ends (length bytes) → end ≡ length bytes + length text
    → texts_from start (ends ++ end ∷ []) (bytes ++ text) ≡ texts_from start ends bytes ++ text ∷ []
texts_more start [] bytes text end h e = ap (λ t. t ∷ []) (behind bytes text start end h e)
texts_more start (first ∷ ends) bytes text end h e =
    ap₂ (λ t ts. t ∷ ts) (within bytes text start first h.0 (start_within first ends (length bytes) h.1)) (texts_more first ends bytes text end h.1 e)
