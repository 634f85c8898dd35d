-- Texts of other bytes that are moved behind texts.
use Rattle.std.proofs.Common.{◌≡◌, ℕ, Bool, true, false, ltb, ltb-true, ltb-false, zero, suc, ◌+◌, ◌-◌, ◌<◌, ◌≤◌, List, [], ◌∷◌, ◌++◌, length, take, drop, map, min, arith, refl, sym, subst, ap, ap₂, ◌∙◌}
use Rattle.std.proofs.lemmas.List.{take_all, take-take, drop-drop, drop-take, length-drop, length-take-le}
use lib.Seq.{drop-append-add}
use Rattle.std.specs.List.{slice_index, slice_index_or, slice_range}
use Rattle.transforms.specs.inner.Ends.{texts_from, start_from, AreEnds}
use Rattle.transforms.proofs.TextEnds.{next_start, start_within, within}

-- ends behind others
pub ends_append : (start : ℕ) (ends others : List ℕ) (len all : ℕ) → AreEnds start ends len → AreEnds len others all → AreEnds start (ends ++ others) all
ends_append start [] others len all h g = subst (λ s. AreEnds s others all) (sym h) g
ends_append start (end ∷ ends) others len all h g = (h.0, ends_append end ends others len all h.1 g)

-- texts behind others
pub texts_append : (start : ℕ) (ends others bytes more : List ℕ) → AreEnds start ends (length bytes)
    → texts_from start (ends ++ others) (bytes ++ more) ≡ texts_from start ends bytes ++ texts_from (length bytes) others (bytes ++ more)
texts_append start [] others bytes more h = ap (λ s. texts_from s others (bytes ++ more)) h
texts_append start (end ∷ ends) others bytes more h =
    ap₂ (λ t ts. t ∷ ts) (within bytes more start end h.0 (start_within end ends (length bytes) h.1)) (texts_append end ends others bytes more h.1)

-- ends that are moved are ends
pub ends_moved : (from to start : ℕ) (ends : List ℕ) (len : ℕ) → from ≤ start → AreEnds start ends len
    → AreEnds (start - from + to) (map (λ end. end - from + to) ends) (len - from + to)
ends_moved from to start [] len le h = ap (λ n. n - from + to) h
ends_moved from to start (end ∷ ends) len le h = (omega (arith, le, h.0), ends_moved from to end ends len (omega (arith, le, h.0)) h.1)

-- from the s-th text on
pub ends_dropped : (start s : ℕ) (ends : List ℕ) (len : ℕ) → s ≤ length ends → AreEnds start ends len → AreEnds (start_from start ends s) (drop s ends) len
ends_dropped start zero ends len le h = h
ends_dropped start (suc s) [] len le h = absurd (omega (arith, le))
ends_dropped start (suc s) (end ∷ ends) len le h =
    subst (λ from. AreEnds from (drop s ends) len) (sym (next_start end ends s)) (ends_dropped end s ends len (omega (arith, le)) h.1)

pub texts_dropped : (start s : ℕ) (ends bytes : List ℕ) → s ≤ length ends → drop s (texts_from start ends bytes) ≡ texts_from (start_from start ends s) (drop s ends) bytes
texts_dropped start zero ends bytes le = refl
texts_dropped start (suc s) [] bytes le = absurd (omega (arith, le))
texts_dropped start (suc s) (end ∷ ends) bytes le =
    texts_dropped end s ends bytes (omega (arith, le)) ∙ ap (λ from. texts_from from (drop s ends) bytes) (sym (next_start end ends s))

-- the first k texts
pub ends_taken : (start k : ℕ) (ends : List ℕ) (len : ℕ) → k ≤ length ends → AreEnds start ends len → AreEnds start (take k ends) (start_from start ends k)
ends_taken start zero ends len le h = refl
ends_taken start (suc k) [] len le h = absurd (omega (arith, le))
ends_taken start (suc k) (end ∷ ends) len le h =
    (h.0, subst (λ last. AreEnds end (take k ends) last) (sym (next_start end ends k)) (ends_taken end k ends len (omega (arith, le)) h.1))

pub texts_taken : (start k : ℕ) (ends bytes : List ℕ) → take k (texts_from start ends bytes) ≡ texts_from start (take k ends) bytes
texts_taken start zero ends bytes = refl
texts_taken start (suc k) [] bytes = refl
texts_taken start (suc k) (end ∷ ends) bytes = ap (λ ts. slice_range bytes start end ∷ ts) (texts_taken end k ends bytes)

-- the places where texts start, counted from the s-th on
pub start_dropped : (start s k : ℕ) (ends : List ℕ) → s + k ≤ length ends → start_from (start_from start ends s) (drop s ends) k ≡ start_from start ends (s + k)
start_dropped start zero k ends le = let e : zero + k ≡ k = omega arith in ap (start_from start ends) (sym e)
start_dropped start (suc s) k [] le = absurd (omega (arith, le))
start_dropped start (suc s) k (end ∷ ends) le =
    let e : suc s + k ≡ suc (s + k) = omega arith in
    ap (λ from. start_from from (drop s ends) k) (next_start end ends s)
    ∙ start_dropped end s k ends (omega (arith, le))
    ∙ sym (next_start end ends (s + k))
    ∙ ap (start_from start (end ∷ ends)) (sym e)

-- a text of the bytes that are moved
text_moved : (bytes others : List ℕ) (from last start end : ℕ) → from ≤ start → start ≤ end → end ≤ last → last ≤ length others
    → slice_range (bytes ++ slice_range others from last) (start - from + length bytes) (end - from + length bytes) ≡ slice_range others start end
text_moved bytes others from last start end a b c d =
    let long : end - from + length bytes - (start - from + length bytes) ≡ end - start = omega (arith, a, b) in
    let place : start - from + length bytes ≡ length bytes + (start - from) = omega arith in
    let room : last - from ≡ start - from + (last - start) = omega (arith, a, b, c) in
    let behind : from + (start - from) ≡ start = omega (arith, a) in
    let cut : drop (start - from + length bytes) (bytes ++ slice_range others from last) ≡ take (last - start) (drop start others) =
    ap (λ n. drop n (bytes ++ slice_range others from last)) place
    ∙ drop-append-add bytes (slice_range others from last) (start - from)
    ∙ ap (λ n. drop (start - from) (take n (drop from others))) room
    ∙ drop-take (start - from) (last - start) (drop from others)
    ∙ ap (take (last - start)) (drop-drop (start - from) from others ∙ ap (λ n. drop n others) behind) in
    ap₂ take long cut ∙ take-take (end - start) (last - start) (drop start others) (omega (arith, a, b, c))

pub texts_moved : (bytes others : List ℕ) (from last start : ℕ) (ends : List ℕ) → from ≤ start → last ≤ length others → AreEnds start ends last
    → texts_from (start - from + length bytes) (map (λ end. end - from + length bytes) ends) (bytes ++ slice_range others from last) ≡ texts_from start ends others
texts_moved bytes others from last start [] le fits h = refl
texts_moved bytes others from last start (end ∷ ends) le fits h =
    ap₂ (λ t ts. t ∷ ts) (text_moved bytes others from last start end le h.0 (start_within end ends last h.1) fits)
    (texts_moved bytes others from last end ends (omega (arith, le, h.0)) fits h.1)

-- no text of a run ends before the run starts, or behind its end
pub ends_between : (start : ℕ) (ends : List ℕ) (len k d : ℕ) → AreEnds start ends len → k < length ends → (start ≤ slice_index_or ends k d) × (slice_index_or ends k d ≤ len)
ends_between start [] len k d h lt = absurd (omega (arith, lt))
ends_between start (end ∷ ends) len zero d h lt = (h.0, start_within end ends len h.1)
ends_between start (end ∷ ends) len (suc k) d h lt =
    let rest = ends_between end ends len k d h.1 (omega (arith, lt)) in
    (omega (arith, h.0, rest.0), rest.1)

-- the ends of a run of texts
pub ends_of_run : (ends : List ℕ) (len start end : ℕ) → start ≤ end → end ≤ length ends → AreEnds 0 ends len
    → AreEnds (start_from 0 ends start) (slice_range ends start end) (start_from 0 ends end)
ends_of_run ends len start end le fits h =
    let whole : start + (end - start) ≡ end = omega (arith, le) in
    let last = start_dropped 0 start (end - start) ends (omega (arith, le, fits)) ∙ ap (start_from 0 ends) whole in
    subst (λ n. AreEnds (start_from 0 ends start) (slice_range ends start end) n) last
    (ends_taken (start_from 0 ends start) (end - start) (drop start ends) len (rw length-drop (omega (arith, fits))) (ends_dropped 0 start ends len (omega (arith, le, fits)) h))

-- its texts
pub texts_of_run : (ends bytes : List ℕ) (start end : ℕ) → start ≤ end → end ≤ length ends
    → slice_range (texts_from 0 ends bytes) start end ≡ texts_from (start_from 0 ends start) (slice_range ends start end) bytes
texts_of_run ends bytes start end le fits =
    ap (take (end - start)) (texts_dropped 0 start ends bytes (omega (arith, le, fits)))
    ∙ texts_taken (start_from 0 ends start) (end - start) (drop start ends) bytes

-- it ends within the bytes
pub run_within : (ends : List ℕ) (len end : ℕ) → end ≤ length ends → AreEnds 0 ends len → start_from 0 ends end ≤ len
run_within ends len end fits h = start_within (start_from 0 ends end) (drop end ends) len (ends_dropped 0 end ends len fits h)

-- a run that is said to go past the end goes to the end
pub clamped : {X : Type 0} (xs : List X) (start end len : ℕ) → len ≡ length xs → slice_range xs start (min end len) ≡ slice_range xs start end
clamped {X} xs start end len e = by (ltb len end) refl
  where
    by : (b : Bool) → ltb len end ≡ b → slice_range xs start (min end len) ≡ slice_range xs start end
    by true h =
        let past = ltb-true len end h in
        let least : min end len ≡ len = omega (arith, past) in
        ap (slice_range xs start) least
        ∙ take_all (len - start) (drop start xs) (rw length-drop (omega (arith, e)))
        ∙ sym (take_all (end - start) (drop start xs) (rw length-drop (omega (arith, e, past))))
    by false h =
        let fits = ltb-false len end h in
        let least : min end len ≡ end = omega (arith, fits) in
        ap (slice_range xs start) least

-- nothing stands from a place on and before an earlier one
pub none_between : {X : Type 0} (xs : List X) (start end : ℕ) → end ≤ start → slice_range xs start end ≡ []
none_between xs start end le = let none : end - start ≡ 0 = omega (arith, le) in ap (λ n. take n (drop start xs)) none

pub length-run : (xs : List ℕ) (start end : ℕ) → start ≤ end → end ≤ length xs → length (slice_range xs start end) ≡ end - start
length-run xs start end le fits = length-take-le (end - start) (drop start xs) (rw length-drop (omega (arith, fits)))

-- the ends of a run of others behind ends
pub ends_with_run : (mine others : List ℕ) (len more start end from last : ℕ) → start ≤ end → end ≤ length others → AreEnds 0 mine len → AreEnds 0 others more
    → from ≡ start_from 0 others start → last ≡ start_from 0 others end
    → AreEnds 0 (mine ++ map (λ end. end - from + len) (slice_range others start end)) (len + (last - from))
ends_with_run mine others len more start end from last le fits h g f l =
    let run : AreEnds from (slice_range others start end) last = rw (f, l) (ends_of_run others more start end le fits g) in
    let first : from - from + len ≡ len = omega arith in
    let all : last - from + len ≡ len + (last - from) = omega arith in
    let moved = ends_moved from len from (slice_range others start end) last (omega arith) run in
    ends_append 0 mine (map (λ end. end - from + len) (slice_range others start end)) len (len + (last - from)) h
    (subst (λ n. AreEnds n (map (λ end. end - from + len) (slice_range others start end)) (len + (last - from))) first
    (subst (λ n. AreEnds (from - from + len) (map (λ end. end - from + len) (slice_range others start end)) n) all moved))

-- its texts behind texts
pub texts_with_run : (mine bytes others more : List ℕ) (start end from last : ℕ) → start ≤ end → end ≤ length others
    → AreEnds 0 mine (length bytes) → AreEnds 0 others (length more)
    → from ≡ start_from 0 others start → last ≡ start_from 0 others end
    → texts_from 0 (mine ++ map (λ end. end - from + length bytes) (slice_range others start end)) (bytes ++ slice_range more from last)
    ≡ texts_from 0 mine bytes ++ slice_range (texts_from 0 others more) start end
texts_with_run mine bytes others more start end from last le fits h g f l =
    let run : AreEnds from (slice_range others start end) last = rw (f, l) (ends_of_run others (length more) start end le fits g) in
    let within : last ≤ length more = omega (arith, l, run_within others (length more) end fits g) in
    let first : from - from + length bytes ≡ length bytes = omega arith in
    let ends = map (λ end. end - from + length bytes) (slice_range others start end) in
    texts_append 0 mine ends bytes (slice_range more from last) h
    ∙ ap (λ ts. texts_from 0 mine bytes ++ ts)
    (ap (λ n. texts_from n ends (bytes ++ slice_range more from last)) (sym first)
    ∙ texts_moved bytes more from last from (slice_range others start end) (omega arith) within run
    ∙ ap (λ n. texts_from n (slice_range others start end) more) f
    ∙ sym (texts_of_run others more start end le fits))
