-- What sets need: the sets that their sources name, and of the document each set.
use Rattle.std.proofs.Common.{◌≡◌, ◌+◌, ◌<◌, ◌≤◌, ◌&&◌, ℕ, zero, suc, Bool, true, false, List, [], ◌∷◌, ◌++◌, get_or, length, map, refl, sym, subst, inl, inr, arith}
use Rattle.std.proofs.lemmas.Bool.{cases_eq}
use Rattle.std.specs.List.{range_with_len, slice_get}
use Rattle.std.specs.Prelude.{option_map, unwrap_or}
use Rattle.ring.specs.Lists.{In}
use Rattle.resolver_doc.specs.Document.{SourceData, file_source, set_source, inline_source, SetData}
use Rattle.resolver_doc.specs.Rings.{sets_in, set_needs, is_set_named, are_right, are_sets_right}
use Rattle.permutations.specs.Permutation.{sources_written}

-- the sets that the sources of a set name
abbrev pub named_in : List SetData → ℕ → List ℕ
named_in sets v = sets_in (sources_written sets v)

in_rows : (ss : List SetData) (tail : List ℕ) (v : ℕ) → v < length ss
    → get_or (map (λ s. sets_in s.sources) ss ++ tail ∷ []) v [] ≡ sets_in (unwrap_or (option_map (λ s. s.sources) (slice_get ss v)) [])
in_rows [] tail v h = absurd (omega arith)
in_rows (s ∷ ss) tail zero h = refl
in_rows (s ∷ ss) tail (suc v) h = in_rows ss tail v (omega arith)

behind_rows : (ss : List SetData) (tail : List ℕ) → get_or (map (λ s. sets_in s.sources) ss ++ tail ∷ []) (length ss) [] ≡ tail
behind_rows [] tail = refl
behind_rows (s ∷ ss) tail = behind_rows ss tail

-- what a set needs is what its sources name
pub needs_of_set : (sets : List SetData) (v : ℕ) → v < length sets → set_needs sets v ≡ named_in sets v
needs_of_set sets v h = in_rows sets (range_with_len 0 (length sets)) v h

in_range : (a n w : ℕ) → a ≤ w → w < a + n → In w (range_with_len a n)
in_range a zero w low high = absurd (omega arith)
in_range a (suc n) w low high = elim (cases_eq w a) [ inl e ↦ inl e | inr apart ↦ inr (in_range (a + 1) n w (omega arith) (omega arith)) ]

-- the document needs each set
pub needs_of_document : (sets : List SetData) (v : ℕ) → v < length sets → In v (set_needs sets (length sets))
needs_of_document sets v h = subst (λ ws. In v ws) (sym (behind_rows sets (range_with_len 0 (length sets)))) (in_range 0 (length sets) v (omega arith) (omega arith))

pub named_below : (name : List ℕ) (ss : List SetData) (v : ℕ) → is_set_named name (slice_get ss v) ≡ true → v < length ss
named_below name [] v h = cc
named_below name (s ∷ ss) zero h = omega arith
named_below name (s ∷ ss) (suc v) h = let below = named_below name ss v h in omega arith

pub first_true : (a b : Bool) → (a && b) ≡ true → a ≡ true
first_true true b h = refl
first_true false b h = cc

pub second_true : (a b : Bool) → (a && b) ≡ true → b ≡ true
second_true true b h = h
second_true false b h = cc

-- what right sources name are sets
pub named_sets : (sets : List SetData) (sources : List SourceData) → are_right sets sources ≡ true → (w : ℕ) → In w (sets_in sources) → w < length sets
named_sets sets [] r w i = absurd i
named_sets sets (file_source name start end ∷ ss) r w i = named_sets sets ss r w i
named_sets sets (set_source name v ∷ ss) r w i =
    elim i [
      | inl e ↦ subst (λ (x : ℕ). x < length sets) (sym e) (named_below name sets v (first_true (is_set_named name (slice_get sets v)) (are_right sets ss) r))
      | inr j ↦ named_sets sets ss (second_true (is_set_named name (slice_get sets v)) (are_right sets ss) r) w j
    ]
named_sets sets (inline_source n ∷ ss) r w i = named_sets sets ss r w i

sources_right : (sets ss : List SetData) (v : ℕ) → are_sets_right sets ss ≡ true → are_right sets (unwrap_or (option_map (λ s. s.sources) (slice_get ss v)) []) ≡ true
sources_right sets [] v r = refl
sources_right sets (s ∷ ss) zero r = first_true (are_right sets s.sources) (are_sets_right sets ss) r
sources_right sets (s ∷ ss) (suc v) r = sources_right sets ss v (second_true (are_right sets s.sources) (are_sets_right sets ss) r)

-- what the sources of a set name are sets
pub named_are_sets : (sets : List SetData) → are_sets_right sets sets ≡ true → (v w : ℕ) → In w (named_in sets v) → w < length sets
named_are_sets sets right v w i = named_sets sets (sources_written sets v) (sources_right sets sets v right) w i
