-- The row of a set tells what the set comes to, where the rows of the sets that it names do.
use Rattle.std.proofs.Common.{◌≡◌, ◌+◌, ◌<◌, ℕ, suc, min, List, [], ◌∷◌, ◌++◌, append-nil, length, length-append, refl, sym, ap, ap₂, ◌∙◌, subst, inl, inr, arith}
use Rattle.std.proofs.lemmas.List.Concat.{flat_map-append}
use Rattle.std.proofs.lemmas.List.Sums.{sum_by-cons}
use Rattle.std.specs.List.{flat_map, sum_by}
use Rattle.std.specs.Prelude.{◌⊎◌}
use Rattle.ring.specs.Lists.{In}
use Rattle.resolver_doc.specs.Document.{SourceData, file_source, set_source, inline_source}
use Rattle.resolver_doc.specs.Rings.{sets_in}
use Rattle.permutations.specs.Permutation.{TokenSource, file, inline, replaced}
use Rattle.permutations.specs.Answer.{last_number}
use Rattle.permutations.specs.inner.Parts.{PartData, own, whole_set, RowData, row_at, set_parts, parts_in, count_in, row_in, part_sources, IsSolid, AreSolid, RowTells}
use Rattle.permutations.proofs.SetRoutes.{in_either}

pub some_of_part : (f : ℕ → List TokenSource) (rows : List RowData) (K : ℕ → Type 0) (p : PartData) → IsSolid f rows K p → 0 < length (part_sources f p)
some_of_part f rows K (own source) h = omega arith
some_of_part f rows K (whole_set v) h = h.2

-- parts that come to all of some sources
pub record Tells (f : ℕ → List TokenSource) (rows : List RowData) (K : ℕ → Type 0) (sources : List TokenSource) (parts : List PartData) : Type 0 where
  pub whole : flat_map (part_sources f) parts ≡ sources
  pub solid : AreSolid f rows K parts

set_tells : (f : ℕ → List TokenSource) (rows : List RowData) (K : ℕ → Type 0) (v : ℕ) → K v → (ps : List PartData) → (row_at rows v).parts ≡ ps
    → flat_map (part_sources f) ps ≡ f v → AreSolid f rows K ps → Tells f rows K (f v) (set_parts v ps)
set_tells f rows K v i [] is whole solid = record { whole = whole; solid = solid }
set_tells f rows K v i (p ∷ []) is whole solid = record { whole = whole; solid = solid }
set_tells f rows K v i (p ∷ q ∷ ps) is whole solid =
    let some : 0 < length (part_sources f p) = some_of_part f rows K p (solid p (inl refl)) in
    let some_whole : 0 < length (f v) = subst (λ xs. 0 < length xs) whole (omega (arith, length-append (part_sources f p) (flat_map (part_sources f) (q ∷ ps)))) in
    let many : 1 < length (row_at rows v).parts = subst (λ xs. 1 < length xs) (sym is) (omega arith) in
    let solid_set : IsSolid f rows K (whole_set v) = (i, many, some_whole) in
    record {
      whole = append-nil (f v);
      solid = λ r j. elim j [ inl e ↦ subst (λ (x : PartData). IsSolid f rows K x) (sym e) solid_set | inr none ↦ absurd none ];
    }

both_tell : (f : ℕ → List TokenSource) (rows : List RowData) (K : ℕ → Type 0) (xs ys : List TokenSource) (ps qs : List PartData) → Tells f rows K xs ps → Tells f rows K ys qs → Tells f rows K (xs ++ ys) (ps ++ qs)
both_tell f rows K xs ys ps qs a b = record {
  whole = flat_map-append (part_sources f) ps qs ∙ ap₂ (λ us vs. us ++ vs) a.whole b.whole;
  solid = λ p i. elim (in_either ps qs p i) [ inl j ↦ a.solid p j | inr k ↦ b.solid p k ];
}

one_tells : (f : ℕ → List TokenSource) (rows : List RowData) (K : ℕ → Type 0) (s : TokenSource) → Tells f rows K (s ∷ []) (own s ∷ [])
one_tells f rows K s = record {
  whole = refl;
  solid = λ p i. elim i [ inl e ↦ subst (λ (x : PartData). IsSolid f rows K x) (sym e) tt | inr none ↦ absurd none ];
}

grown : (a c s l k m total whole : ℕ) → total ≡ c + s → whole ≡ k + l → ((c ≡ k) ⊎ (c ≡ min k m)) → min ((a + k) + s) m ≡ min ((a + k) + l) m → min (a + total) m ≡ min (a + whole) m
grown a c s l k m total whole t w (inl e) rest = omega arith
grown a c s l k m total whole t w (inr e) rest = omega arith

one_more : (n : ℕ) → 1 + n ≡ suc n
one_more n = omega arith

from_none : (n : ℕ) → n ≡ 0 + n
from_none n = omega arith

module _ (f : ℕ → List TokenSource) (rows : List RowData) (K : ℕ → Type 0) where
  -- the rows of the sets that are named are right
  abbrev pub KnowsSets : List SourceData → Type 0
  KnowsSets sources = (w : ℕ) → In w (sets_in sources) → K w × RowTells f rows K (f w) (row_at rows w)

  pub parts_tell : (sources : List SourceData) → KnowsSets sources → Tells f rows K (flat_map (replaced f) sources) (parts_in rows sources)
  parts_tell [] known = record { whole = refl; solid = λ p i. absurd i }
  parts_tell (file_source name start end ∷ ss) known =
      both_tell f rows K (file name start end ∷ []) (flat_map (replaced f) ss) (own (file name start end) ∷ []) (parts_in rows ss)
      (one_tells f rows K (file name start end)) (parts_tell ss known)
  parts_tell (set_source name v ∷ ss) known =
      let row = known v (inl refl) in
      both_tell f rows K (f v) (flat_map (replaced f) ss) (set_parts v (row_at rows v).parts) (parts_in rows ss)
      (set_tells f rows K v row.0 (row_at rows v).parts refl row.1.whole row.1.solid) (parts_tell ss (λ w i. known w (inr i)))
  parts_tell (inline_source n ∷ ss) known =
      both_tell f rows K (inline n ∷ []) (flat_map (replaced f) ss) (own (inline n) ∷ []) (parts_in rows ss)
      (one_tells f rows K (inline n)) (parts_tell ss known)

  counted : (ss : List SourceData) → KnowsSets ss → (a : ℕ) → min (a + sum_by (count_in rows) ss) last_number ≡ min (a + length (flat_map (replaced f) ss)) last_number
  counted [] known a = refl
  counted (file_source name start end ∷ ss) known a =
      grown a 1 (sum_by (count_in rows) ss) (length (flat_map (replaced f) ss)) 1 last_number (sum_by (count_in rows) (file_source name start end ∷ ss)) (1 + length (flat_map (replaced f) ss))
      (sum_by-cons (count_in rows) (file_source name start end) ss) refl (inl refl) (counted ss known (a + 1))
      ∙ ap (λ (n : ℕ). min (a + n) last_number) (one_more (length (flat_map (replaced f) ss)))
  counted (set_source name v ∷ ss) known a =
      grown a (row_at rows v).count (sum_by (count_in rows) ss) (length (flat_map (replaced f) ss)) (length (f v)) last_number (sum_by (count_in rows) (set_source name v ∷ ss)) (length (f v ++ flat_map (replaced f) ss))
      (sum_by-cons (count_in rows) (set_source name v) ss) (length-append (f v) (flat_map (replaced f) ss)) (inr (known v (inl refl)).1.count) (counted ss (λ w i. known w (inr i)) (a + length (f v)))
  counted (inline_source n ∷ ss) known a =
      grown a 1 (sum_by (count_in rows) ss) (length (flat_map (replaced f) ss)) 1 last_number (sum_by (count_in rows) (inline_source n ∷ ss)) (1 + length (flat_map (replaced f) ss))
      (sum_by-cons (count_in rows) (inline_source n) ss) refl (inl refl) (counted ss known (a + 1))
      ∙ ap (λ (n : ℕ). min (a + n) last_number) (one_more (length (flat_map (replaced f) ss)))

  -- the row made of the sources
  pub row_tells : (sources : List SourceData) → KnowsSets sources → RowTells f rows K (flat_map (replaced f) sources) (row_in rows sources)
  row_tells sources known =
      let tells = parts_tell sources known in
      record {
        whole = tells.whole;
        count = ap (λ (n : ℕ). min n last_number) (from_none (sum_by (count_in rows) sources)) ∙ (counted sources known 0 ∙ ap (λ (n : ℕ). min n last_number) (sym (from_none (length (flat_map (replaced f) sources)))));
        solid = tells.solid;
      }
