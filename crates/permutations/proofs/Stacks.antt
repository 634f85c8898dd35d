-- Parts on a stack, the next on top, come to their sources.
use Rattle.std.proofs.Common.{◌≡◌, ◌-◌, ◌*◌, ◌<◌, ◌≤◌, ℕ, min, List, [], ◌∷◌, ◌++◌, append-nil, append_assoc, length, length-append, map, reverse, refl, sym, ap, ap₂, ◌∙◌, subst, inl, inr, arith}
use Rattle.std.proofs.lemmas.List.{map-append, reverse-append, reverse-reverse}
use Rattle.std.proofs.lemmas.List.Concat.{flat_map-append}
use Rattle.std.specs.List.{flat_map}
use Rattle.ring.specs.Lists.{In}
use Rattle.resolver_doc.specs.Document.{SourceData}
use Rattle.resolver_doc.specs.Rings.{sets_in}
use Rattle.permutations.specs.Permutation.{TokenSource, replaced}
use Rattle.permutations.specs.Answer.{last_number}
use Rattle.permutations.specs.declared.part.Part.{Part}
use Rattle.permutations.specs.inner.Parts.{PartData, own, whole_set, RowData, row_at, part_view, parts_view, parts_in, counts_in, part_sources, IsPlaced, IsSolid, AreSolid, IsTable}
use Rattle.permutations.specs.inner.Expanding.{sources_added, parts_left}
use Rattle.permutations.proofs.Rows.{Tells, parts_tell, row_tells, some_of_part}
use Rattle.permutations.proofs.SetRoutes.{in_either}

pub map-reverse : {A B : Type 0} (f : A → B) (xs : List A) → map f (reverse xs) ≡ reverse (map f xs)
map-reverse f [] = refl
map-reverse f (x ∷ xs) =
    ap (map f) (reverse-append (x ∷ []) xs) ∙ (map-append f (reverse xs) (x ∷ []) ∙ (ap (λ ys. ys ++ f x ∷ []) (map-reverse f xs) ∙ sym (reverse-append (f x ∷ []) (map f xs))))

map-map : {A : Type 0} (xs : List A) (now : A → Part) → map (λ p. part_view (now p)) xs ≡ map part_view (map now xs)
map-map [] now = refl
map-map (x ∷ xs) now = ap (λ ys. part_view (now x) ∷ ys) (map-map xs now)

pub views_reversed : {A : Type 0} (xs : List A) (now : A → Part) (ps : List Part) → map now xs ≡ reverse ps → map (λ p. part_view (now p)) xs ≡ reverse (parts_view ps)
views_reversed xs now ps is = map-map xs now ∙ (ap (map part_view) is ∙ map-reverse part_view ps)

-- the top of a stack is the first that is to come
pub popped : (stack rest : List Part) (part : Part) → stack ≡ rest ++ part ∷ [] → reverse (parts_view stack) ≡ part_view part ∷ reverse (parts_view rest)
popped stack rest part is =
    ap (λ ps. reverse (parts_view ps)) is
    ∙ (ap reverse (map-append part_view rest (part ∷ [])) ∙ reverse-append (parts_view rest) (part_view part ∷ []))

pub popped_solid : (f : ℕ → List TokenSource) (rows : List RowData) (K : ℕ → Type 0) (stack rest : List Part) (part : Part) → stack ≡ rest ++ part ∷ []
    → AreSolid f rows K (reverse (parts_view stack)) → AreSolid f rows K (part_view part ∷ reverse (parts_view rest))
popped_solid f rows K stack rest part is = subst (AreSolid f rows K) (popped stack rest part is)

-- what comes in place of a part, before the rest
abbrev pub after : List RowData → PartData → List PartData → List PartData
after rows part rest = reverse (parts_left rows part) ++ rest

-- twice the sources that are left, less the parts that they come of
abbrev pub weight : (ℕ → List TokenSource) → List PartData → ℕ
weight f parts = 2 * length (flat_map (part_sources f) parts) - length parts

pub put_back : (rows : List RowData) (stack rest : List PartData) (p : PartData) → stack ≡ rest ++ parts_left rows p → reverse stack ≡ after rows p (reverse rest)
put_back rows stack rest p is = ap reverse is ∙ reverse-append rest (parts_left rows p)

pub begun : (stack parts : List PartData) → stack ≡ [] ++ reverse parts → reverse stack ≡ parts
begun stack parts is = ap reverse is ∙ reverse-reverse parts

module _ (f : ℕ → List TokenSource) (n : ℕ) (rows : List RowData) (table : IsTable f n rows) where
  abbrev K : ℕ → Type 0
  K = λ w. w < n

  tail_solid : (p : PartData) (rest : List PartData) → AreSolid f rows K (p ∷ rest) → AreSolid f rows K rest
  tail_solid p rest solid q i = solid q (inr i)

  pub kept : (out : List TokenSource) (p : PartData) (rest : List PartData) → AreSolid f rows K (p ∷ rest)
      → (out ++ sources_added p) ++ flat_map (part_sources f) (after rows p rest) ≡ out ++ flat_map (part_sources f) (p ∷ rest)
  kept out (own s) rest solid = append_assoc out (s ∷ []) (flat_map (part_sources f) rest)
  kept out (whole_set v) rest solid =
      let row = table.row v (solid (whole_set v) (inl refl)).0 in
      ap₂ (λ xs ys. xs ++ ys) (append-nil out)
      (ap (λ ps. flat_map (part_sources f) (ps ++ rest)) (reverse-reverse (row_at rows v).parts)
      ∙ (flat_map-append (part_sources f) (row_at rows v).parts rest ∙ ap (λ xs. xs ++ flat_map (part_sources f) rest) row.whole))

  pub solid_after : (p : PartData) (rest : List PartData) → AreSolid f rows K (p ∷ rest) → AreSolid f rows K (after rows p rest)
  solid_after (own s) rest solid = tail_solid (own s) rest solid
  solid_after (whole_set v) rest solid =
      let row = table.row v (solid (whole_set v) (inl refl)).0 in
      subst (λ ps. AreSolid f rows K (ps ++ rest)) (sym (reverse-reverse (row_at rows v).parts))
      (λ q i. elim (in_either (row_at rows v).parts rest q i) [ inl j ↦ row.solid q j | inr k ↦ solid q (inr k) ])

  no_more : (parts : List PartData) → AreSolid f rows K parts → length parts ≤ length (flat_map (part_sources f) parts)
  no_more [] solid = omega arith
  no_more (p ∷ ps) solid =
      let some : 0 < length (part_sources f p) = some_of_part f rows K p (solid p (inl refl)) in
      let rest : length ps ≤ length (flat_map (part_sources f) ps) = no_more ps (tail_solid p ps solid) in
      omega (arith, length-append (part_sources f p) (flat_map (part_sources f) ps))

  pub lighter : (p : PartData) (rest : List PartData) → AreSolid f rows K (p ∷ rest) → weight f (after rows p rest) < weight f (p ∷ rest)
  lighter (own s) rest solid = omega (arith, no_more rest (tail_solid (own s) rest solid))
  lighter (whole_set v) rest solid =
      let row = table.row v (solid (whole_set v) (inl refl)).0 in
      let many : 1 < length (row_at rows v).parts = (solid (whole_set v) (inl refl)).1 in
      let some : 0 < length (f v) = (solid (whole_set v) (inl refl)).2 in
      let fewer : length rest ≤ length (flat_map (part_sources f) rest) = no_more rest (tail_solid (whole_set v) rest solid) in
      let sources : flat_map (part_sources f) ((row_at rows v).parts ++ rest) ≡ f v ++ flat_map (part_sources f) rest =
      flat_map-append (part_sources f) (row_at rows v).parts rest ∙ ap (λ xs. xs ++ flat_map (part_sources f) rest) row.whole in
      subst (λ ps. weight f (ps ++ rest) < weight f (whole_set v ∷ rest)) (sym (reverse-reverse (row_at rows v).parts))
      (omega (arith, ap length sources, length-append (f v) (flat_map (part_sources f) rest), length-append (row_at rows v).parts rest))

  pub placed : (p : PartData) (m : ℕ) → m ≡ n → IsSolid f rows K p → IsPlaced m p
  placed (own s) m same h = tt
  placed (whole_set v) m same h = subst (λ (x : ℕ). v < x) (sym same) h.0

  -- the parts of sources whose sets have rows
  pub all_tell : (sources : List SourceData) → ((w : ℕ) → In w (sets_in sources) → w < n) → Tells f rows K (flat_map (replaced f) sources) (parts_in rows sources)
  all_tell sources known = parts_tell f rows K sources (λ w i. (known w i, table.row w (known w i)))

  pub all_counted : (sources : List SourceData) → ((w : ℕ) → In w (sets_in sources) → w < n) → counts_in rows sources ≡ min (length (flat_map (replaced f) sources)) last_number
  all_counted sources known = (row_tells f rows K sources (λ w i. (known w i, table.row w (known w i)))).count
