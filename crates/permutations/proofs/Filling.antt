-- Rows that are put along an order of the sets make a table.
use Rattle.std.proofs.Common.{◌≡◌, ◌<◌, ◌≤◌, ◌≢◌, ℕ, true, fold, set, get_or, List, [], ◌∷◌, ◌++◌, append_assoc, append-nil, length, length-set, get_or-set_same, get_or-set_other, refl, sym, ◌∙◌, subst, inl, inr, arith}
use Rattle.std.proofs.lemmas.Bool.{cases_lt}
use Rattle.std.proofs.lemmas.List.{get_or_past}
use Rattle.std.proofs.lemmas.Option.{unwrap_or-slice_get}
use Rattle.ring.specs.Order.{Follows}
use Rattle.ring.specs.Lists.{In, AreApart}
use Rattle.resolver_doc.specs.Document.{SetData}
use Rattle.resolver_doc.specs.Rings.{set_needs, are_sets_right, HasNoRingOfSets}
use Rattle.permutations.specs.Permutation.{TokenSource, sources_written, set_sources}
use Rattle.permutations.specs.inner.Orders.{IsSetOrder}
use Rattle.permutations.specs.inner.Parts.{PartData, own, whole_set, RowData, no_row, row_at, row_in, with_row, IsSolid, RowTells, IsTable}
use Rattle.permutations.proofs.Rows.{row_tells}
use Rattle.permutations.proofs.SetNeeds.{named_in, needs_of_set, named_are_sets}
use Rattle.permutations.proofs.SetRoutes.{in_front, in_either}
use Rattle.permutations.proofs.SetsWithin.{set_comes_to}

row_is : (rows : List RowData) (v : ℕ) → row_at rows v ≡ get_or rows v no_row
row_is rows v = unwrap_or-slice_get rows v no_row

row_other : (rows : List RowData) (v u : ℕ) (row : RowData) → u ≢ v → row_at (set rows v row) u ≡ row_at rows u
row_other rows v u row ne = row_is (set rows v row) u ∙ (get_or-set_other rows v u row no_row ne ∙ sym (row_is rows u))

row_same : (rows : List RowData) (v : ℕ) (row : RowData) → v < length rows → row_at (set rows v row) v ≡ row
row_same rows v row h = row_is (set rows v row) v ∙ get_or-set_same rows v row no_row h

-- the rows of the sets that were seen are right
pub record Filled (f : ℕ → List TokenSource) (n : ℕ) (seen : List ℕ) (rows : List RowData) : Type 0 where
  pub long : length rows ≡ n
  pub row : (v : ℕ) → In v seen → v < n → RowTells f rows (λ w. In w seen) (f v) (row_at rows v)

-- rows of sets that were seen stay where other rows are put
stays_solid : (f : ℕ → List TokenSource) (rows : List RowData) (seen : List ℕ) (v : ℕ) (row : RowData) → (In v seen → ⊥) → (p : PartData) → IsSolid f rows (λ w. In w seen) p → IsSolid f (set rows v row) (λ w. In w (seen ++ v ∷ [])) p
stays_solid f rows seen v row out (own s) h = tt
stays_solid f rows seen v row out (whole_set w) h =
    let apart : w ≢ v = λ e. out (subst (λ (x : ℕ). In x seen) e h.0) in
    (in_front seen (v ∷ []) w h.0, subst (λ r. 1 < length r.parts) (sym (row_other rows v w row apart)) h.1, h.2)

stays_right : (f : ℕ → List TokenSource) (rows : List RowData) (seen : List ℕ) (v : ℕ) (row : RowData) (sources : List TokenSource) (r : RowData) → (In v seen → ⊥) → RowTells f rows (λ w. In w seen) sources r → RowTells f (set rows v row) (λ w. In w (seen ++ v ∷ [])) sources r
stays_right f rows seen v row sources r out h = record {
  whole = h.whole;
  count = h.count;
  solid = λ p i. stays_solid f rows seen v row out p (h.solid p i);
}

module _ (sets : List SetData) (right : are_sets_right sets sets ≡ true) (none : HasNoRingOfSets sets) where
  abbrev f : ℕ → List TokenSource
  f = set_sources sets

  abbrev n : ℕ
  n = length sets

  -- one more row
  put : (rows : List RowData) (seen : List ℕ) (v : ℕ) → Filled f n seen rows → (In v seen → ⊥) → ((w : ℕ) → In w (set_needs sets v) → In w seen) → Filled f n (seen ++ v ∷ []) (with_row sets rows v)
  put rows seen v filled out needs = record {
    long = length-set rows v (row_in rows (sources_written sets v)) ∙ filled.long;
    row = λ u i small. elim (in_either seen (v ∷ []) u i) [
      | inl j ↦ old u j small
      | inr k ↦ elim k [ inl e ↦ subst (λ (x : ℕ). RowTells f (with_row sets rows v) (λ w. In w (seen ++ v ∷ [])) (f x) (row_at (with_row sets rows v) x)) (sym e) (new (subst (λ (x : ℕ). x < n) e small)) | inr z ↦ absurd z ]
    ];
  }
    where
      old : (u : ℕ) → In u seen → u < n → RowTells f (with_row sets rows v) (λ w. In w (seen ++ v ∷ [])) (f u) (row_at (with_row sets rows v) u)
      old u j small =
          let apart : u ≢ v = λ e. out (subst (λ (x : ℕ). In x seen) e j) in
          subst (λ r. RowTells f (with_row sets rows v) (λ w. In w (seen ++ v ∷ [])) (f u) r) (sym (row_other rows v u (row_in rows (sources_written sets v)) apart))
          (stays_right f rows seen v (row_in rows (sources_written sets v)) (f u) (row_at rows u) out (filled.row u j small))

      known : v < n → (w : ℕ) → In w (named_in sets v) → In w seen × RowTells f rows (λ w. In w seen) (f w) (row_at rows w)
      known small w i =
          let j : In w seen = needs w (subst (λ ws. In w ws) (sym (needs_of_set sets v small)) i) in
          (j, filled.row w j (named_are_sets sets right v w i))

      new : v < n → RowTells f (with_row sets rows v) (λ w. In w (seen ++ v ∷ [])) (f v) (row_at (with_row sets rows v) v)
      new small =
          let tells = row_tells f rows (λ u. In u seen) (sources_written sets v) (known small) in
          let whole = subst (λ xs. RowTells f rows (λ w. In w seen) xs (row_in rows (sources_written sets v))) (sym (set_comes_to sets right none v small)) tells in
          subst (λ r. RowTells f (with_row sets rows v) (λ w. In w (seen ++ v ∷ [])) (f v) r)
          (sym (row_same rows v (row_in rows (sources_written sets v)) (subst (λ (x : ℕ). v < x) (sym filled.long) small)))
          (stays_right f rows seen v (row_in rows (sources_written sets v)) (f v) (row_in rows (sources_written sets v)) out whole)

  -- rows along an order
  along : (order seen : List ℕ) (rows : List RowData) → Filled f n seen rows → Follows (set_needs sets) seen order → AreApart order → ((v : ℕ) → In v order → In v seen → ⊥) → Filled f n (seen ++ order) (fold (with_row sets) rows order)
  along [] seen rows filled follows apart out = subst (λ xs. Filled f n xs rows) (sym (append-nil seen)) filled
  along (v ∷ vs) seen rows filled follows apart out =
      subst (λ xs. Filled f n xs (fold (with_row sets) (with_row sets rows v) vs)) (append_assoc seen (v ∷ []) vs)
      (along vs (seen ++ v ∷ []) (with_row sets rows v) (put rows seen v filled (out v (inl refl)) follows.0) follows.1 apart.1
      (λ u i j. elim (in_either seen (v ∷ []) u j) [
        | inl k ↦ out u (inr i) k
        | inr k ↦ elim k [ inl e ↦ apart.0 (subst (λ (x : ℕ). In x vs) e i) | inr z ↦ absurd z ]
      ]))

  pub table_made : (rows : List RowData) (order : List ℕ) → length rows ≡ n → IsSetOrder sets order → IsTable f n (fold (with_row sets) rows order)
  table_made rows order long o =
      let filled = along order [] rows (record { long = long; row = λ v i small. absurd i }) o.follows o.apart (λ v i j. j) in
      record {
        long = filled.long;
        row = λ v small. (let r = filled.row v (o.all v small) small in record { whole = r.whole; count = r.count; solid = λ p i. within (fold (with_row sets) rows order) filled.long p (r.solid p i) });
      }
    where
      has_row : (made : List RowData) → length made ≡ n → (w : ℕ) → 1 < length (row_at made w).parts → w < n
      has_row made is w many = elim (cases_lt w n) [
        | inl small ↦ small
        | inr large ↦ absurd (let none_there : 1 < length no_row.parts = subst (λ r. 1 < length r.parts) (row_is made w ∙ get_or_past made w no_row (subst (λ (x : ℕ). x ≤ w) (sym is) large)) many in omega arith)
      ]

      within : (made : List RowData) → length made ≡ n → (p : PartData) → IsSolid f made (λ w. In w order) p → IsSolid f made (λ w. w < n) p
      within made is (own s) h = tt
      within made is (whole_set w) h = (has_row made is w h.1, h.1, h.2)
