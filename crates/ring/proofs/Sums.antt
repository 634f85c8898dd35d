-- Totals from those of what is needed.
use Rattle.std.proofs.Common.{◌≡◌, ℕ, zero, suc, ◌+◌, ◌<◌, min, List, [], ◌∷◌, ◌++◌, inl, inr, refl, sym, ◌∙◌, subst, append_assoc, length, get_or, set, take, sum, arith, get_or-set_same, get_or-set_other}
use Rattle.std.proofs.lemmas.Bool.{cases_eq}
use Rattle.std.proofs.lemmas.List.{take_more}
use Rattle.std.specs.List.{sum_by}
use Rattle.std.proofs.lemmas.List.Sums.{sum_by-cons}
use Rattle.ring.specs.Lists.{In}
use Rattle.ring.specs.Order.{Follows}
use Rattle.ring.specs.Values.{comes, AllCome, none, more, total_step, IsTotal}
use Rattle.ring.proofs.Ends.{in_cases}

-- What a node of an order needs stands before it.
pub follows_at : (needs : ℕ → List ℕ) (seen order : List ℕ) (k : ℕ) → Follows needs seen order → k < length order → (w : ℕ) → In w (needs (get_or order k 0)) → In w (seen ++ take k order)
follows_at needs seen [] k f h w i = absurd (omega arith)
follows_at needs seen (v ∷ vs) zero f h w i = in_front seen [] w (f.0 w i)
  where
    in_front : (xs ys : List ℕ) (x : ℕ) → In x xs → In x (xs ++ ys)
    in_front [] ys x j = absurd j
    in_front (y ∷ xs) ys x (inl e) = inl e
    in_front (y ∷ xs) ys x (inr j) = inr (in_front xs ys x j)
follows_at needs seen (v ∷ vs) (suc k) f h w i =
    subst (λ (xs : List ℕ). In w xs) (append_assoc seen (v ∷ []) (take k vs)) (follows_at needs (seen ++ v ∷ []) vs k f.1 (omega arith) w i)

module _ (needs : ℕ → List ℕ) (own table : List ℕ) where
  -- the totals behind what the table shows
  pub record Behind (ws : List ℕ) : Type 0 where
    pub totals : List ℕ
    pub come : AllCome needs (total_step own) ws totals
    pub same : (a : ℕ) → min (a + sum_by (λ w. get_or table w 0) ws) 1000000 ≡ min (a + sum totals) 1000000

  pub behind : (ws : List ℕ) → ((w : ℕ) → In w ws → IsTotal needs own w (get_or table w 0)) → Behind ws
  behind [] known = record { totals = []; come = none; same = λ a. refl }
  behind (w ∷ ws) known =
      let first = known w (inl refl) in
      let b = behind ws (λ v i. known v (inr i)) in
      let shown : get_or table w 0 ≡ min first.0 1000000 = first.2 in
      record {
        totals = first.0 ∷ b.totals;
        come = more first.1 b.come;
        same = λ a. (let ih : min ((a + first.0) + sum_by (λ v. get_or table v 0) ws) 1000000 ≡ min ((a + first.0) + sum b.totals) 1000000 = b.same (a + first.0) in omega (arith, sum_by-cons (λ v. get_or table v 0) w ws, sum_by-cons (λ (x : ℕ). x) first.0 b.totals));
      }

  pub total_more : (v total : ℕ) → ((w : ℕ) → In w (needs v) → IsTotal needs own w (get_or table w 0)) → total ≡ min (get_or own v 0 + sum_by (λ w. get_or table w 0) (needs v)) 1000000 → IsTotal needs own v total
  total_more v total known is =
      let b = behind (needs v) known in
      (total_step own v b.totals, comes b.come, is ∙ b.same (get_or own v 0))

pub known_more : (needs : ℕ → List ℕ) (own table order : List ℕ) (k v total : ℕ) → Follows needs [] order → k < length order → v ≡ get_or order k 0 → v < length table →
    ((u : ℕ) → In u (take k order) → IsTotal needs own u (get_or table u 0)) →
    total ≡ min (get_or own v 0 + sum_by (λ w. get_or table w 0) (needs v)) 1000000 →
    (u : ℕ) → In u (take (k + 1) order) → IsTotal needs own u (get_or (set table v total) u 0)
known_more needs own table order k v total f h e within known is u i =
    elim (cases_eq u v) [
      | inl p ↦ subst (λ (x : ℕ). IsTotal needs own x (get_or (set table v total) x 0)) (sym p) (subst (IsTotal needs own v) (sym (get_or-set_same table v total 0 within))
          (total_more needs own table v total (λ w j. known w (follows_at needs [] order k f h w (subst (λ (x : ℕ). In w (needs x)) e j))) is))
      | inr q ↦ subst (IsTotal needs own u) (sym (get_or-set_other table v u total 0 q)) (known u (before q))
    ]
  where
    before : (u ≡ v → ⊥) → In u (take k order)
    before q = elim (in_cases (take k order) (get_or order k 0 ∷ []) u (subst (λ (xs : List ℕ). In u xs) (take_more order k 0 h) i)) [
      | inl j ↦ j
      | inr j ↦ elim j [ inl p ↦ absurd (q (p ∙ sym e)) | inr z ↦ absurd z ]
    ]
