-- Breaks that are added to those that are told, and the text of a list.
use Rattle.std.proofs.Common.{◌≡◌, ◌+◌, ◌<◌, ◌≤◌, ◌==◌, ℕ, zero, suc, Bool, true, false, cond, List, [], ◌∷◌, ◌++◌, map, flat_map, length, take, Option, Some, None, refl, sym, ap, ap₂, subst, ◌∙◌, codes, arith}
use Rattle.std.proofs.lemmas.Bool.{ne_eqb}
use Rattle.std.proofs.lemmas.List.{append-nil, append_assoc}
use Rattle.std.specs.List.{list_any, slice_get}
use Rattle.std.specs.Str.{bytes_eq}
use Rattle.all_breaks.specs.Told.{ToldBreak, told_break, names_of, with_name, with_break, entry_text, next_text, listing_text}
use Rattle.all_breaks.specs.inner.Listing.{placed_text, text_at}
use Rattle.all_breaks.specs.inner.Putting.{with_names}

-- a break of a permutation puts its names with one more
pub break_put : (ts : List ToldBreak) (name text : List ℕ) → with_names ts text (with_name (names_of ts text) name) ≡ with_break ts name text
break_put [] name text = refl
break_put (t ∷ ts) name text = at (break_put ts name text) (bytes_eq text t.text)
  where
    at : with_names ts text (with_name (names_of ts text) name) ≡ with_break ts name text
        → (b : Bool) → cond b (told_break t.text (with_name (cond b t.names (names_of ts text)) name) ∷ ts) (t ∷ with_names ts text (with_name (cond b t.names (names_of ts text)) name))
        ≡ cond b (told_break t.text (with_name t.names name) ∷ ts) (t ∷ with_break ts name text)
    at rest true = refl
    at rest false = ap (λ us. t ∷ us) rest

-- The text of a list with one more.
next_more : (us : List ToldBreak) (t : ToldBreak) → flat_map next_text (us ++ t ∷ []) ≡ flat_map next_text us ++ next_text t
next_more [] t = append-nil (next_text t)
next_more (u ∷ us) t = ap (λ x. next_text u ++ x) (next_more us t) ∙ sym (append_assoc (next_text u) (flat_map next_text us) (next_text t))

later : (n : ℕ) → (suc n == 0) ≡ false
later n = ne_eqb (suc n) 0 (λ e. omega (arith, e))

listing_more : (ts : List ToldBreak) (t : ToldBreak) → listing_text (ts ++ t ∷ []) ≡ listing_text ts ++ placed_text (length ts) (Some t)
listing_more [] t = append-nil (entry_text t)
listing_more (u ∷ us) t =
    ap (λ x. entry_text u ++ x) (next_more us t) ∙ (sym (append_assoc (entry_text u) (flat_map next_text us) (next_text t))
    ∙ ap (λ b. listing_text (u ∷ us) ++ cond b (entry_text t) (next_text t)) (sym (later (length us))))

take_one : {A : Type 0} (xs : List A) (i : ℕ) → i < length xs → (x : A) × (slice_get xs i ≡ Some x) × (take (i + 1) xs ≡ take i xs ++ x ∷ []) × (length (take i xs) ≡ i)
take_one [] i h = absurd (omega (arith, h))
take_one (x ∷ xs) zero h = (x, refl, refl, refl)
take_one (x ∷ xs) (suc i) h =
    let (y, there, more, long) = take_one xs i (omega (arith, h)) in
    let next : suc i + 1 ≡ suc (i + 1) = omega arith in
    (y, there, ap (λ n. take n (x ∷ xs)) next ∙ ap (λ ys. x ∷ ys) more, ap suc long)

pub listed_next : (told : List ToldBreak) (i : ℕ) → i < length told → (out next : List ℕ) → out ≡ listing_text (take i told) → next ≡ out ++ text_at told i → next ≡ listing_text (take (i + 1) told)
listed_next told i h out next so_far more =
    let (t, there, taken, long) = take_one told i h in
    more ∙ (ap₂ (λ (x y : List ℕ). x ++ y) so_far (ap (placed_text i) there)
    ∙ (ap (λ n. listing_text (take i told) ++ placed_text n (Some t)) (sym long)
    ∙ (sym (listing_more (take i told) t) ∙ ap listing_text (sym taken))))
