-- What stands when the first events of a script were taken into files.
use Rattle.std.proofs.Common.{◌≡◌, ◌∙◌, ◌<◌, ◌≤◌, ◌+◌, ℕ, zero, suc, List, [], ◌∷◌, ◌++◌, length, get_or, map as map_list, take, drop, Option, Some, ap, sym, subst, refl, arith}
use Rattle.std.proofs.lemmas.List.{length-map, take_all}
use Rattle.std.proofs.lemmas.Option.{none-some, same_Some}
use Rattle.std.specs.FinMap as map
use Rattle.std.specs.List.{slice_get}
use Rattle.tk_io.specs.FilesData.{FilesData}
use Rattle.edit_script.specs.Script.{EventData}
use Rattle.edit_script.specs.Effect.{made_with, outcome_of}
use Rattle.edit_script.specs.Files.{AreFilesAfter, EveryFits, Fits, FitsAfter, IsUnfit, made_after, most_patched, present_of}
use Rattle.edit_script.proofs.Standing.{empty_files, outcome_files, present_same}
use Rattle.edit_script.proofs.UnfitEvents.{first_unfit, made_bound, none_fits, one_more_fits, outcome_made}
use Rattle.file_plan.specs.Loading.{FitsFiles, IsTaken, outcome_in}

-- Lists.

pub split_here : {A : Type 0} (xs : List A) (i : ℕ) (x : A) → slice_get xs i ≡ Some x → xs ≡ take i xs ++ (x ∷ drop (suc i) xs)
split_here [] i x e = absurd (none-some x e)
split_here (y ∷ xs) zero x e = ap (λ z. z ∷ xs) (same_Some y x e)
split_here (y ∷ xs) (suc i) x e = ap (λ l. y ∷ l) (split_here xs i x e)

take_after : {A : Type 0} (xs : List A) (i : ℕ) (x : A) → slice_get xs i ≡ Some x → take (suc i) xs ≡ take i xs ++ (x ∷ [])
take_after [] i x e = absurd (none-some x e)
take_after (y ∷ xs) zero x e = ap (λ z. z ∷ []) (same_Some y x e)
take_after (y ∷ xs) (suc i) x e = ap (λ l. y ∷ l) (take_after xs i x e)

plus_one : (i : ℕ) → suc i ≡ i + 1
plus_one i = omega arith

pub take_more : {A : Type 0} (xs : List A) (i : ℕ) (x : A) → slice_get xs i ≡ Some x → take (i + 1) xs ≡ take i xs ++ (x ∷ [])
take_more xs i x e = ap (λ n. take n xs) (sym (plus_one i)) ∙ take_after xs i x e

take_length : {A : Type 0} (xs : List A) (i : ℕ) (x : A) → slice_get xs i ≡ Some x → length (take i xs) ≡ i
take_length [] i x e = absurd (none-some x e)
take_length (y ∷ xs) zero x e = refl
take_length (y ∷ xs) (suc i) x e = ap suc (take_length xs i x e)

-- The first i events were taken into the files, and their patches made this sum.

pub record Taken (es : List EventData) (i : ℕ) (left : FilesData) (sum : ℕ) : Type 0 where
  pub files : AreFilesAfter (take i es) left
  pub made : sum ≡ made_after (take i es)
  pub fits : EveryFits (take i es)

pub none_taken : (es : List EventData) → Taken es 0 map.empty 0
none_taken es = record { files = empty_files; made = refl; fits = none_fits }

fits_same : (e : EventData) (p q : Option (List ℕ)) (m n : ℕ) → p ≡ q → m ≡ n → Fits e p m → Fits e q n
fits_same e p q m n same sums fits = subst (λ (k : ℕ). Fits e q k) sums (subst (λ (o : Option (List ℕ)). Fits e o m) same fits)

-- an event fits the files exactly where it fits what stands after the events before it
fits_here : (es : List EventData) (i : ℕ) (e : EventData) (files : FilesData) (sum : ℕ) → Taken es i files sum → FitsFiles e files sum → FitsAfter (take i es) e
fits_here es i e files sum taken fits =
    fits_same e (present_of e (map.get files)) _ sum (made_after (take i es)) (present_same (take i es) files e taken.files) taken.made fits

fits_there : (es : List EventData) (i : ℕ) (e : EventData) (files : FilesData) (sum : ℕ) → Taken es i files sum → FitsAfter (take i es) e → FitsFiles e files sum
fits_there es i e files sum taken fits =
    fits_same e _ (present_of e (map.get files)) (made_after (take i es)) sum (sym (present_same (take i es) files e taken.files)) (sym taken.made) fits

-- the sum that patches made stays within its bound
pub taken_bound : (es : List EventData) (i : ℕ) (files : FilesData) (sum : ℕ) → Taken es i files sum → sum ≤ most_patched
taken_bound es i files sum taken = omega (arith, taken.made, made_bound (take i es) taken.fits)

-- one event more
pub taken_more : (es : List EventData) (i : ℕ) (e : EventData) (old new : FilesData) (sum next : ℕ) → slice_get es i ≡ Some e → Taken es i old sum → IsTaken e sum old new next → Taken es (i + 1) new next
taken_more es i e old new sum next at taken more =
    let before = take i es in
    let longer = take_more es i e at in
    let here = fits_here es i e old sum taken more.fits in
    let looks = present_same before old e taken.files in
    record {
      files = subst (λ (l : List EventData). AreFilesAfter l new) (sym longer) (subst (λ (f : FilesData). AreFilesAfter (before ++ (e ∷ [])) f) (sym more.files) (outcome_files before old e taken.files here));
      made = more.made
          ∙ (ap (λ n. n + made_with e (outcome_in e old)) taken.made
          ∙ (ap (λ o. made_after before + made_with e (outcome_of e o)) looks ∙ (sym (outcome_made before e) ∙ ap made_after (sym longer))));
      fits = subst EveryFits (sym longer) (one_more_fits before e taken.fits here);
    }

-- an event that does not fit the files is the first of all that does not fit
pub unfit_here : (es : List EventData) (i : ℕ) (e : EventData) (files : FilesData) (sum number : ℕ) → slice_get es i ≡ Some e → Taken es i files sum → ¬ (FitsFiles e files sum) → number ≡ i + 1 → IsUnfit es number
unfit_here es i e files sum number at taken not is =
    let before = take i es in
    let first : IsUnfit (before ++ (e ∷ drop (suc i) es)) (suc (length before)) =
    first_unfit before e (drop (suc i) es) taken.fits (λ fits. not (fits_there es i e files sum taken fits)) in
    let here : suc (length before) ≡ number = omega (arith, take_length es i e at, is) in
    subst (λ (n : ℕ). IsUnfit es n) here (subst (λ (l : List EventData). IsUnfit l (suc (length before))) (sym (split_here es i e at)) first)

-- all events were taken
pub all_taken : (es : List EventData) (i : ℕ) (files : FilesData) (sum : ℕ) → length es ≤ i → Taken es i files sum → AreFilesAfter es files × EveryFits es
all_taken es i files sum h taken =
    let all = take_all i es h in
    (subst (λ (l : List EventData). AreFilesAfter l files) all taken.files, subst EveryFits all taken.fits)

-- what stands at a place of the listed items
pub listed_here : {A B : Type 0} (xs : List A) (v : A → B) (ys : List B) (i : ℕ) (d : A) → map_list v xs ≡ ys → i < length xs → slice_get ys i ≡ Some (v (get_or xs i d))
listed_here xs v ys i d e h = subst (λ l. slice_get l i ≡ Some (v (get_or xs i d))) e (at_shown xs v i d h)
  where
    at_shown : {A B : Type 0} (xs : List A) (v : A → B) (i : ℕ) (d : A) → i < length xs → slice_get (map_list v xs) i ≡ Some (v (get_or xs i d))
    at_shown [] v i d h = absurd (omega (arith, h))
    at_shown (y ∷ xs) v zero d h = refl
    at_shown (y ∷ xs) v (suc i) d h = at_shown xs v i d (omega (arith, h))

-- after the listed items there are no more
pub listed_all : {A B : Type 0} (xs : List A) (v : A → B) (ys : List B) (i : ℕ) → map_list v xs ≡ ys → length xs ≤ i → length ys ≤ i
listed_all xs v ys i e h = omega (arith, h, length-map xs v, ap length e)
