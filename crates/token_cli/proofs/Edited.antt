-- What stands when the first events of a script were taken into the files of a workspace.
use Rattle.std.proofs.Common.{◌≡◌, ◌∙◌, ◌≤◌, ◌<◌, ◌+◌, ◌⊎◌, inl, inr, ℕ, zero, suc, List, [], ◌∷◌, ◌++◌, length, take, drop, Option, Some, ap, sym, subst, refl, arith}
use Rattle.std.proofs.lemmas.List.{take_all}
use Rattle.std.specs.List.{slice_get}
use Rattle.tk_io.specs.FilesData.{FilesData}
use Rattle.edit_script.specs.Script.{EventData, put, del, move, patch, commit}
use Rattle.edit_script.specs.Files.{EveryFits, Fits, FitsAt, IsUnfit, commit_count, made_after}
use Rattle.edit_script.proofs.UnfitEvents.{fits_front}
use Rattle.file_plan.specs.Loading.{FitsFiles}
use Rattle.file_plan.proofs.EventsTaken.{Taken, all_taken, none_taken, taken_more, unfit_here}
use Rattle.token_cli.specs.inner.Edits.{AreEdited}
use Rattle.token_cli.specs.inner.Step.{State, IsEdited, IsEventTold, first_state}
use Rattle.token_cli.specs.declared.telling.Telling.{Telling}

pub record Edited (es : List EventData) (i : ℕ) (s : State) : Type 0 where
  pub events : Taken es i s.files s.made
  pub count : s.taken ≡ i

pub edited_first : (es : List EventData) (s : State) → s ≡ first_state → Edited es 0 s
edited_first es s is =
    subst (λ (t : State). Edited es 0 t) (sym is) (record { events = none_taken es; count = refl })

pub edited_more : (es : List EventData) (i : ℕ) (e : EventData) (s t : State) → slice_get es i ≡ Some e → Edited es i s → IsEdited e s t → Edited es (i + 1) t
edited_more es i e s t at edited edit = record {
  events = taken_more es i e s.files t.files s.made t.made at edited.events edit.taken;
  count = edit.count ∙ ap (λ n. n + 1) edited.count;
}

-- .. after what was told of the event
edited_same : (es : List EventData) (i : ℕ) (s t : State) → Edited es i s → t.files ≡ s.files → t.made ≡ s.made → t.taken ≡ s.taken → Edited es i t
edited_same es i s t edited files made taken = record {
  events = subst (λ (n : ℕ). Taken es i t.files n) (sym made) (subst (λ (f : FilesData). Taken es i f s.made) (sym files) edited.events);
  count = taken ∙ edited.count;
}

edited_as : (es : List EventData) (i : ℕ) (m t : State) → Edited es i m → t ≡ m → Edited es i t
edited_as es i m t edited same = subst (λ (s : State). Edited es i s) (sym same) edited

pub edited_told : (told : Telling) (es : List EventData) (i : ℕ) (e : EventData) (s t : State) (old new : Option (List ℕ)) → slice_get es i ≡ Some e → Edited es i s → IsEventTold told e s t old new → Edited es (i + 1) t
edited_told told es i (put p text) s t old new at edited (m, edit, (same, written)) = edited_as es (i + 1) m t (edited_more es i (put p text) s m at edited edit) same
edited_told told es i (del p) s t old new at edited (m, edit, (same, written)) = edited_as es (i + 1) m t (edited_more es i (del p) s m at edited edit) same
edited_told told es i (move p q) s t old new at edited (m, edit, (same, written)) = edited_as es (i + 1) m t (edited_more es i (move p q) s m at edited edit) same
edited_told told es i (patch p from to bytes) s t old new at edited (m, edit, (same, written)) = edited_as es (i + 1) m t (edited_more es i (patch p from to bytes) s m at edited edit) same
edited_told told es i commit s t old new at edited (m, edit, follows) = edited_same es (i + 1) m t (edited_more es i commit s m at edited edit) follows.files follows.made follows.taken

-- an event that does not fit the files is the first that does not fit
pub first_unfit_here : (es : List EventData) (i : ℕ) (e : EventData) (s : State) (number : ℕ) → slice_get es i ≡ Some e → Edited es i s → ¬ (FitsFiles e s.files s.made) → number ≡ s.taken + 1 → IsUnfit es number
first_unfit_here es i e s number at edited not is = unfit_here es i e s.files s.made number at edited.events not (is ∙ ap (λ n. n + 1) edited.count)

-- an event that does not fit is no commit
pub unfit_kind : (e : EventData) (present : Option (List ℕ)) (made : ℕ) → ¬ (Fits e present made) → commit_count (e ∷ []) ≡ 0
unfit_kind (put p text) present made not = refl
unfit_kind (del p) present made not = refl
unfit_kind (move p q) present made not = refl
unfit_kind (patch p from to bytes) present made not = refl
unfit_kind commit present made not = absurd (not tt)

-- all events were taken
pub all_edited : (es : List EventData) (i : ℕ) (s : State) → length es ≤ i → Edited es i s → EveryFits es
all_edited es i s h edited = (all_taken es i s.files s.made h edited.events).1

pub edited_all : (es : List EventData) (i : ℕ) (s : State) → length es ≤ i → Edited es i s → s.held ≡ first_state.held → s.kept ≡ first_state.kept → s.commits ≡ 0 → AreEdited es s
edited_all es i s h edited held kept commits =
    let (files, fits) = all_taken es i s.files s.made h edited.events in
    record {
      fits = fits;
      files = files;
      made = edited.events.made ∙ ap made_after (take_all i es h);
      held = held;
      kept = kept;
      commits = commits;
    }

-- Commits before an event.

take_split : {A : Type 0} (i : ℕ) (xs : List A) → take i xs ++ drop i xs ≡ xs
take_split zero xs = refl
take_split (suc i) [] = refl
take_split (suc i) (x ∷ xs) = ap (λ l. x ∷ l) (take_split i xs)

take_again : {A : Type 0} (i : ℕ) (xs : List A) → take (length (take i xs)) xs ≡ take i xs
take_again zero xs = refl
take_again (suc i) [] = refl
take_again (suc i) (x ∷ xs) = ap (λ l. x ∷ l) (take_again i xs)

commits_grow : (es : List EventData) (i n : ℕ) → i ≤ n → commit_count (take i es) ≤ commit_count (take n es)
commits_grow es zero n h = omega arith
commits_grow es (suc i) zero h = absurd (omega (arith, h))
commits_grow [] (suc i) (suc n) h = omega arith
commits_grow (put p text ∷ es) (suc i) (suc n) h = commits_grow es i n (omega (arith, h))
commits_grow (del p ∷ es) (suc i) (suc n) h = commits_grow es i n (omega (arith, h))
commits_grow (move p q ∷ es) (suc i) (suc n) h = commits_grow es i n (omega (arith, h))
commits_grow (patch p from to bytes ∷ es) (suc i) (suc n) h = commits_grow es i n (omega (arith, h))
commits_grow (commit ∷ es) (suc i) (suc n) h = let ih = commits_grow es i n (omega (arith, h)) in omega (arith, ih)

next : {m n : ℕ} → (m < n) ⊎ (n ≤ m) → (suc m < suc n) ⊎ (suc n ≤ suc m)
next (inl h) = inl (omega (arith, h))
next (inr h) = inr (omega (arith, h))

below_or : (m n : ℕ) → (m < n) ⊎ (n ≤ m)
below_or m zero = inr (omega arith)
below_or zero (suc n) = inl (omega arith)
below_or (suc m) (suc n) = next (below_or m n)

-- the commits among events that fit come before the first event that does not
pub fit_commits : (es : List EventData) (i n : ℕ) → EveryFits (take i es) → IsUnfit es n → commit_count (take i es) ≤ commit_count (take n es)
fit_commits es i zero fits unfit = absurd unfit
fit_commits es i (suc m) fits unfit =
    let before = take i es in
    elim (below_or m (length before)) [
      | inl h ↦
          let here : FitsAt (before ++ drop i es) m = subst (λ (T : Type 0). T) (sym (fits_front before (drop i es) m h)) (fits m) in
          absurd (unfit.0 (subst (λ (l : List EventData). FitsAt l m) (take_split i es) here))
      | inr h ↦
          let grown = commits_grow es (length before) (suc m) (omega (arith, h)) in
          omega (arith, grown, ap commit_count (take_again i es))
    ]
