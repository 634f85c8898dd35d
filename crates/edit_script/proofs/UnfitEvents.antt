-- Which events fit, and which is the first that does not; the sum of what patches make.
use Rattle.std.proofs.Common.{◌≡◌, ◌<◌, ◌≤◌, ◌⊎◌, inl, inr, ℕ, zero, suc, ◌+◌, true, false, ltb, ltb-true, ltb-false, List, [], ◌∷◌, ◌++◌, length, Option, Some, None, refl, sym, ap, subst, ◌∙◌, arith, append_assoc, append-nil}
use Rattle.std.specs.List.{AllByRecursion, slice_get}
use Rattle.std.specs.Option.{IfSome}
use Rattle.std.specs.Str.{IsCharBoundary}
use Rattle.std.specs.Prelude.{slice_index}
use Rattle.tk_io.specs.FilesData.{FilesData}
use Rattle.edit_script.specs.Effect.{made_with, outcome_of}
use Rattle.edit_script.specs.Files.{AreFilesAfter, AreFilesAt, EveryFits, Fits, FitsAfter, FitsAt, FitsText, IsUnfit, as_one_commit, commit_count, made_after, made_at, made_by, made_next, most_patched, patched, present_of, text_after, text_at, text_by, up_to, without_commits}
use Rattle.edit_script.specs.Script.{EventData, HasSpelling, has_kind, put, del, move, patch, commit}
use Rattle.edit_script.specs.declared.version.Version.TheVariants.{First}
use Rattle.edit_script.proofs.Standing.{get_front, get_next, get_behind, length_push, text_front, text_push}

pub no_made : made_after [] ≡ 0
no_made = refl

made_front : (xs ys : List EventData) (n : ℕ) → n ≤ length xs → made_at (xs ++ ys) n ≡ made_at xs n
made_front xs ys zero h = refl
made_front xs ys (suc n) h =
    λ i. made_front xs ys n (omega (arith, h)) i + made_next (get_front xs ys n (omega (arith, h)) i) (λ path. text_front xs ys n path (omega (arith, h)) i)

pub one_more_made : (es : List EventData) (e : EventData) → made_after (es ++ e ∷ []) ≡ made_after es + made_by e (present_of e (text_after es))
one_more_made es e =
    ap (λ n. made_at (es ++ e ∷ []) n) (length_push es e)
    ∙ (λ i. made_front es (e ∷ []) (length es) (omega arith) i + made_next (get_next es e [] i) (λ path. text_front es (e ∷ []) (length es) path (omega arith) i))

-- what an event makes, by what comes of it
made_same : (e : EventData) (present : Option (List ℕ)) → made_by e present ≡ made_with e (outcome_of e present)
made_same (put path text) present = refl
made_same (del path) present = refl
made_same (move first second) present = refl
made_same (patch path start end bytes) None = refl
made_same (patch path start end bytes) (Some text) = refl
made_same commit present = refl

pub outcome_made : (es : List EventData) (e : EventData) → made_after (es ++ e ∷ []) ≡ made_after es + made_with e (outcome_of e (present_of e (text_after es)))
outcome_made es e = one_more_made es e ∙ ap (λ n. made_after es + n) (made_same e (present_of e (text_after es)))

one_bound : (e : EventData) (present : Option (List ℕ)) (made : ℕ) → Fits e present made → made ≤ most_patched → made + made_by e present ≤ most_patched
one_bound (put path text) present made h b = omega (arith, b)
one_bound (del path) present made h b = omega (arith, b)
one_bound (move first second) present made h b = omega (arith, b)
one_bound (patch path start end bytes) None made h b = omega (arith, b)
one_bound (patch path start end bytes) (Some text) made h b = h.3
one_bound commit present made h b = omega (arith, b)

bound_next : (es : List EventData) (n : ℕ) (o : Option EventData) → IfSome o (λ event. Fits event (present_of event (text_at es n)) (made_at es n)) → made_at es n ≤ most_patched
    → made_at es n + made_next o (text_at es n) ≤ most_patched
bound_next es n None h b = omega (arith, b)
bound_next es n (Some e) h b = one_bound e (present_of e (text_at es n)) (made_at es n) h b

bound_at : (es : List EventData) (n : ℕ) → EveryFits es → made_at es n ≤ most_patched
bound_at es zero h = omega arith
bound_at es (suc n) h = bound_next es n (slice_get es n) (h n) (bound_at es n h)

pub made_bound : (es : List EventData) → EveryFits es → made_after es ≤ most_patched
made_bound es h = bound_at es (length es) h

-- whether an event fits is the same with other events behind it
pub fits_front : (xs ys : List EventData) (n : ℕ) → n < length xs → FitsAt (xs ++ ys) n ≡ FitsAt xs n
fits_front xs ys n h =
    λ i. IfSome (get_front xs ys n h i) (λ event. Fits event (present_of event (λ path. text_front xs ys n path (omega (arith, h)) i)) (made_front xs ys n (omega (arith, h)) i))

fits_next : (xs : List EventData) (e : EventData) (ys : List EventData) → FitsAt (xs ++ e ∷ ys) (length xs) ≡ FitsAfter xs e
fits_next xs e ys =
    λ i. IfSome (get_next xs e ys i) (λ event. Fits event (present_of event (λ path. text_front xs (e ∷ ys) (length xs) path (omega arith) i)) (made_front xs (e ∷ ys) (length xs) (omega arith) i))

fits_behind : (es : List EventData) (n : ℕ) → length es ≤ n → FitsAt es n
fits_behind es n h = subst (λ o. IfSome o (λ event. Fits event (present_of event (text_at es n)) (made_at es n))) (sym (get_behind es n h)) tt

along : {P Q : Type 0} → P ≡ Q → P → Q
along e p = subst (λ T. T) e p

-- how two numbers stand to each other
placed : (P : Type 0) (m n : ℕ) → (m < n → P) → (m ≡ n → P) → (n < m → P) → P
placed P m n a b c =
    elim (ltb m n) as (λ t. ltb m n ≡ t → P) [
      | true ↦ λ t. a (ltb-true m n t)
      | false ↦ λ t.
          elim (ltb n m) as (λ u. ltb n m ≡ u → P) [
            | true ↦ λ u. c (ltb-true n m u)
            | false ↦ λ u. b (omega (arith, ltb-false m n t, ltb-false n m u))
          ] refl
    ] refl

pub none_fits : EveryFits []
none_fits n = tt

pub one_more_fits : (es : List EventData) (e : EventData) → EveryFits es → FitsAfter es e → EveryFits (es ++ e ∷ [])
one_more_fits es e h fits n =
    placed (FitsAt (es ++ e ∷ []) n) n (length es)
    (λ l. along (sym (fits_front es (e ∷ []) n l)) (h n))
    (λ s. subst (FitsAt (es ++ e ∷ [])) (sym s) (along (sym (fits_next es e [])) fits))
    (λ l. fits_behind (es ++ e ∷ []) n (omega (arith, l, length_push es e)))

pub first_unfit : (es : List EventData) (e : EventData) (rest : List EventData) → EveryFits es → ¬ (FitsAfter es e) → IsUnfit (es ++ e ∷ rest) (suc (length es))
first_unfit es e rest h unfits = (λ fits. unfits (along (fits_next es e rest) fits), λ m l. along (sym (fits_front es (e ∷ rest) m l)) (h m))

kind_fits : (e : EventData) (present : Option (List ℕ)) (made : ℕ) → has_kind First e ≡ true → Fits e present made
kind_fits (put path text) present made kind = tt
kind_fits (del path) present made kind = tt
kind_fits (move first second) present made kind = absurd (cc)
kind_fits (patch path start end bytes) present made kind = absurd (cc)
kind_fits commit present made kind = tt

kinds_at : (es : List EventData) (n : ℕ) (P : EventData → Type 0) → ((e : EventData) → has_kind First e ≡ true → P e) → AllByRecursion (HasSpelling First) es → IfSome (slice_get es n) P
kinds_at [] n P all spelled = tt
kinds_at (e ∷ es) zero P all spelled = all e spelled.0.0
kinds_at (e ∷ es) (suc n) P all spelled = kinds_at es n P all spelled.1

-- every event of a script of the first version fits
pub first_fits : (es : List EventData) → AllByRecursion (HasSpelling First) es → EveryFits es
first_fits es spelled n =
    kinds_at es n (λ e. Fits e (present_of e (text_at es n)) (made_at es n)) (λ e kind. kind_fits e (present_of e (text_at es n)) (made_at es n) kind) spelled

pub not_both : (es : List EventData) (n : ℕ) → EveryFits es → IsUnfit es n → ⊥
not_both es zero h u = u
not_both es (suc n) h u = u.0 (h n)

pub one_first : (es : List EventData) (m n : ℕ) → IsUnfit es m → IsUnfit es n → m ≡ n
one_first es zero n u v = absurd u
one_first es (suc m) zero u v = absurd v
one_first es (suc m) (suc n) u v =
    placed (suc m ≡ suc n) m n (λ l. absurd (u.0 (v.1 m l))) (λ s. ap suc s) (λ l. absurd (v.0 (u.1 n l)))

-- a claim or its denial
abbrev Either : Type 0 → Type 0
Either P = P ⊎ (P → ⊥)

both_decided : (P Q : Type 0) → Either P → Either Q → Either (P × Q)
both_decided P Q (inl p) (inl q) = inl (p, q)
both_decided P Q (inl p) (inr q) = inr (λ h. q h.1)
both_decided P Q (inr p) d = inr (λ h. p h.0)

four_decided : (P Q R S : Type 0) → Either P → Either Q → Either R → Either S → Either (P × Q × R × S)
four_decided P Q R S (inl p) (inl q) (inl r) (inl s) = inl (p, q, r, s)
four_decided P Q R S (inl p) (inl q) (inl r) (inr s) = inr (λ h. s h.3)
four_decided P Q R S (inl p) (inl q) (inr r) d = inr (λ h. r h.2)
four_decided P Q R S (inl p) (inr q) c d = inr (λ h. q h.1)
four_decided P Q R S (inr p) b c d = inr (λ h. p h.0)

follows_decided : (P Q : Type 0) → Either P → Either Q → Either (P → Q)
follows_decided P Q (inl p) (inl q) = inl (λ h. q)
follows_decided P Q (inl p) (inr q) = inr (λ h. q (h p))
follows_decided P Q (inr p) d = inl (λ h. absurd (p h))

at_most_decided : (m n : ℕ) → Either (m ≤ n)
at_most_decided m n =
    elim (ltb n m) as (λ t. ltb n m ≡ t → Either (m ≤ n)) [
      | true ↦ λ t. inr (λ h. absurd (omega (arith, h, ltb-true n m t)))
      | false ↦ λ t. inl (ltb-false n m t)
    ] refl

boundary_decided : (bs : List ℕ) (i : ℕ) → Either (IsCharBoundary bs i)
boundary_decided bs i =
    both_decided (i ≤ length bs) (i < length bs → 128 ≤ slice_index bs i → 192 ≤ slice_index bs i) (at_most_decided i (length bs))
    (follows_decided (i < length bs) (128 ≤ slice_index bs i → 192 ≤ slice_index bs i) (at_most_decided (suc i) (length bs))
    (follows_decided (128 ≤ slice_index bs i) (192 ≤ slice_index bs i) (at_most_decided 128 (slice_index bs i)) (at_most_decided 192 (slice_index bs i))))

text_decided : (start end : ℕ) (bytes : List ℕ) (made : ℕ) (text : List ℕ) → Either (FitsText start end bytes made text)
text_decided start end bytes made text =
    four_decided _ _ _ _ (at_most_decided start end) (boundary_decided text start) (boundary_decided text end) (at_most_decided (made + length (patched text start end bytes)) most_patched)

event_decided : (e : EventData) (present : Option (List ℕ)) (made : ℕ) → Either (Fits e present made)
event_decided (put path text) present made = inl tt
event_decided (del path) present made = inl tt
event_decided (move first second) None made = inr (λ h. absurd (cc))
event_decided (move first second) (Some text) made = inl refl
event_decided (patch path start end bytes) None made = inr (λ h. h)
event_decided (patch path start end bytes) (Some text) made = text_decided start end bytes made text
event_decided commit present made = inl tt

next_decided : (es : List EventData) (n : ℕ) (o : Option EventData) → Either (IfSome o (λ event. Fits event (present_of event (text_at es n)) (made_at es n)))
next_decided es n None = inl tt
next_decided es n (Some e) = event_decided e (present_of e (text_at es n)) (made_at es n)

one_more_decided : (es : List EventData) (n : ℕ) → ((m : ℕ) → m < n → FitsAt es m) → Either (FitsAt es n) → ((m : ℕ) → m < suc n → FitsAt es m) ⊎ ((k : ℕ) × IsUnfit es k)
one_more_decided es n before (inl fits) =
    inl (λ m l. placed (FitsAt es m) m n (before m) (λ s. subst (FitsAt es) (sym s) fits) (λ k. absurd (omega (arith, l, k))))
one_more_decided es n before (inr unfits) = inr (suc n, (unfits, before))

fit_to : (es : List EventData) (n : ℕ) → ((m : ℕ) → m < n → FitsAt es m) ⊎ ((k : ℕ) × IsUnfit es k)
fit_to es zero = inl (λ m l. absurd (omega (arith, l)))
fit_to es (suc n) =
    elim (fit_to es n) [
      | inl before ↦ one_more_decided es n before (next_decided es n (slice_get es n))
      | inr unfit ↦ inr unfit
    ]

-- every event fits, or there is a first that does not
pub fits_or_not : (es : List EventData) → EveryFits es ⊎ ((n : ℕ) × IsUnfit es n)
fits_or_not es =
    elim (fit_to es (length es)) [
      | inl all ↦ inl (λ n. placed (FitsAt es n) n (length es) (all n) (λ s. fits_behind es n (omega (arith, s))) (λ l. fits_behind es n (omega (arith, l))))
      | inr unfit ↦ inr unfit
    ]

-- The same events with and without their commits.

-- the same stands after these and those, and as much was made
record Alike (xs ys : List EventData) : Type 0 where
  texts : (path : List ℕ) → text_after xs path ≡ text_after ys path
  made : made_after xs ≡ made_after ys

push_both : (xs ys : List EventData) (e : EventData) → Alike xs ys → Alike (xs ++ e ∷ []) (ys ++ e ∷ [])
push_both xs ys e same = record {
  texts = λ path. text_push xs e path ∙ ((λ i. text_by e (λ other. same.texts other i) path) ∙ sym (text_push ys e path));
  made = one_more_made xs e ∙ ((λ i. same.made i + made_by e (present_of e (λ other. same.texts other i))) ∙ sym (one_more_made ys e));
}

push_commit : (xs ys : List EventData) → Alike xs ys → Alike (xs ++ commit ∷ []) ys
push_commit xs ys same = record {
  texts = λ path. text_push xs commit path ∙ same.texts path;
  made = let more = one_more_made xs commit in omega (arith, more, same.made);
}

grouped : (xs es : List EventData) (e : EventData) → (xs ++ e ∷ []) ++ es ≡ xs ++ e ∷ es
grouped xs es e = append_assoc xs (e ∷ []) es

turned : (xs ys : List EventData) → Alike xs ys → Alike ys xs
turned xs ys same = record { texts = λ path. sym (same.texts path); made = sym same.made }

alike_next : (xs ys es fs : List EventData) (e : EventData) → Alike ((xs ++ e ∷ []) ++ es) ((ys ++ e ∷ []) ++ fs) → Alike (xs ++ e ∷ es) (ys ++ e ∷ fs)
alike_next xs ys es fs e same = subst (λ l. Alike l (ys ++ e ∷ fs)) (grouped xs es e) (subst (λ l. Alike ((xs ++ e ∷ []) ++ es) l) (grouped ys fs e) same)

alike_from : (xs ys es : List EventData) → Alike xs ys → Alike (xs ++ es) (ys ++ without_commits es)
alike_from xs ys [] same = subst (λ l. Alike l (ys ++ [])) (sym (append-nil xs)) (subst (Alike xs) (sym (append-nil ys)) same)
alike_from xs ys (put p t ∷ es) same = let e = put p t in alike_next xs ys es (without_commits es) e (alike_from (xs ++ e ∷ []) (ys ++ e ∷ []) es (push_both xs ys e same))
alike_from xs ys (del p ∷ es) same = let e = del p in alike_next xs ys es (without_commits es) e (alike_from (xs ++ e ∷ []) (ys ++ e ∷ []) es (push_both xs ys e same))
alike_from xs ys (move p q ∷ es) same = let e = move p q in alike_next xs ys es (without_commits es) e (alike_from (xs ++ e ∷ []) (ys ++ e ∷ []) es (push_both xs ys e same))
alike_from xs ys (patch p i j s ∷ es) same = let e = patch p i j s in alike_next xs ys es (without_commits es) e (alike_from (xs ++ e ∷ []) (ys ++ e ∷ []) es (push_both xs ys e same))
alike_from xs ys (commit ∷ es) same = subst (λ l. Alike l (ys ++ without_commits es)) (grouped xs es commit) (alike_from (xs ++ commit ∷ []) ys es (push_commit xs ys same))

whole_alike : (es : List EventData) → Alike es (as_one_commit es)
whole_alike es =
    turned (as_one_commit es) es (push_commit (without_commits es) es (turned es (without_commits es) (alike_from [] [] es (record { texts = λ path. refl; made = refl }))))

pub one_commit : (es : List EventData) → up_to 1 (as_one_commit es) ≡ as_one_commit es
one_commit [] = refl
one_commit (put p text ∷ es) = ap (λ l. put p text ∷ l) (one_commit es)
one_commit (del p ∷ es) = ap (λ l. del p ∷ l) (one_commit es)
one_commit (move p q ∷ es) = ap (λ l. move p q ∷ l) (one_commit es)
one_commit (patch p i j s ∷ es) = ap (λ l. patch p i j s ∷ l) (one_commit es)
one_commit (commit ∷ es) = one_commit es

-- what stands at the one commit of the whole is what stands after all events
pub whole_files : (es : List EventData) (files : FilesData) → AreFilesAfter es files → AreFilesAt (as_one_commit es) 1 files
whole_files es files h path = h path ∙ ((whole_alike es).texts path ∙ ap (λ l. text_after l path) (sym (one_commit es)))

pub whole_count : (es : List EventData) → commit_count (as_one_commit es) ≡ 1
whole_count [] = refl
whole_count (put p text ∷ es) = whole_count es
whole_count (del p ∷ es) = whole_count es
whole_count (move p q ∷ es) = whole_count es
whole_count (patch p i j s ∷ es) = whole_count es
whole_count (commit ∷ es) = whole_count es

fits_alike : (xs ys : List EventData) (e : EventData) → Alike xs ys → FitsAfter xs e → FitsAfter ys e
fits_alike xs ys e same fits = along (λ i. Fits e (present_of e (λ path. same.texts path i)) (same.made i)) fits

-- every event fits with the first commits taken out, and one event more
moved_on : (xs ys es : List EventData) (e : EventData) → Alike xs ys → EveryFits (xs ++ e ∷ es) → EveryFits ys → EveryFits ((xs ++ e ∷ []) ++ es) × EveryFits (ys ++ e ∷ [])
moved_on xs ys es e same all fit =
    (subst EveryFits (sym (grouped xs es e)) all, one_more_fits ys e fit (fits_alike xs ys e same (along (fits_next xs e es) (all (length xs)))))

fits_from : (xs ys es : List EventData) → Alike xs ys → EveryFits (xs ++ es) → EveryFits ys → EveryFits (ys ++ without_commits es)
fits_from xs ys [] same all fit = subst EveryFits (sym (append-nil ys)) fit
fits_from xs ys (put p t ∷ es) same all fit =
    let e = put p t in
    let (front, more) = moved_on xs ys es e same all fit in
    subst EveryFits (grouped ys (without_commits es) e) (fits_from (xs ++ e ∷ []) (ys ++ e ∷ []) es (push_both xs ys e same) front more)
fits_from xs ys (del p ∷ es) same all fit =
    let e = del p in
    let (front, more) = moved_on xs ys es e same all fit in
    subst EveryFits (grouped ys (without_commits es) e) (fits_from (xs ++ e ∷ []) (ys ++ e ∷ []) es (push_both xs ys e same) front more)
fits_from xs ys (move p q ∷ es) same all fit =
    let e = move p q in
    let (front, more) = moved_on xs ys es e same all fit in
    subst EveryFits (grouped ys (without_commits es) e) (fits_from (xs ++ e ∷ []) (ys ++ e ∷ []) es (push_both xs ys e same) front more)
fits_from xs ys (patch p i j s ∷ es) same all fit =
    let e = patch p i j s in
    let (front, more) = moved_on xs ys es e same all fit in
    subst EveryFits (grouped ys (without_commits es) e) (fits_from (xs ++ e ∷ []) (ys ++ e ∷ []) es (push_both xs ys e same) front more)
fits_from xs ys (commit ∷ es) same all fit = fits_from (xs ++ commit ∷ []) ys es (push_commit xs ys same) (subst EveryFits (sym (grouped xs es commit)) all) fit

-- every event fits without the commits where every event fits with them
pub whole_fits : (es : List EventData) → EveryFits es → EveryFits (as_one_commit es)
whole_fits es all = one_more_fits (without_commits es) commit (fits_from [] [] es (record { texts = λ path. refl; made = refl }) all none_fits) tt
