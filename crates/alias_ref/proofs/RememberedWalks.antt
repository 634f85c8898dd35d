-- A walk below a branch, and the walk of the same place from the beginning.
use Rattle.std.proofs.Common.{◌≡◌, ℕ, ◌+◌, ◌-◌, ◌<◌, ◌≤◌, List, [], ◌∷◌, ◌++◌, Bool, true, false, cond, Option, Some, None, length, map, refl, sym, ap, ◌∙◌, subst, arith, length-append, inl, inr}
use Rattle.std.proofs.lemmas.List.{length-map}
use Rattle.std.specs.Prelude.{is_some, nat_le, ◌↔◌}
use Rattle.std.specs.Option.{option_or}
use Rattle.ring.specs.Lists.{In}
use Rattle.name_path.specs.declared.place.Place.{Place}
use Rattle.alias_ref.specs.Written.{WrittenPlaces, is_misspelled}
use Rattle.alias_ref.specs.Visits.{Visit, visit, lost, Way, same_place, since, ref_break, most_on_branch, most_visits, break_if, first_break, walked, passed}
use Rattle.alias_ref.specs.Asking.{Lacks, lacks_none, lacks}
use Rattle.alias_ref.specs.declared.fault.RefRule.TheVariants as rule
use Rattle.alias_ref.specs.inner.Seen.{Clean}
use Rattle.alias_ref.specs.Remembered.{below_visit, below, way_below, Avoids, HasMeasures, IsRememberable}
use Rattle.alias_ref.proofs.SamePlaces.{same_place-is}
use Rattle.alias_ref.proofs.BranchesAreChains.{Each, since-lacks}
use Rattle.alias_ref.proofs.FirstBreaks.{enters, unbroken, walk_visits-begins, pass_visits-begins}
use Rattle.alias_ref.proofs.UnbrokenMeans.{clean_first}
use Rattle.alias_ref.proofs.BranchesRise.{walked_rises}
use Rattle.alias_ref.proofs.WalksBelow.{since_behind, since_neither, Fits, Stops, Agree, WaysAgree, walked_agree, passed_agree}

fails : (t : Bool) → (t ≡ true → ⊥) → t ≡ false
fails true h = absurd (h refl)
fails false h = refl

pub lacks_since : {p : Place} {b : List Place} → Lacks p b → since p b ≡ None
lacks_since lacks_none = refl
lacks_since {p} (lacks {q = q} {b = b} h hs) =
    ap (λ t. cond t (Some (q ∷ b)) (since p b)) (fails (same_place q p) (λ e. h (sym (same_place-is q p e)))) ∙ lacks_since hs

-- Lists of visits.

pub Each-front : (P : Visit → Type 0) (xs ys : List Visit) → Each P (xs ++ ys) → Each P xs
Each-front P [] ys h = tt
Each-front P (x ∷ xs) ys (h, hs) = (h, Each-front P xs ys hs)

Each-rest : (P : Visit → Type 0) (xs ys : List Visit) → Each P (xs ++ ys) → Each P ys
Each-rest P [] ys h = h
Each-rest P (x ∷ xs) ys (h, hs) = Each-rest P xs ys hs

pub Each-at : (P : Visit → Type 0) (es : List Visit) → Each P es → (e : Visit) → In e es → P e
Each-at P [] h e i = absurd i
Each-at P (x ∷ xs) (h, hs) e (inl s) = subst P (sym s) h
Each-at P (x ∷ xs) (h, hs) e (inr i) = Each-at P xs hs e i

pub Each-of : (P : Visit → Type 0) (es : List Visit) → ((e : Visit) → In e es → P e) → Each P es
Each-of P [] h = tt
Each-of P (x ∷ xs) h = (h x (inl refl), Each-of P xs (λ e i. h e (inr i)))

Each-map : (P Q : Visit → Type 0) (f : Visit → Visit) (es : List Visit) → ((e : Visit) → P (f e) → Q e) → Each P (map f es) → Each Q es
Each-map P Q f [] k h = tt
Each-map P Q f (x ∷ xs) k (h, hs) = (k x h, Each-map P Q f xs k hs)

Each-implies : (P Q : Visit → Type 0) (es : List Visit) → ((e : Visit) → P e → Q e) → Each P es → Each Q es
Each-implies P Q [] k h = tt
Each-implies P Q (x ∷ xs) k (h, hs) = (k x h, Each-implies P Q xs k hs)

-- a visit that breaks no rule, but for how many come before it
abbrev pub Sound : WrittenPlaces → Visit → Type 0
Sound T (visit c x) = (since x c ≡ None) × (length c < most_on_branch) × (is_misspelled (T x) ≡ false)
Sound T (lost p) = ⊥

module _ (T : WrittenPlaces) where
  each_sound : (n k : ℕ) (es : List Visit) → Clean T n k es → Each (Sound T) es
  each_sound n k [] c = tt
  each_sound n k (visit a x ∷ es) c =
      let f = clean_first T (visit a x) es c in
      let e = enters T n a x f.0 in
      ((e.is_new, e.room, e.spelled), each_sound (n + 1) k es f.1)
  each_sound n k (lost p ∷ es) c = let h : Some (ref_break rule.RefTarget p) ≡ None = (clean_first T (lost p) es c).0 in absurd (cc)

  pub sound_of : (n : ℕ) (es : List Visit) → first_break T n es ≡ None → Each (Sound T) es
  sound_of n es h = each_sound n (n + length es) es (record { unbroken = h; counted = refl })

  pub sound_unbroken : (k : ℕ) (es : List Visit) → Each (Sound T) es → k + length es ≤ most_visits → first_break T k es ≡ None
  unfolding first_break
  sound_unbroken k [] s few = refl
  sound_unbroken k (visit c x ∷ es) (s, ss) few =
      ap (λ o. option_or o (first_break T (k + 1) es)) (unbroken T k c x s.0 s.1 (omega (arith, few)) s.2) ∙ sound_unbroken (k + 1) es ss (omega (arith, few))
  sound_unbroken k (lost p ∷ es) (s, ss) few = absurd s

  few_if : (k : ℕ) (b : List Place) (p : Place) (x y z : Bool) → nat_le most_visits k ≡ y
      → cond x (Some (ref_break rule.Deep p)) (cond y (Some (ref_break rule.Big p)) (cond z (Some (ref_break rule.RefSyntax p)) None)) ≡ None → k < most_visits
  few_if k b p true y z e h = cc
  few_if k b p false true z e h = cc
  few_if k b p false false z e h = grind (arith, e)

  few_of : (k : ℕ) (b : List Place) (p : Place) (o : Option (List Place)) → break_if T k b p o ≡ None → k < most_visits
  few_of k b p (Some r) h = cc
  few_of k b p None h = few_if k b p (nat_le most_on_branch (length b)) (nat_le most_visits k) (is_misspelled (T p)) refl h

  few_before : (n k : ℕ) (e : Visit) (es : List Visit) → Clean T n k (e ∷ es) → n < most_visits
  few_before n k (visit b p) es c = few_of n b p (since p b) (clean_first T (visit b p) es c).0
  few_before n k (lost p) es c = let h : Some (ref_break rule.RefTarget p) ≡ None = (clean_first T (lost p) es c).0 in absurd (cc)

  few_among : (n k : ℕ) (es : List Visit) → n ≤ most_visits → Clean T n k es → n + length es ≤ most_visits
  few_among n k [] h c = omega (arith, h)
  few_among n k (e ∷ es) h c =
      let r = few_among (n + 1) k es (omega (arith, few_before n k e es c)) (clean_first T e es c).1 in
      omega (arith, r)

  few_visits : (n : ℕ) (e : Visit) (es : List Visit) → first_break T n (e ∷ es) ≡ None → n + length (e ∷ es) ≤ most_visits
  few_visits n e es h =
      let c : Clean T n (n + length (e ∷ es)) (e ∷ es) = record { unbroken = h; counted = refl } in
      few_among n (n + length (e ∷ es)) (e ∷ es) (omega (arith, few_before n (n + length (e ∷ es)) e es c)) c

  abbrev Begins : List Place → Place → List Visit → Type 0
  Begins b p es = (more : List Visit) × (es ≡ visit b p ∷ more)

  walked_begins : (b : List Place) (p : Place) → Begins b p (walked T b p)
  unfolding walked
  walked_begins b p = walk_visits-begins T (most_on_branch - length b) b p

  passed_begins : (b : List Place) (p : Place) → Begins b p (passed T b p).seen
  unfolding passed
  passed_begins b p = pass_visits-begins T (most_on_branch - length b) b p

  module _ (b : List Place) where
    fits_of : (es : List Visit) (n d : ℕ) → HasMeasures T 0 es n d → Avoids b es → length b + d < most_on_branch → Each (Fits b) es
    fits_of es n d r a room = Each-of (Fits b) es one
      where
        one : (e : Visit) → In e es → Fits b e
        one (visit c x) i = (lacks_since (a c x i), omega (arith, room, r.within c x i))
        one (lost p) i = tt

    -- where each visit fits, with the branch or without it, the walk is the same
    fits_all : (es es' : List Visit) → Each (Fits b) es → Stops T b es es' → ⊥
    fits_all es es' h s = s.unfit (Each-rest (Fits b) s.xs (visit s.c s.p ∷ s.ys) (subst (Each (Fits b)) s.is h)).0

    sound_all : (es es' : List Visit) → Each (Sound T) es' → Stops T b es es' → ⊥
    sound_all es es' h s =
        let k = (Each-rest (Sound T) (below b s.xs) (visit (b ++ s.c) s.p ∷ s.ys') (subst (Each (Sound T)) s.is' h)).0 in
        s.unfit ((since_neither s.p b s.c k.0).0, omega (arith, k.1, length-append b s.c))

    same_lists : (es es' : List Visit) → Agree T b es es' → (Stops T b es es' → ⊥) → es' ≡ below b es
    same_lists es es' a no_stop = elim a as (λ _. es' ≡ below b es) [ inl e ↦ e | inr s ↦ absurd (no_stop s) ]

    same_ways : (w w' : Way) → WaysAgree T b w w' → (Stops T b w.seen w'.seen → ⊥) → w' ≡ way_below b w
    same_ways w w' a no_stop = elim a as (λ _. w' ≡ way_below b w) [ inl e ↦ e | inr s ↦ absurd (no_stop s) ]

    pub remembered_walk : (p : Place) (n d : ℕ) → HasMeasures T 0 (walked T [] p) n d → Avoids b (walked T [] p) → length b + d < most_on_branch → walked T b p ≡ below b (walked T [] p)
    remembered_walk p n d r a room =
        same_lists (walked T [] p) (walked T b p) (walked_agree T b p (omega (arith, room))) (fits_all (walked T [] p) (walked T b p) (fits_of (walked T [] p) n d r a room))

    pub remembered_pass : (p : Place) (n d : ℕ) → HasMeasures T 0 (passed T [] p).seen n d → Avoids b (passed T [] p).seen → length b + d < most_on_branch → passed T b p ≡ way_below b (passed T [] p)
    remembered_pass p n d r a room =
        same_ways (passed T [] p) (passed T b p) (passed_agree T b p (omega (arith, room))) (fits_all (passed T [] p).seen (passed T b p).seen (fits_of (passed T [] p).seen n d r a room))

    pub sound_below : (es : List Visit) → Each (Sound T) es → Each (Fits b) es → Each (Sound T) (below b es)
    sound_below [] s f = tt
    sound_below (visit c x ∷ es) (s, ss) (f, fs) =
        ((since_behind x b c f.0 ∙ s.0, omega (arith, f.1, length-append b c), s.2), sound_below es ss fs)
    sound_below (lost p ∷ es) (s, ss) fs = absurd s

    breaks_where : (p : Place) (es es' : List Visit) (n d k : ℕ) → HasMeasures T 0 es n d → Avoids b es → length b + d < most_on_branch → es' ≡ below b es → Begins b p es' → (first_break T k es' ≡ None) ↔ (k + n ≤ most_visits)
    breaks_where p es es' n d k r a room same begins =
        let count : length (below b es) ≡ n = length-map es (below_visit b) ∙ r.counted in (
          λ h. let few = few_visits k (visit b p) begins.0 (subst (λ xs. first_break T k xs ≡ None) begins.1 h) in
              let counts : length (visit b p ∷ begins.0) ≡ n = ap length (sym begins.1) ∙ ap length same ∙ count in
              subst (λ m. k + m ≤ most_visits) counts few,
          λ few. subst (λ xs. first_break T k xs ≡ None) (sym same)
              (sound_unbroken k (below b es) (sound_below es (sound_of 0 es r.unbroken) (fits_of es n d r a room)) (subst (λ m. k + m ≤ most_visits) (sym count) few)),
        )

    pub remembered_breaks : (p : Place) (n d k : ℕ) → HasMeasures T 0 (walked T [] p) n d → Avoids b (walked T [] p) → length b + d < most_on_branch → (first_break T k (walked T b p) ≡ None) ↔ (k + n ≤ most_visits)
    remembered_breaks p n d k r a room = breaks_where p (walked T [] p) (walked T b p) n d k r a room (remembered_walk p n d r a room) (walked_begins b p)

    pub remembered_pass_breaks : (p : Place) (n d k : ℕ) → HasMeasures T 0 (passed T [] p).seen n d → Avoids b (passed T [] p).seen → length b + d < most_on_branch → (first_break T k (passed T b p).seen ≡ None) ↔ (k + n ≤ most_visits)
    remembered_pass_breaks p n d k r a room =
        breaks_where p (passed T [] p).seen (passed T b p).seen n d k r a room (ap (λ w. w.seen) (remembered_pass p n d r a room)) (passed_begins b p)

    -- what is walked below the branch without a break is what is walked without it
    room_left : (p : Place) (es : List Visit) → Begins b p es → Each (Sound T) es → length b ≤ most_on_branch
    room_left p es k s = let h = subst (Each (Sound T)) k.1 s in omega (arith, h.0.1)

    pub unbroken_walk : (p : Place) (k : ℕ) → first_break T k (walked T b p) ≡ None → walked T b p ≡ below b (walked T [] p)
    unbroken_walk p k h =
        let s = sound_of k (walked T b p) h in
        same_lists (walked T [] p) (walked T b p) (walked_agree T b p (room_left p (walked T b p) (walked_begins b p) s)) (sound_all (walked T [] p) (walked T b p) s)

    pub unbroken_pass : (p : Place) (k : ℕ) → first_break T k (passed T b p).seen ≡ None → passed T b p ≡ way_below b (passed T [] p)
    unbroken_pass p k h =
        let s = sound_of k (passed T b p).seen h in
        same_ways (passed T [] p) (passed T b p) (passed_agree T b p (room_left p (passed T b p).seen (passed_begins b p) s)) (sound_all (passed T [] p).seen (passed T b p).seen s)

    -- a visit that is sound below the branch too
    abbrev SoundBelow : Visit → Type 0
    SoundBelow (visit c x) = (since x b ≡ None) × Sound T (visit c x) × (length b + length c < most_on_branch)
    SoundBelow (lost p) = ⊥

    sound_apart : (e : Visit) → Sound T (below_visit b e) → SoundBelow e
    sound_apart (visit c x) s =
        let k = since_neither x b c s.0 in
        let room : length b + length c < most_on_branch = omega (arith, s.1, length-append b c) in
        (k.0, (k.1, omega (arith, room), s.2), room)
    sound_apart (lost p) s = s

    sound_alone : (e : Visit) → SoundBelow e → Sound T e
    sound_alone (visit c x) s = s.1
    sound_alone (lost p) s = s

    rememberable : (p : Place) (k : ℕ) (es es' : List Visit) → first_break T k es' ≡ None → es' ≡ below b es → Begins b p es' → IsRememberable T b es
    rememberable p k es es' h same begins =
        let s = Each-map (Sound T) SoundBelow (below_visit b) es sound_apart (subst (Each (Sound T)) same (sound_of k es' h)) in
        let few = few_visits k (visit b p) begins.0 (subst (λ xs. first_break T k xs ≡ None) begins.1 h) in
        let counts : length (visit b p ∷ begins.0) ≡ length es = ap length (sym begins.1) ∙ ap length same ∙ length-map es (below_visit b) in
        let all : Each (Sound T) es = Each-implies SoundBelow (Sound T) es sound_alone s in
        record {
          unbroken = sound_unbroken 0 es all (omega (arith, few, counts));
          new = λ c x i. since-lacks x b (ap is_some (Each-at SoundBelow es s (visit c x) i).0);
          room = λ c x i. (Each-at SoundBelow es s (visit c x) i).2;
        }

    pub walk_rememberable : (p : Place) (k : ℕ) → first_break T k (walked T b p) ≡ None → IsRememberable T b (walked T [] p)
    walk_rememberable p k h = rememberable p k (walked T [] p) (walked T b p) h (unbroken_walk p k h) (walked_begins b p)

    pub pass_rememberable : (p : Place) (k : ℕ) → first_break T k (passed T b p).seen ≡ None → IsRememberable T b (passed T [] p).seen
    pass_rememberable p k h = rememberable p k (passed T [] p).seen (passed T b p).seen h (ap (λ w. w.seen) (unbroken_pass p k h)) (passed_begins b p)

    -- the measures of the visits below the branch, and of those without it
    in_below : (e : Visit) (es : List Visit) → In e es → In (below_visit b e) (below b es)
    in_below e [] i = absurd i
    in_below e (x ∷ es) (inl s) = inl (ap (below_visit b) s)
    in_below e (x ∷ es) (inr i) = inr (in_below e es i)

    pub measures_below : (p : Place) (n d k : ℕ) → HasMeasures T 0 (walked T [] p) n d → Avoids b (walked T [] p) → length b + d < most_on_branch → k + n ≤ most_visits → HasMeasures T k (walked T b p) n (length b + d)
    measures_below p n d k r a room few =
        let same = remembered_walk p n d r a room in
        record {
          unbroken = (remembered_breaks p n d k r a room).1 few;
          counted = ap length same ∙ length-map (walked T [] p) (below_visit b) ∙ r.counted;
          within = λ c x i. within_of (walked T [] p) d r.within c x (subst (In (visit c x)) same i);
        }
      where
        within_of : (es : List Visit) (d : ℕ) → ((c : List Place) (x : Place) → In (visit c x) es → length c ≤ d) → (a : List Place) (x : Place) → In (visit a x) (below b es) → length a ≤ length b + d
        within_of [] d h a x i = absurd i
        within_of (visit c y ∷ es) d h a x (inl s) =
            let same : a ≡ b ++ c = cc in
            omega (arith, ap length same, length-append b c, h c y (inl refl))
        within_of (lost y ∷ es) d h a x (inl s) = absurd (cc)
        within_of (e ∷ es) d h a x (inr i) = within_of es d (λ c y j. h c y (inr j)) a x i

    pub measures_kept : (p : Place) (n d k : ℕ) → HasMeasures T k (walked T b p) n (length b + d) → HasMeasures T 0 (walked T [] p) n d
    measures_kept p n d k r =
        let same = unbroken_walk p k r.unbroken in
        record {
          unbroken = (walk_rememberable p k r.unbroken).unbroken;
          counted = sym (ap length same ∙ length-map (walked T [] p) (below_visit b)) ∙ r.counted;
          within = λ c x i.
              let h = r.within (b ++ c) x (subst (In (visit (b ++ c) x)) (sym same) (in_below (visit c x) (walked T [] p) i)) in
              omega (arith, h, length-append b c);
        }

    -- with no measure of branches
    pub counts_below : (p : Place) (k : ℕ) → first_break T 0 (walked T [] p) ≡ None → Avoids b (walked T [] p)
        → length b + length (walked T [] p) ≤ most_on_branch → k + length (walked T [] p) ≤ most_visits
        → (first_break T k (walked T b p) ≡ None) × (length (walked T b p) ≡ length (walked T [] p))
    counts_below p k h a room few =
        let n : ℕ = length (walked T [] p) in
        let some : 0 < n = let c = walked_begins [] p in omega (arith, ap length c.1) in
        let r : HasMeasures T 0 (walked T [] p) n (n - 1) = record {
          unbroken = h;
          counted = refl;
          within = λ c x i. let k = walked_rises T [] p c x i in omega (arith, k);
        } in
        let m = measures_below p n (n - 1) k r a (omega (arith, room, some)) few in
        (m.unbroken, m.counted)

    pub counts_kept : (p : Place) (k : ℕ) → first_break T k (walked T b p) ≡ None → (first_break T 0 (walked T [] p) ≡ None) × (length (walked T [] p) ≡ length (walked T b p))
    counts_kept p k h =
        ((walk_rememberable p k h).unbroken, sym (ap length (unbroken_walk p k h) ∙ length-map (walked T [] p) (below_visit b)))
