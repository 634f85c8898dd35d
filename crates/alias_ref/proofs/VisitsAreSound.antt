-- Whatever a walk without a break visits is new on its branch, spelled well, and leads somewhere where it is a reference.
use Rattle.std.proofs.Common.{◌≡◌, ℕ, ◌+◌, ◌-◌, ◌<◌, ◌≤◌, List, [], ◌∷◌, ◌++◌, true, false, Option, Some, None, length, refl, sym, ap, ◌∙◌, subst, arith, length-append}
use Rattle.std.specs.Prelude.{is_some}
use Rattle.name_path.specs.declared.place.Place.{Place}
use Rattle.alias_ref.specs.Written.{Step, Written, leaf, parts, refers, misspelled, WrittenPlaces, whole, part, is_reference, is_misspelled, is_written}
use Rattle.alias_ref.specs.Meaning.{Leads, leads, Goes, arrived, onward, Settles}
use Rattle.alias_ref.specs.Visits.{Visit, visit, Way, goes_on, then_go, since, go_if, steps_from, way_of, settle_by, pass_written, visits_each, at_end, walk_written, most_on_branch, walked, passed, walk_break}
use Rattle.alias_ref.specs.Asking.{Manner, by_walking as walking, by_passing as passing, AsksFor, for_part, for_step, for_target, for_next, Lacks, IsVisited, begins, asked}
use Rattle.alias_ref.specs.inner.Seen.{Clean, AllWritten, HasParts}
use Rattle.alias_ref.proofs.BranchesAreChains.{since-lacks}
use Rattle.alias_ref.proofs.FirstBreaks.{Enters, enters, walked-enters, passed-enters, walk_visits-begins, pass_visits-begins}
use Rattle.alias_ref.proofs.OneMeaning.{lead_once, settle_once}
use Rattle.alias_ref.proofs.UnbrokenMeans.{clean_front, clean_first, HasEnd, Ending, settle_end, way_end_is, pass_end, at_end_means, front_of}
use Rattle.alias_ref.proofs.WaysSettle.{DoSettle, way_of-leads, settle_by-settles, pass_visits-settles}
use Rattle.alias_ref.proofs.WalksInTurns.{goes_on-front, settle_passes, way_found}

module _ (T : WrittenPlaces) where
  abbrev CleanList : List Visit → Type 0
  CleanList es = (n : ℕ) × (k : ℕ) × Clean T n k es

  front : (xs ys : List Visit) → CleanList (xs ++ ys) → CleanList xs
  front xs ys (n, k, c) = let s = clean_front T xs ys c in (n, s.0, s.1)

  rest : (e : Visit) (es : List Visit) → CleanList (e ∷ es) → CleanList es
  rest e es (n, k, c) = (n + 1, k, (clean_first T e es c).1)

  first_enters : (b : List Place) (p : Place) (es : List Visit) → CleanList (visit b p ∷ es) → Enters T b p
  first_enters b p es (n, k, c) = enters T n b p (clean_first T (visit b p) es c).0

  walked_begins : (b : List Place) (p : Place) → (es : List Visit) × (walked T b p ≡ visit b p ∷ es)
  unfolding walked
  walked_begins b p = walk_visits-begins T (most_on_branch - length b) b p

  passed_begins : (b : List Place) (p : Place) → (es : List Visit) × ((passed T b p).seen ≡ visit b p ∷ es)
  unfolding passed
  passed_begins b p = pass_visits-begins T (most_on_branch - length b) b p

  list_of : Manner → List Place → Place → List Visit
  list_of walking b p = walked T b p
  list_of passing b p = (passed T b p).seen

  enters_of : (m : Manner) (b : List Place) (p : Place) → CleanList (list_of m b p) → Enters T b p
  unfolding list_of
  enters_of walking b p c = let k = walked_begins b p in first_enters b p k.0 (subst CleanList k.1 c)
  enters_of passing b p c = let k = passed_begins b p in first_enters b p k.0 (subst CleanList k.1 c)

  -- what is passed below a branch with room ends where it settles
  passed_settles : (b : List Place) → DoSettle T (settle_by T (passed T b))
  unfolding passed
  passed_settles b = settle_by-settles T (passed T b) (pass_visits-settles T (most_on_branch - length b) b)

  passed_ends : (b : List Place) → length b ≤ most_on_branch → Ending T (settle_by T (passed T b))
  unfolding passed
  passed_ends b h = settle_end T (passed T b) (pass_end T (most_on_branch - length b) b (omega (arith, h)))

  longer : (b : List Place) (p : Place) → length b < most_on_branch → length (b ++ p ∷ []) ≤ most_on_branch
  longer b p h = omega (arith, h, length-append b (p ∷ []))

  each_at : (walk : Place → List Visit) (p : Place) (before after : List Step) (s : Step) → CleanList (visits_each walk p (before ++ s ∷ after)) → CleanList (walk (part p s))
  unfolding visits_each
  each_at walk p [] after s c = front (walk (part p s)) (visits_each walk p after) c
  each_at walk p (r ∷ before) after s (n, k, c) =
      let f = clean_front T (walk (part p r)) (visits_each walk p (before ++ s ∷ after)) c in
      each_at walk p before after s (f.0, k, f.2)

  written_at : (p : Place) (before after : List Step) (s : Step) → AllWritten T p (before ++ s ∷ after) → is_written (T (part p s)) ≡ true
  written_at p [] after s w = w.0
  written_at p (r ∷ before) after s w = written_at p before after s w.1

  module _ (settle : Place → Way) (ok : DoSettle T settle) (ends : Ending T settle) (home : Place) (s : Step) (after : List Step) (q : Place) where
    turn_on : (p : Place) (r : Step) (rest : List Step) (n k : ℕ) → is_written (T p) ≡ true → Clean T n k (steps_from T settle home p (r ∷ rest)).seen → (x : Place) → Settles T p x → is_written (T (part x r)) ≡ true → CleanList (steps_from T settle home (part x r) rest).seen
    unfolding steps_from
    turn_on p r more n k w c x a v =
        let next : Place → Way = λ y. go_if (is_written (T (part y r))) home (steps_from T settle home (part y r) more) in
        go (settle p).seen (settle p).ends refl c (λ m d. ends p n m w d)
      where
        found : (xs : List Visit) (y : Place) → (settle p).ends ≡ Some y → Clean T n k (xs ++ (go_if (is_written (T (part y r))) home (steps_from T settle home (part y r) more)).seen) → CleanList (steps_from T settle home (part x r) more).seen
        found xs y e d =
            let split = clean_front T xs (go_if (is_written (T (part y r))) home (steps_from T settle home (part y r) more)).seen d in
            let same : y ≡ x = settle_once T (ok p y e) a in
            let at = subst (λ z. Clean T split.0 k (go_if (is_written (T (part z r))) home (steps_from T settle home (part z r) more)).seen) same split.2 in
            (split.0, k, subst (λ b. Clean T split.0 k (go_if b home (steps_from T settle home (part x r) more)).seen) v at)

        go : (xs : List Visit) (o : Option Place) → (settle p).ends ≡ o → Clean T n k (goes_on xs o (λ y. go_if (is_written (T (part y r))) home (steps_from T settle home (part y r) more))).seen → ((m : ℕ) → Clean T n m xs → HasEnd T (settle p)) → CleanList (steps_from T settle home (part x r) more).seen
        go xs None e d f = let has = f k d in let bad = sym e ∙ has.1 in absurd (cc)
        go xs (Some y) e d f = found xs y e d

    steps_begin : (x : Place) (n k : ℕ) → Clean T n k (steps_from T settle home x (s ∷ after)).seen → CleanList (settle x).seen
    unfolding steps_from
    steps_begin x n k c =
        let next : Place → Way = λ y. go_if (is_written (T (part y s))) home (steps_from T settle home (part y s) after) in
        let f = goes_on-front (settle x).seen (settle x).ends next in
        front (settle x).seen f.0 (n, k, subst (Clean T n k) f.1 c)

    step_at : (p : Place) (before : List Step) → Goes T p before q → is_written (T p) ≡ true → CleanList (steps_from T settle home p (before ++ s ∷ after)).seen → CleanList (settle q).seen
    step_at p [] arrived w (n, k, c) = steps_begin p n k c
    step_at p (r ∷ before) (onward {q = x} a v g) w (n, k, c) = step_at (part x r) before g v (turn_on p r (before ++ s ∷ after) n k w c x a v)

  settle_clean : (b : List Place) (q : Place) → is_reference (T q) ≡ true → CleanList (settle_by T (passed T b) q).seen → CleanList (passed T b q).seen
  settle_clean b q r c = subst (λ w. CleanList w.seen) (settle_passes T (passed T b) q r) c

  reference_written : (o : Option Written) → is_reference o ≡ true → is_written o ≡ true
  reference_written None r = absurd (cc)
  reference_written (Some w) r = refl

  -- the way of a reference that was visited without a break
  module _ (b : List Place) (p : Place) (room : length b ≤ most_on_branch) (t steps : List Step) (is : T p ≡ Some (refers t steps)) where
    abbrev way : Way
    way = way_of T (settle_by T (passed T b)) p t steps

    way_step : (before after : List Step) (s : Step) (q : Place) → is_written (T (whole t)) ≡ true → steps ≡ before ++ s ∷ after → Goes T (whole t) before q → CleanList way.seen → CleanList (settle_by T (passed T b) q).seen
    way_step before after s q w e g c =
        let f = way_found T (settle_by T (passed T b)) p t steps w in
        let d = subst (λ x. CleanList x.seen) f c in
        step_at (settle_by T (passed T b)) (passed_settles b) (passed_ends b room) p s after q (whole t) before g w
        (subst (λ ss. CleanList (steps_from T (settle_by T (passed T b)) p (whole t) ss).seen) e d)

    way_leads : (n k : ℕ) → Clean T n k way.seen → (q : Place) × (way.ends ≡ Some q) × (is_written (T q) ≡ true) × Leads T p q
    way_leads n k c =
        let has = way_end_is T (settle_by T (passed T b)) (passed_ends b room) p t steps n k c in
        (has.0, has.1, has.2, way_of-leads T (settle_by T (passed T b)) (passed_settles b) p has.0 t steps is has.1)

    target_walk : (q : Place) → Leads T p q → (n k : ℕ) → Clean T n k (at_end way.seen way.ends (walked T b)) → CleanList (walked T b q) × (is_written (T q) ≡ true)
    target_walk q l n k c =
        let f = front_of T way (walked T b) n k way.ends c in
        let has = way_leads n f.0 f.1 in
        let at = at_end_means T way (walked T b) n k (has.0, has.1, has.2) c in
        let here : at.0 ≡ q = lead_once T (way_of-leads T (settle_by T (passed T b)) (passed_settles b) p at.0 t steps is at.2) l in
        (subst (λ x. CleanList (walked T b x)) here (at.1, k, at.4), subst (λ x. is_written (T x) ≡ true) here at.3)

    target_pass : (q : Place) → Leads T p q → (n k : ℕ) → Clean T n k (then_go way (settle_by T (passed T b))).seen → CleanList (settle_by T (passed T b) q).seen
    target_pass q l n k c = go way.seen way.ends refl c (λ m d. way_leads n m d)
      where
        go : (xs : List Visit) (o : Option Place) → way.ends ≡ o → Clean T n k (goes_on xs o (settle_by T (passed T b))).seen → ((m : ℕ) → Clean T n m xs → (y : Place) × (way.ends ≡ Some y) × (is_written (T y) ≡ true) × Leads T p y) → CleanList (settle_by T (passed T b) q).seen
        go xs None e d f = let has = f k d in let bad = sym e ∙ has.1 in absurd (cc)
        go xs (Some y) e d f =
            let split = clean_front T xs (settle_by T (passed T b) y).seen d in
            let same : y ≡ q = lead_once T (way_of-leads T (settle_by T (passed T b)) (passed_settles b) p y t steps is e) l in
            subst (λ x. CleanList (settle_by T (passed T b) x).seen) same (split.0, k, split.2)

  -- what is asked for is clean where the visit that asks for it is
  module _ (hp : HasParts T) where
    record Sound (m : Manner) (b : List Place) (p : Place) : Type 0 where
      clean : CleanList (list_of m b p)
      there : is_written (T p) ≡ true

    walk_of : (b : List Place) (p : Place) (w : Written) → T p ≡ Some w → Sound walking b p → CleanList (walk_written T (settle_by T (passed T (b ++ p ∷ []))) (walked T (b ++ p ∷ [])) p (Some w))
    unfolding list_of
    walk_of b p w is s =
        let e = enters_of walking b p s.clean in
        rest (visit b p) (walk_written T (settle_by T (passed T (b ++ p ∷ []))) (walked T (b ++ p ∷ [])) p (Some w)) (subst CleanList (walked-enters T b p (Some w) e is) s.clean)

    pass_of : (b : List Place) (p : Place) (w : Written) → T p ≡ Some w → Sound passing b p → CleanList (pass_written T (settle_by T (passed T (b ++ p ∷ []))) p (Some w)).seen
    unfolding list_of
    pass_of b p w is s =
        let e = enters_of passing b p s.clean in
        rest (visit b p) (pass_written T (settle_by T (passed T (b ++ p ∷ []))) p (Some w)).seen (subst (λ x. CleanList x.seen) (passed-enters T b p (Some w) e is) s.clean)

    room_of : (m : Manner) (b : List Place) (p : Place) → Sound m b p → length (b ++ p ∷ []) ≤ most_on_branch
    room_of m b p s = longer b p (enters_of m b p s.clean).room

    way_of_walk : (b : List Place) (p : Place) (t steps : List Step) → T p ≡ Some (refers t steps) → Sound walking b p → CleanList (way_of T (settle_by T (passed T (b ++ p ∷ []))) p t steps).seen
    way_of_walk b p t steps is s =
        let w : Way = way_of T (settle_by T (passed T (b ++ p ∷ []))) p t steps in
        let c = walk_of b p (refers t steps) is s in
        let f = front_of T w (walked T (b ++ p ∷ [])) c.0 c.1 w.ends c.2 in (c.0, f.0, f.1)

    way_of_pass : (b : List Place) (p : Place) (t steps : List Step) → T p ≡ Some (refers t steps) → Sound passing b p → CleanList (way_of T (settle_by T (passed T (b ++ p ∷ []))) p t steps).seen
    way_of_pass b p t steps is s =
        let w : Way = way_of T (settle_by T (passed T (b ++ p ∷ []))) p t steps in
        let f = goes_on-front w.seen w.ends (settle_by T (passed T (b ++ p ∷ []))) in
        front w.seen f.0 (subst CleanList f.1 (pass_of b p (refers t steps) is s))

    way_of_visit : (m : Manner) (b : List Place) (p : Place) (t steps : List Step) → T p ≡ Some (refers t steps) → Sound m b p → CleanList (way_of T (settle_by T (passed T (b ++ p ∷ []))) p t steps).seen
    way_of_visit walking b p t steps is s = way_of_walk b p t steps is s
    way_of_visit passing b p t steps is s = way_of_pass b p t steps is s

    sound_walk : (b : List Place) (q : Place) → CleanList (walked T b q) → is_written (T q) ≡ true → Sound walking b q
    unfolding list_of
    sound_walk b q c w = record { clean = c; there = w }

    sound_pass : (b : List Place) (q : Place) → is_reference (T q) ≡ true → CleanList (settle_by T (passed T b) q).seen → Sound passing b q
    unfolding list_of
    sound_pass b q r c = record { clean = settle_clean b q r c; there = reference_written (T q) r }

    sound_asked : {m n : Manner} {b : List Place} {p q : Place} → Sound m b p → AsksFor T m p n q → Sound n (b ++ p ∷ []) q
    sound_asked {b = b} {p = p} s (for_part {c = c} {steps = steps} before after r is e) =
        let d = subst (λ ss. CleanList (visits_each (walked T (b ++ p ∷ [])) p ss)) e (walk_of b p (parts c steps) is s) in
        sound_walk (b ++ p ∷ []) (part p r) (each_at (walked T (b ++ p ∷ [])) p before after r d) (written_at p before after r (subst (AllWritten T p) e (hp p c steps is)))
    sound_asked {m} {b = b} {p = p} {q = q} s (for_step {token = t} {steps = steps} before after r is w e g ref) =
        sound_pass (b ++ p ∷ []) q ref (way_step (b ++ p ∷ []) p (room_of m b p s) t steps is before after r q w e g (way_of_visit m b p t steps is s))
    sound_asked {b = b} {p = p} {q = q} s (for_target (leads {token = t} {steps = steps} is w g)) =
        let c = walk_of b p (refers t steps) is s in
        let k = target_walk (b ++ p ∷ []) p (room_of walking b p s) t steps is q (leads is w g) c.0 c.1 c.2 in
        sound_walk (b ++ p ∷ []) q k.0 k.1
    sound_asked {b = b} {p = p} {q = q} s (for_next (leads {token = t} {steps = steps} is w g) ref) =
        let c = pass_of b p (refers t steps) is s in
        sound_pass (b ++ p ∷ []) q ref (target_pass (b ++ p ∷ []) p (room_of passing b p s) t steps is q (leads is w g) c.0 c.1 c.2)

    sound_visit : {token : List Step} {b : List Place} {m : Manner} {p : Place} → is_written (T (whole token)) ≡ true → walk_break T token ≡ None → IsVisited T token b m p → Sound m b p
    sound_visit {token} w h begins = sound_walk [] (whole token) (0, 0 + length (walked T [] (whole token)), record { unbroken = h; counted = refl }) w
    sound_visit w h (asked v a) = sound_asked (sound_visit w h v) a

    reference_leads : (m : Manner) (b : List Place) (p : Place) (o : Option Written) → T p ≡ o → is_reference o ≡ true → is_misspelled o ≡ false → Sound m b p → (q : Place) × Leads T p q
    reference_leads m b p (Some (refers t steps)) e r sp s =
        let c = way_of_visit m b p t steps e s in
        let k = way_leads (b ++ p ∷ []) p (room_of m b p s) t steps e c.0 c.1 c.2 in (k.0, k.3)
    reference_leads m b p (Some misspelled) e r sp s = absurd (cc)
    reference_leads m b p (Some (leaf v)) e r sp s = absurd (cc)
    reference_leads m b p (Some (parts c steps)) e r sp s = absurd (cc)
    reference_leads m b p None e r sp s = absurd (cc)

    none_is : {A : Type 0} (o : Option A) → o ≡ None → is_some o ≡ false
    none_is o e = ap is_some e

    pub visits_sound : (token : List Step) (b : List Place) (m : Manner) (p : Place) → is_written (T (whole token)) ≡ true → walk_break T token ≡ None → IsVisited T token b m p
        → Lacks p b × (length b < most_on_branch) × (is_misspelled (T p) ≡ false) × ((is_reference (T p) ≡ true) → (q : Place) × Leads T p q)
    visits_sound token b m p w h v =
        let s = sound_visit w h v in
        let e = enters_of m b p s.clean in
        (since-lacks p b (none_is (since p b) e.is_new), e.room, e.spelled, λ r. reference_leads m b p (T p) refl r e.spelled s)
