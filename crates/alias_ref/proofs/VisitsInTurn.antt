-- The visits of a place that has no break come as they are asked for.
use Rattle.std.proofs.Common.{◌≡◌, ℕ, ◌+◌, ◌-◌, ◌<◌, ◌≤◌, List, [], ◌∷◌, ◌++◌, Bool, true, false, Option, Some, None, length, refl, sym, ap, ◌∙◌, subst, arith, length-append, append-nil, append_assoc}
use Rattle.std.specs.Prelude.{map}
use Rattle.name_path.specs.declared.place.Place.{Place}
use Rattle.alias_ref.specs.Written.{Step, Written, leaf, parts, refers, misspelled, WrittenPlaces, whole, part, is_reference, is_misspelled, is_written}
use Rattle.alias_ref.specs.Meaning.{Settles}
use Rattle.alias_ref.specs.Visits.{Visit, visit, lost, Way, after_visits, goes_on, then_go, go_if, steps_from, way_of, settle_by, pass_written, visits_each, at_end, walk_written, ref_break, first_break, most_on_branch, walked, passed}
use Rattle.alias_ref.specs.Asking.{Manner, by_walking as walking, by_passing as passing}
use Rattle.alias_ref.specs.Turns.{Asked, to_walk, to_pass, StepsAsk, no_step, from_here, from_behind, AsksInTurn, of_leaf, of_parts, of_end, of_target, of_next, of_last, visits_of, visits_in_turn}
use Rattle.alias_ref.specs.Laws.{ComeInTurn}
use Rattle.alias_ref.specs.inner.Seen.{Clean}
use Rattle.alias_ref.specs.declared.fault.RefRule.TheVariants as rule
use Rattle.alias_ref.proofs.FirstBreaks.{Enters, enters, walked-enters, passed-enters, walk_visits-begins, pass_visits-begins}
use Rattle.alias_ref.proofs.UnbrokenMeans.{clean_front, clean_first, HasEnd, pass_end, front_of}
use Rattle.alias_ref.proofs.WaysSettle.{pass_visits-settles}
use Rattle.alias_ref.proofs.WalksInTurns.{goes_on-front, settle_passes, settle_stays}

module _ (T : WrittenPlaces) where
  -- what a reference asks for, and where it ends, where its way has no break
  record WaySaid (b : List Place) (p : Place) (steps : List Step) (w : Way) : Type 0 where
    asked : List Asked
    end : Place
    asks : StepsAsk T p steps asked end
    seen : w.seen ≡ visits_in_turn T b asked
    ends : w.ends ≡ Some end

  asked_after : (b : List Place) (xs ys : List Asked) → visits_in_turn T b (xs ++ ys) ≡ visits_in_turn T b xs ++ visits_in_turn T b ys
  unfolding visits_in_turn
  asked_after b [] ys = refl
  asked_after b (a ∷ xs) ys = ap (λ es. visits_of T b a.manner a.place ++ es) (asked_after b xs ys) ∙ sym (append_assoc (visits_of T b a.manner a.place) (visits_in_turn T b xs) (visits_in_turn T b ys))

  asked_alone : (b : List Place) (a : Asked) → visits_in_turn T b (a ∷ []) ≡ visits_of T b a.manner a.place
  unfolding visits_in_turn
  asked_alone b a = append-nil (visits_of T b a.manner a.place)

  asked_last : (b : List Place) (xs : List Asked) (a : Asked) (es : List Visit) → es ≡ visits_in_turn T b xs → es ++ visits_of T b a.manner a.place ≡ visits_in_turn T b (xs ++ a ∷ [])
  asked_last b xs a es e =
      ap (λ ys. ys ++ visits_of T b a.manner a.place) e
      ∙ ap (λ ys. visits_in_turn T b xs ++ ys) (sym (asked_alone b a))
      ∙ sym (asked_after b xs (a ∷ []))

  parts_asked : (b : List Place) (p : Place) (steps : List Step) → visits_each (walked T b) p steps ≡ visits_in_turn T b (map (λ s. to_walk (part p s)) steps)
  unfolding visits_each visits_in_turn
  parts_asked b p [] = refl
  parts_asked b p (s ∷ steps) = ap (λ es. walked T b (part p s) ++ es) (parts_asked b p steps)

  is_no_end : {n k : ℕ} (home : Place) → Clean T n k (lost home ∷ []) → ⊥
  is_no_end home c = let h : Some (ref_break rule.RefTarget home) ≡ None = (clean_first T (lost home) [] c).0 in cc

  found : {n k : ℕ} (v : Bool) (home : Place) (w : Way) → Clean T n k (go_if v home w).seen → v ≡ true
  found true home w c = refl
  found false home w c = absurd (is_no_end home c)

  on_found : (v : Bool) (home : Place) (w : Way) → v ≡ true → go_if v home w ≡ w
  on_found v home w e = ap (λ x. go_if x home w) e

  passed_end : (b : List Place) → length b ≤ most_on_branch → (p : Place) (n k : ℕ) → is_written (T p) ≡ true → Clean T n k (passed T b p).seen → HasEnd T (passed T b p)
  unfolding passed
  passed_end b room p n k w c = pass_end T (most_on_branch - length b) b (omega (arith, room)) p n k w c

  passed_settles : (b : List Place) (p q : Place) → (passed T b p).ends ≡ Some q → Settles T p q
  unfolding passed
  passed_settles b p q e = pass_visits-settles T (most_on_branch - length b) b p q e

  module _ (b : List Place) (room : length b ≤ most_on_branch) (home : Place) where
    abbrev settle : Place → Way
    settle = settle_by T (passed T b)

    -- the way from behind a step
    abbrev next : Step → List Step → Place → Way
    next s steps x = go_if (is_written (T (part x s))) home (steps_from T settle home (part x s) steps)

    -- what a step adds where the place before it is no reference, and where it is one
    here_said : (p : Place) (s : Step) (steps : List Step) → is_reference (T p) ≡ false → is_written (T (part p s)) ≡ true → WaySaid b (part p s) steps (steps_from T settle home (part p s) steps)
        → WaySaid b p (s ∷ steps) (steps_from T settle home (part p s) steps)
    here_said p s steps f w l = record { asked = l.asked; end = l.end; asks = from_here f w l.asks; seen = l.seen; ends = l.ends }

    behind_said : (p r : Place) (s : Step) (steps : List Step) → is_reference (T p) ≡ true → (passed T b p).ends ≡ Some r → is_written (T (part r s)) ≡ true → WaySaid b (part r s) steps (steps_from T settle home (part r s) steps)
        → WaySaid b p (s ∷ steps) (after_visits (passed T b p).seen (steps_from T settle home (part r s) steps))
    unfolding visits_in_turn
    behind_said p r s steps f e w l = record {
      asked = to_pass p ∷ l.asked;
      end = l.end;
      asks = from_behind f (passed_settles b p r e) w l.asks;
      seen = ap (λ es. (passed T b p).seen ++ es) l.seen;
      ends = l.ends;
    }

    -- the turn of one step, where the turns of the later ones are known
    abbrev Later : List Step → ℕ → Type 0
    Later steps k = (x : Place) (m : ℕ) → is_written (T x) ≡ true → Clean T m k (steps_from T settle home x steps).seen → WaySaid b x steps (steps_from T settle home x steps)

    abbrev turn : Place → Step → List Step → Way
    turn p s steps = goes_on (settle p).seen (settle p).ends (next s steps)

    said_here : (p : Place) (s : Step) (steps : List Step) (n k : ℕ) → is_reference (T p) ≡ false → Clean T n k (turn p s steps).seen → Later steps k → WaySaid b p (s ∷ steps) (turn p s steps)
    said_here p s steps n k f c later =
        let same : turn p s steps ≡ next s steps p = ap (λ w. goes_on w.seen w.ends (next s steps)) (settle_stays T (passed T b) p f) in
        let w = found (is_written (T (part p s))) home (steps_from T settle home (part p s) steps) (subst (λ x. Clean T n k x.seen) same c) in
        let on : turn p s steps ≡ steps_from T settle home (part p s) steps = same ∙ on_found (is_written (T (part p s))) home (steps_from T settle home (part p s) steps) w in
        subst (WaySaid b p (s ∷ steps)) (sym on) (here_said p s steps f w (later (part p s) n w (subst (λ x. Clean T n k x.seen) on c)))

    -- the way goes on from where a reference that is passed ends
    on_behind : (p r : Place) (s : Step) (steps : List Step) → is_reference (T p) ≡ true → (passed T b p).ends ≡ Some r → turn p s steps ≡ after_visits (passed T b p).seen (next s steps r)
    on_behind p r s steps f e = ap (λ w. goes_on w.seen w.ends (next s steps)) (settle_passes T (passed T b) p f) ∙ ap (λ o. goes_on (passed T b p).seen o (next s steps)) e

    passed_has : (p : Place) (s : Step) (steps : List Step) (n k : ℕ) → is_written (T p) ≡ true → is_reference (T p) ≡ true → Clean T n k (turn p s steps).seen → HasEnd T (passed T b p)
    passed_has p s steps n k there f c =
        let same = settle_passes T (passed T b) p f in
        let front = goes_on-front (settle p).seen (settle p).ends (next s steps) in
        let begun = clean_front T (settle p).seen front.0 (subst (Clean T n k) front.1 c) in
        passed_end b room p n begun.0 there (subst (λ w. Clean T n begun.0 w.seen) same begun.1)

    said_behind : (p : Place) (s : Step) (steps : List Step) (n k : ℕ) → is_written (T p) ≡ true → is_reference (T p) ≡ true → Clean T n k (turn p s steps).seen → Later steps k → WaySaid b p (s ∷ steps) (turn p s steps)
    said_behind p s steps n k there f c later =
        let has = passed_has p s steps n k there f c in
        let at = on_behind p has.0 s steps f has.1 in
        let split = clean_front T (passed T b p).seen (next s steps has.0).seen (subst (λ w. Clean T n k w.seen) at c) in
        let w = found (is_written (T (part has.0 s))) home (steps_from T settle home (part has.0 s) steps) split.2 in
        let on = on_found (is_written (T (part has.0 s))) home (steps_from T settle home (part has.0 s) steps) w in
        let l = later (part has.0 s) split.0 w (subst (λ x. Clean T split.0 k x.seen) on split.2) in
        let all : turn p s steps ≡ after_visits (passed T b p).seen (steps_from T settle home (part has.0 s) steps) = at ∙ ap (after_visits (passed T b p).seen) on in
        subst (WaySaid b p (s ∷ steps)) (sym all) (behind_said p has.0 s steps f has.1 w l)

    said_by : (p : Place) (s : Step) (steps : List Step) (n k : ℕ) (f : Bool) → is_reference (T p) ≡ f → is_written (T p) ≡ true → Clean T n k (turn p s steps).seen → Later steps k → WaySaid b p (s ∷ steps) (turn p s steps)
    said_by p s steps n k true e w c later = said_behind p s steps n k w e c later
    said_by p s steps n k false e w c later = said_here p s steps n k e c later

    steps_said : (p : Place) (steps : List Step) (n k : ℕ) → is_written (T p) ≡ true → Clean T n k (steps_from T settle home p steps).seen → WaySaid b p steps (steps_from T settle home p steps)
    unfolding steps_from visits_in_turn
    steps_said p [] n k w c = record { asked = []; end = p; asks = no_step; seen = refl; ends = refl }
    steps_said p (s ∷ steps) n k w c = said_by p s steps n k (is_reference (T p)) refl w c (λ x m v d. steps_said x steps m k v d)

    record RefSaid (t steps : List Step) : Type 0 where
      there : is_written (T (whole t)) ≡ true
      way : WaySaid b (whole t) steps (way_of T settle home t steps)

    way_said : (t steps : List Step) (n k : ℕ) → Clean T n k (way_of T settle home t steps).seen → RefSaid t steps
    way_said t steps n k c =
        let w = found (is_written (T (whole t))) home (steps_from T settle home (whole t) steps) c in
        let on = on_found (is_written (T (whole t))) home (steps_from T settle home (whole t) steps) w in
        let l = steps_said (whole t) steps n k w (subst (λ x. Clean T n k x.seen) on c) in
        record { there = w; way = record { asked = l.asked; end = l.end; asks = l.asks; seen = ap (λ x. x.seen) on ∙ l.seen; ends = ap (λ x. x.ends) on ∙ l.ends } }

  -- what a visit asks for, after itself
  record Said (b : List Place) (m : Manner) (p : Place) (es : List Visit) : Type 0 where
    asked : List Asked
    asks : AsksInTurn T m p asked
    visits : es ≡ visits_in_turn T b asked

  nothing_said : (b : List Place) (m : Manner) (p : Place) → AsksInTurn T m p [] → Said b m p []
  unfolding visits_in_turn
  nothing_said b m p a = record { asked = []; asks = a; visits = refl }

  module _ (b : List Place) (room : length b ≤ most_on_branch) (p : Place) where
    abbrev way : List Step → List Step → Way
    way t steps = way_of T (settle_by T (passed T b)) p t steps

    walk_said : (w : Written) (n k : ℕ) → T p ≡ Some w → is_misspelled (T p) ≡ false → Clean T n k (walk_written T (settle_by T (passed T b)) (walked T b) p (Some w)) → Said b walking p (walk_written T (settle_by T (passed T b)) (walked T b) p (Some w))
    walk_said (leaf v) n k e s c = nothing_said b walking p (of_leaf e)
    walk_said (parts x steps) n k e s c = record { asked = map (λ r. to_walk (part p r)) steps; asks = of_parts e; visits = parts_asked b p steps }
    walk_said misspelled n k e s c = let bad : is_misspelled (T p) ≡ true = ap is_misspelled e in cc
    walk_said (refers t steps) n k e s c =
        let front = front_of T (way t steps) (walked T b) n k (way t steps).ends c in
        let r = way_said b room p t steps n front.0 front.1 in
        record {
          asked = r.way.asked ++ to_walk r.way.end ∷ [];
          asks = of_target e r.there r.way.asks;
          visits = ap (λ o. at_end (way t steps).seen o (walked T b)) r.way.ends ∙ asked_last b r.way.asked (to_walk r.way.end) (way t steps).seen r.way.seen;
        }

    next_said : (t steps : List Step) → T p ≡ Some (refers t steps) → (r : RefSaid b room p t steps) (f : Bool) → is_reference (T r.way.end) ≡ f → Said b passing p (then_go (way t steps) (settle_by T (passed T b))).seen
    next_said t steps e r true f = record {
      asked = r.way.asked ++ to_pass r.way.end ∷ [];
      asks = of_next e r.there r.way.asks f;
      visits = ap (λ o. (goes_on (way t steps).seen o (settle_by T (passed T b))).seen) r.way.ends
          ∙ ap (λ x. (way t steps).seen ++ x.seen) (settle_passes T (passed T b) r.way.end f)
          ∙ asked_last b r.way.asked (to_pass r.way.end) (way t steps).seen r.way.seen;
    }
    next_said t steps e r false f = record {
      asked = r.way.asked;
      asks = of_last e r.there r.way.asks f;
      visits = ap (λ o. (goes_on (way t steps).seen o (settle_by T (passed T b))).seen) r.way.ends
          ∙ ap (λ x. (way t steps).seen ++ x.seen) (settle_stays T (passed T b) r.way.end f)
          ∙ append-nil (way t steps).seen
          ∙ r.way.seen;
    }

    pass_said : (w : Written) (n k : ℕ) → T p ≡ Some w → is_misspelled (T p) ≡ false → Clean T n k (pass_written T (settle_by T (passed T b)) p (Some w)).seen → Said b passing p (pass_written T (settle_by T (passed T b)) p (Some w)).seen
    pass_said (leaf v) n k e s c = nothing_said b passing p (of_leaf e)
    pass_said (parts x steps) n k e s c = nothing_said b passing p (of_end e)
    pass_said misspelled n k e s c = let bad : is_misspelled (T p) ≡ true = ap is_misspelled e in cc
    pass_said (refers t steps) n k e s c =
        let front = goes_on-front (way t steps).seen (way t steps).ends (settle_by T (passed T b)) in
        let begun = clean_front T (way t steps).seen front.0 (subst (Clean T n k) front.1 c) in
        let r = way_said b room p t steps n begun.0 begun.1 in
        next_said t steps e r (is_reference (T r.way.end)) refl

  longer : (b : List Place) (p : Place) → length b < most_on_branch → length (b ++ p ∷ []) ≤ most_on_branch
  longer b p h = omega (arith, h, length-append b (p ∷ []))

  in_turn : (b : List Place) (m : Manner) (p : Place) (es : List Visit) → visits_of T b m p ≡ visit b p ∷ es → Said (b ++ p ∷ []) m p es → ComeInTurn T b m p
  in_turn b m p es e s = record { asked = s.asked; asks = s.asks; visits = e ∙ ap (λ xs. visit b p ∷ xs) s.visits }

  walked_in_turn : (b : List Place) (p : Place) (w : Written) (n k : ℕ) → T p ≡ Some w → Enters T b p → Clean T n k (walked T b p) → ComeInTurn T b walking p
  walked_in_turn b p w n k is e c =
      let at = walked-enters T b p (Some w) e is in
      let written : List Visit = walk_written T (settle_by T (passed T (b ++ p ∷ []))) (walked T (b ++ p ∷ [])) p (Some w) in
      let d = clean_first T (visit b p) written (subst (Clean T n k) at c) in
      in_turn b walking p written at (walk_said (b ++ p ∷ []) (longer b p e.room) p w (n + 1) k is e.spelled d.1)

  passed_in_turn : (b : List Place) (p : Place) (w : Written) (n k : ℕ) → T p ≡ Some w → Enters T b p → Clean T n k (passed T b p).seen → ComeInTurn T b passing p
  passed_in_turn b p w n k is e c =
      let at = ap (λ x. x.seen) (passed-enters T b p (Some w) e is) in
      let written : List Visit = (pass_written T (settle_by T (passed T (b ++ p ∷ []))) p (Some w)).seen in
      let d = clean_first T (visit b p) written (subst (Clean T n k) at c) in
      in_turn b passing p written at (pass_said (b ++ p ∷ []) (longer b p e.room) p w (n + 1) k is e.spelled d.1)

  walked_begins : (b : List Place) (p : Place) → (es : List Visit) × (walked T b p ≡ visit b p ∷ es)
  unfolding walked
  walked_begins b p = walk_visits-begins T (most_on_branch - length b) b p

  passed_begins : (b : List Place) (p : Place) → (es : List Visit) × ((passed T b p).seen ≡ visit b p ∷ es)
  unfolding passed
  passed_begins b p = pass_visits-begins T (most_on_branch - length b) b p

  first_enters : (b : List Place) (p : Place) (n k : ℕ) (es all : List Visit) → all ≡ visit b p ∷ es → Clean T n k all → Enters T b p
  first_enters b p n k es all e c = enters T n b p (clean_first T (visit b p) es (subst (Clean T n k) e c)).0

  visits_come : (b : List Place) (m : Manner) (p : Place) (w : Written) (n k : ℕ) → T p ≡ Some w → Clean T n k (visits_of T b m p) → ComeInTurn T b m p
  visits_come b walking p w n k is c = let f = walked_begins b p in walked_in_turn b p w n k is (first_enters b p n k f.0 (walked T b p) f.1 c) c
  visits_come b passing p w n k is c = let f = passed_begins b p in passed_in_turn b p w n k is (first_enters b p n k f.0 (passed T b p).seen f.1 c) c

  visits_by : (b : List Place) (m : Manner) (p : Place) (o : Option Written) (n k : ℕ) → T p ≡ o → is_written o ≡ true → Clean T n k (visits_of T b m p) → ComeInTurn T b m p
  visits_by b m p None n k is w c = cc
  visits_by b m p (Some x) n k is w c = visits_come b m p x n k is c

  pub visits_turn : (b : List Place) (m : Manner) (p : Place) (n : ℕ) → is_written (T p) ≡ true → first_break T n (visits_of T b m p) ≡ None → ComeInTurn T b m p
  visits_turn b m p n w h = visits_by b m p (T p) n (n + length (visits_of T b m p)) refl w (record { unbroken = h; counted = refl })
