-- The branch of each visit is a chain of different places.
use Rattle.std.proofs.Common.{◌≡◌, ℕ, zero, suc, List, [], ◌∷◌, ◌++◌, Bool, true, false, cond, Option, Some, None, refl, sym, ◌∙◌, subst, append_assoc, inl, inr}
use Rattle.std.specs.Prelude.{is_some, ◌⊎◌}
use Rattle.name_path.specs.declared.place.Place.{Place}
use Rattle.alias_ref.specs.Written.{Step, Container, Written, leaf, parts, refers, misspelled, WrittenPlaces, whole, part, is_reference, is_written}
use Rattle.alias_ref.specs.Meaning.{Goes, arrived, onward, Settles}
use Rattle.alias_ref.specs.Visits.{Visit, visit, lost, Way, goes_on, since, same_place, go_if, steps_from, way_of, settled, settle_by, pass_written, unless_stands, pass_visits, visits_each, at_end, walk_written, walk_visits}
use Rattle.alias_ref.specs.Asking.{Manner, by_walking as walking, by_passing as passing, AsksFor, for_part, for_step, for_target, for_next, Asks, Chain, starts, links_last, links, Lacks, lacks_none, lacks, Differ, differ_none, differ_more, IsRingOfPlaces, ring}
use Rattle.alias_ref.proofs.WaysSettle.{DoSettle, way_of-leads, settle_by-settles, pass_visits-settles}
use Rattle.alias_ref.proofs.SamePlaces.{same_place-is, place_same}

abbrev pub Each : (Visit → Type 0) → List Visit → Type 0
Each P [] = Unit {0}
Each P (e ∷ es) = P e × Each P es

pub Each-append : (P : Visit → Type 0) (xs ys : List Visit) → Each P xs → Each P ys → Each P (xs ++ ys)
Each-append P [] ys h k = k
Each-append P (x ∷ xs) ys (h, hs) k = (h, Each-append P xs ys hs k)

pub goes_on_each : (P : Visit → Type 0) (xs : List Visit) (o : Option Place) (next : Place → Way) → Each P xs → ((q : Place) → o ≡ Some q → Each P (next q).seen) → Each P (goes_on xs o next).seen
goes_on_each P xs None next h k = h
goes_on_each P xs (Some q) next h k = Each-append P xs (next q).seen h (k q refl)

pub at_end_each : (P : Visit → Type 0) (xs : List Visit) (o : Option Place) (walk : Place → List Visit) → Each P xs → ((q : Place) → o ≡ Some q → Each P (walk q)) → Each P (at_end xs o walk)
at_end_each P xs None walk h k = h
at_end_each P xs (Some q) walk h k = Each-append P xs (walk q) h (k q refl)

pub go_if_each : (P : Visit → Type 0) (b : Bool) (home : Place) (w : Way) → P (lost home) → (b ≡ true → Each P w.seen) → Each P (go_if b home w).seen
go_if_each P true home w l h = h refl
go_if_each P false home w l h = (l, tt)

-- the places of the branch differ, and each asks for the next
abbrev pub Good : WrittenPlaces → Visit → Type 0
Good T (visit b p) = Chain T b p × Differ b
Good T (lost p) = Unit {0}

Lacks-end : {p q : Place} {b : List Place} → Lacks p b → (p ≡ q → ⊥) → Lacks p (b ++ q ∷ [])
Lacks-end lacks_none h = lacks h lacks_none
Lacks-end (lacks k ks) h = lacks k (Lacks-end ks h)

Differ-end : {q : Place} {b : List Place} → Differ b → Lacks q b → Differ (b ++ q ∷ [])
Differ-end differ_none h = differ_more lacks_none differ_none
Differ-end (differ_more {p} k ks) (lacks h hs) = differ_more (Lacks-end k (λ e. h (sym e))) (Differ-end ks hs)

cond_first : (c : Bool) (p : Place) (b : List Place) (q : Place) → c ≡ same_place q p → is_some (cond c (Some (q ∷ b)) (since p b)) ≡ false → (c ≡ false) × (is_some (since p b) ≡ false)
cond_first true p b q e h = cc
cond_first false p b q e h = (refl, h)

pub since-lacks : (p : Place) (b : List Place) → is_some (since p b) ≡ false → Lacks p b
since-lacks p [] h = lacks_none
since-lacks p (q ∷ b) h =
    let k = cond_first (same_place q p) p b q refl h in
    lacks (λ e. let t : true ≡ false = sym (place_same q p (sym e)) ∙ k.0 in cc) (since-lacks p b k.1)

module _ (T : WrittenPlaces) where
  Chain-end : {p q : Place} {b : List Place} → Chain T b p → Asks T p q → Chain T (b ++ p ∷ []) q
  Chain-end starts a = links_last a
  Chain-end (links_last k) a = links k (links_last a)
  Chain-end (links k ks) a = links k (Chain-end ks a)

  Chain-rest : {p q : Place} {b : List Place} → Chain T (q ∷ b) p → Chain T b p
  Chain-rest (links_last k) = starts
  Chain-rest (links k ks) = ks

  Differ-rest : {q : Place} {b : List Place} → Differ (q ∷ b) → Differ b
  Differ-rest (differ_more k ks) = ks

  ring_here : (c : Bool) (p q : Place) (b r : List Place) → c ≡ same_place q p → cond c (Some (q ∷ b)) (since p b) ≡ Some r → ((same_place q p ≡ true) × (q ∷ b ≡ r)) ⊎ (since p b ≡ Some r)
  ring_here true p q b r e h = inl (sym e, cc)
  ring_here false p q b r e h = inr h

  -- what closes on a good branch is a ring
  pub since-ring : (p : Place) (b r : List Place) → Chain T b p → Differ b → since p b ≡ Some r → IsRingOfPlaces T r
  since-ring p [] r ch df h = cc
  since-ring p (q ∷ b) r ch df h = elim (ring_here (same_place q p) p q b r refl h) as (λ _. IsRingOfPlaces T r) [
    | inl (s, e) ↦ let same : p ≡ q = sym (same_place-is q p s) in subst (λ x. IsRingOfPlaces T x) e (ring df (subst (λ x. Chain T (q ∷ b) x) same ch))
    | inr e ↦ since-ring p b r (Chain-rest ch) (Differ-rest df) e
  ]

-- What holds of each visit by how its place is visited and below which branch, where it holds of the first and of whatever is asked for.

-- a visit that is so in some manner
abbrev pub HasBy : (Manner → List Place → Place → Type 0) → Visit → Type 0
HasBy Q (visit b p) = (m : Manner) × Q m b p
HasBy Q (lost p) = Unit {0}

module _ (T : WrittenPlaces) (Q : Manner → List Place → Place → Type 0) (on : (m n : Manner) (b : List Place) (p q : Place) → Q m b p → is_some (since p b) ≡ false → AsksFor T m p n q → Q n (b ++ p ∷ []) q) where
  -- whatever is passed or walked below a place that may ask for it is so
  abbrev IsSoBelow : (Place → List Visit) → Manner → Place → Manner → Type 0
  IsSoBelow f m p n = (q : Place) → AsksFor T m p n q → Each (HasBy Q) (f q)

  settled_each : (pass : Place → Way) (p q : Place) (b : Bool) → is_reference (T q) ≡ b → (is_reference (T q) ≡ true → Each (HasBy Q) (pass q).seen) → Each (HasBy Q) (settled b pass q).seen
  settled_each pass p q true e h = h e
  settled_each pass p q false e h = tt

  Goes-end : {p q r : Place} {steps : List Step} → Goes T p steps q → (s : Step) → Settles T q r → is_written (T (part r s)) ≡ true → Goes T p (steps ++ s ∷ []) (part r s)
  Goes-end arrived s a w = onward a w arrived
  Goes-end (onward b x g) s a w = onward b x (Goes-end g s a w)

  module _ (pass : Place → Way) (ok : DoSettle T pass) (manner : Manner) (home : Place) (t : List Step) (all : List Step) (is : T home ≡ Some (refers t all)) (w0 : is_written (T (whole t)) ≡ true) (below : IsSoBelow (λ q. (pass q).seen) manner home passing) where
    steps_each : (p : Place) (before steps : List Step) → all ≡ before ++ steps → Goes T (whole t) before p → Each (HasBy Q) (steps_from T (settle_by T pass) home p steps).seen
    unfolding steps_from
    steps_each p before [] e g = tt
    steps_each p before (s ∷ steps) e g =
        let settle : Place → Way = settle_by T pass in
        let next : Place → Way = λ x. go_if (is_written (T (part x s))) home (steps_from T settle home (part x s) steps) in
        goes_on_each (HasBy Q) (settle p).seen (settle p).ends next
        (settled_each pass home p (is_reference (T p)) refl (λ r. below p (for_step before steps s is w0 e g r)))
        (λ q k. go_if_each (HasBy Q) (is_written (T (part q s))) home (steps_from T settle home (part q s) steps) tt
        (λ w. steps_each (part q s) (before ++ s ∷ []) steps (e ∙ sym (append_assoc before (s ∷ []) steps)) (Goes-end g s (settle_by-settles T pass ok p q k) w)))

  way_each : (pass : Place → Way) → DoSettle T pass → (manner : Manner) (home : Place) (t : List Step) (steps : List Step) → T home ≡ Some (refers t steps) → IsSoBelow (λ q. (pass q).seen) manner home passing → Each (HasBy Q) (way_of T (settle_by T pass) home t steps).seen
  way_each pass ok manner home t steps is below =
      go_if_each (HasBy Q) (is_written (T (whole t))) home (steps_from T (settle_by T pass) home (whole t) steps) tt
      (λ w. steps_each pass ok manner home t steps is w below (whole t) [] steps refl arrived)

  pass_written_each : (pass : Place → Way) → DoSettle T pass → (p : Place) (o : Option Written) → T p ≡ o → IsSoBelow (λ q. (pass q).seen) passing p passing → Each (HasBy Q) (pass_written T (settle_by T pass) p o).seen
  pass_written_each pass ok p (Some (refers t steps)) e below =
      let settle : Place → Way = settle_by T pass in
      let w : Way = way_of T settle p t steps in
      goes_on_each (HasBy Q) w.seen w.ends settle (way_each pass ok passing p t steps e below)
      (λ q k. settled_each pass p q (is_reference (T q)) refl (λ r. below q (for_next (way_of-leads T settle (settle_by-settles T pass ok) p q t steps e k) r)))
  pass_written_each pass ok p (Some misspelled) e below = tt
  pass_written_each pass ok p (Some (leaf n)) e below = tt
  pass_written_each pass ok p (Some (parts c steps)) e below = tt
  pass_written_each pass ok p None e below = tt

  unless_each : (b : Bool) (w : Way) → (b ≡ false → Each (HasBy Q) w.seen) → Each (HasBy Q) (unless_stands b w).seen
  unless_each true w h = tt
  unless_each false w h = h refl

  pub pass_each : (n : ℕ) (b : List Place) (p : Place) → Q passing b p → Each (HasBy Q) (pass_visits T n b p).seen
  unfolding pass_visits
  pass_each zero b p h = ((passing, h), tt)
  pass_each (suc n) b p h =
      let pass : Place → Way = pass_visits T n (b ++ p ∷ []) in (
        (passing, h),
        unless_each (is_some (since p b)) (pass_written T (settle_by T pass) p (T p))
            (λ s. pass_written_each pass (pass_visits-settles T n (b ++ p ∷ [])) p (T p) refl
            (λ q a. pass_each n (b ++ p ∷ []) q (on passing passing b p q h s a))),
      )

  each_part : {c : Container} (walk : Place → List Visit) (p : Place) (all before steps : List Step) → T p ≡ Some (parts c all) → all ≡ before ++ steps → IsSoBelow walk walking p walking → Each (HasBy Q) (visits_each walk p steps)
  unfolding visits_each
  each_part walk p all before [] is e below = tt
  each_part walk p all before (s ∷ steps) is e below =
      Each-append (HasBy Q) (walk (part p s)) (visits_each walk p steps) (below (part p s) (for_part before steps s is e))
      (each_part walk p all (before ++ s ∷ []) steps is (e ∙ sym (append_assoc before (s ∷ []) steps)) below)

  walk_written_each : (pass : Place → Way) → DoSettle T pass → (walk : Place → List Visit) (p : Place) (o : Option Written) → T p ≡ o → IsSoBelow (λ q. (pass q).seen) walking p passing → IsSoBelow walk walking p walking → Each (HasBy Q) (walk_written T (settle_by T pass) walk p o)
  walk_written_each pass ok walk p (Some (refers t steps)) e below walks =
      let settle : Place → Way = settle_by T pass in
      let w : Way = way_of T settle p t steps in
      at_end_each (HasBy Q) w.seen w.ends walk (way_each pass ok walking p t steps e below)
      (λ q k. walks q (for_target (way_of-leads T settle (settle_by-settles T pass ok) p q t steps e k)))
  walk_written_each pass ok walk p (Some misspelled) e below walks = tt
  walk_written_each pass ok walk p (Some (leaf n)) e below walks = tt
  walk_written_each pass ok walk p (Some (parts c steps)) e below walks = each_part walk p steps [] steps e refl walks
  walk_written_each pass ok walk p None e below walks = tt

  if_each : (b : Bool) (es : List Visit) → (b ≡ false → Each (HasBy Q) es) → Each (HasBy Q) (cond b [] es)
  if_each true es h = tt
  if_each false es h = h refl

  pub walk_each : (n : ℕ) (b : List Place) (p : Place) → Q walking b p → Each (HasBy Q) (walk_visits T n b p)
  unfolding walk_visits
  walk_each zero b p h = ((walking, h), tt)
  walk_each (suc n) b p h =
      let pass : Place → Way = pass_visits T n (b ++ p ∷ []) in
      let walk : Place → List Visit = walk_visits T n (b ++ p ∷ []) in (
        (walking, h),
        if_each (is_some (since p b)) (walk_written T (settle_by T pass) walk p (T p))
            (λ s. walk_written_each pass (pass_visits-settles T n (b ++ p ∷ [])) walk p (T p) refl
            (λ q a. pass_each n (b ++ p ∷ []) q (on walking passing b p q h s a))
            (λ q a. walk_each n (b ++ p ∷ []) q (on walking walking b p q h s a))),
      )

-- The places of a branch differ, and each asks for the next.

abbrev IsChain : WrittenPlaces → Manner → List Place → Place → Type 0
IsChain T m b p = Chain T b p × Differ b

module _ (T : WrittenPlaces) where
  longer : (m n : Manner) (b : List Place) (p q : Place) → IsChain T m b p → is_some (since p b) ≡ false → AsksFor T m p n q → IsChain T n (b ++ p ∷ []) q
  longer m n b p q h s a = (Chain-end T h.0 (m, n, a), Differ-end h.1 (since-lacks p b s))

  good_of : (es : List Visit) → Each (HasBy (IsChain T)) es → Each (Good T) es
  good_of [] h = tt
  good_of (visit b p ∷ es) h = (h.0.1, good_of es h.1)
  good_of (lost p ∷ es) h = (tt, good_of es h.1)

  pub walk_visits-good : (n : ℕ) (b : List Place) (p : Place) → Chain T b p → Differ b → Each (Good T) (walk_visits T n b p)
  walk_visits-good n b p ch df = good_of (walk_visits T n b p) (walk_each T (IsChain T) longer n b p (ch, df))
