-- What a break tells of its place holds there.
use Rattle.std.proofs.Common.{◌≡◌, ℕ, zero, suc, ◌+◌, ◌-◌, List, [], ◌∷◌, ◌++◌, Bool, true, false, cond, Option, Some, None, length, refl, sym, ap, ◌∙◌, subst, inl, inr}
use Rattle.std.specs.Prelude.{is_some, nat_le}
use Rattle.name_path.specs.declared.place.Place.{Place}
use Rattle.alias_ref.specs.Written.{Step, Written, leaf, parts, refers, misspelled, WrittenPlaces, whole, part, is_reference, is_misspelled, is_written}
use Rattle.alias_ref.specs.Meaning.{Leads, leads, Goes, onward, Settles}
use Rattle.alias_ref.specs.Visits.{Visit, visit, lost, Way, since, go_if, steps_from, way_of, settled, settle_by, pass_written, unless_stands, pass_visits, visits_each, walk_written, walk_visits, RefBreak, ref_break, most_on_branch, most_visits, break_if, own_break, first_break, walked, walk_break}
use Rattle.alias_ref.specs.declared.fault.RefRule.TheVariants as rule
use Rattle.alias_ref.proofs.BranchesAreChains.{Each, Each-append, goes_on_each, at_end_each}
use Rattle.alias_ref.proofs.OneMeaning.{goes_along, settle_once}
use Rattle.alias_ref.proofs.RingsAreReal.{option_or_is}
use Rattle.alias_ref.proofs.WaysSettle.{DoSettle, settle_by-settles, pass_visits-settles}

abbrev pub got : RefBreak → Option RefBreak → RefBreak
got b (Some x) = x
got b None = b

module _ (T : WrittenPlaces) where
  -- a reference that is lost leads nowhere
  abbrev pub LeadsNowhere : Visit → Type 0
  LeadsNowhere (visit b p) = Unit {0}
  LeadsNowhere (lost p) = (is_reference (T p) ≡ true) × ((q : Place) → Leads T p q → ⊥)

  settled_true : (pass : Place → Way) (p : Place) (b : Bool) → ((q : Place) → Each LeadsNowhere (pass q).seen) → Each LeadsNowhere (settled b pass p).seen
  settled_true pass p true h = h p
  settled_true pass p false h = tt

  module _ (settle : Place → Way) (ok : DoSettle T settle) (true_ : (q : Place) → Each LeadsNowhere (settle q).seen) (home : Place) (refers_ : is_reference (T home) ≡ true) where
    steps_true : (p : Place) (steps : List Step) → ((q : Place) → Leads T home q → Goes T p steps q) → Each LeadsNowhere (steps_from T settle home p steps).seen
    unfolding steps_from
    steps_true p [] h = tt
    steps_true p (s ∷ steps) h =
        let next : Place → Way = λ x. go_if (is_written (T (part x s))) home (steps_from T settle home (part x s) steps) in
        goes_on_each LeadsNowhere (settle p).seen (settle p).ends next (true_ p)
        (λ q e. turn q (ok p q e) (is_written (T (part q s))) refl (steps_true (part q s) steps))
      where
        behind : (q r : Place) → Settles T p q → Goes T p (s ∷ steps) r → (is_written (T (part q s)) ≡ true) × Goes T (part q s) steps r
        behind q r a (onward {q = k} b w g) =
            let same : k ≡ q = settle_once T b a in
            (subst (λ x. is_written (T (part x s)) ≡ true) same w, subst (λ x. Goes T (part x s) steps r) same g)

        turn : (q : Place) → Settles T p q → (b : Bool) → is_written (T (part q s)) ≡ b → (((r : Place) → Leads T home r → Goes T (part q s) steps r) → Each LeadsNowhere (steps_from T settle home (part q s) steps).seen)
            → Each LeadsNowhere (go_if b home (steps_from T settle home (part q s) steps)).seen
        turn q a true e rec = rec (λ r l. (behind q r a (h r l)).1)
        turn q a false e rec = ((refers_, λ r l. let k : true ≡ false = sym (behind q r a (h r l)).0 ∙ e in cc), tt)

    way_true : (t steps : List Step) → T home ≡ Some (refers t steps) → Each LeadsNowhere (way_of T settle home t steps).seen
    way_true t steps is = turn (is_written (T (whole t))) refl
      where
        along : (q : Place) → Leads T home q → (is_written (T (whole t)) ≡ true) × Goes T (whole t) steps q
        along q (leads {token = u} {steps = us} e w g) =
            let f = sym is ∙ e in
            let same : u ≡ t = cc in
            (subst (λ x. is_written (T (whole x)) ≡ true) same w, goes_along T f g)

        turn : (b : Bool) → is_written (T (whole t)) ≡ b → Each LeadsNowhere (go_if b home (steps_from T settle home (whole t) steps)).seen
        turn true e = steps_true (whole t) steps (λ q l. (along q l).1)
        turn false e = ((refers_, λ q l. let k : true ≡ false = sym (along q l).0 ∙ e in cc), tt)

  pass_written_true : (settle : Place → Way) → DoSettle T settle → ((q : Place) → Each LeadsNowhere (settle q).seen) → (p : Place) (o : Option Written) → T p ≡ o → Each LeadsNowhere (pass_written T settle p o).seen
  pass_written_true settle ok h p (Some (refers t steps)) e =
      let w : Way = way_of T settle p t steps in
      goes_on_each LeadsNowhere w.seen w.ends settle (way_true settle ok h p (ap is_reference e) t steps e) (λ q k. h q)
  pass_written_true settle ok h p (Some misspelled) e = tt
  pass_written_true settle ok h p (Some (leaf v)) e = tt
  pass_written_true settle ok h p (Some (parts c steps)) e = tt
  pass_written_true settle ok h p None e = tt

  unless_true : (b : Bool) (w : Way) → Each LeadsNowhere w.seen → Each LeadsNowhere (unless_stands b w).seen
  unless_true true w h = tt
  unless_true false w h = h

  pass_true : (n : ℕ) (b : List Place) (p : Place) → Each LeadsNowhere (pass_visits T n b p).seen
  unfolding pass_visits
  pass_true zero b p = (tt, tt)
  pass_true (suc n) b p =
      let pass : Place → Way = pass_visits T n (b ++ p ∷ []) in (
        tt,
        unless_true (is_some (since p b)) (pass_written T (settle_by T pass) p (T p))
            (pass_written_true (settle_by T pass) (settle_by-settles T pass (pass_visits-settles T n (b ++ p ∷ []))) (λ q. settled_true pass q (is_reference (T q)) (pass_true n (b ++ p ∷ []))) p (T p) refl),
      )

  each_true : (walk : Place → List Visit) → ((q : Place) → Each LeadsNowhere (walk q)) → (p : Place) (steps : List Step) → Each LeadsNowhere (visits_each walk p steps)
  unfolding visits_each
  each_true walk h p [] = tt
  each_true walk h p (s ∷ steps) = Each-append LeadsNowhere (walk (part p s)) (visits_each walk p steps) (h (part p s)) (each_true walk h p steps)

  walk_written_true : (settle : Place → Way) → DoSettle T settle → ((q : Place) → Each LeadsNowhere (settle q).seen) → (walk : Place → List Visit) → ((q : Place) → Each LeadsNowhere (walk q)) → (p : Place) (o : Option Written) → T p ≡ o → Each LeadsNowhere (walk_written T settle walk p o)
  walk_written_true settle ok h walk k p (Some (refers t steps)) e =
      let w : Way = way_of T settle p t steps in
      at_end_each LeadsNowhere w.seen w.ends walk (way_true settle ok h p (ap is_reference e) t steps e) (λ q i. k q)
  walk_written_true settle ok h walk k p (Some misspelled) e = tt
  walk_written_true settle ok h walk k p (Some (leaf v)) e = tt
  walk_written_true settle ok h walk k p (Some (parts c steps)) e = each_true walk k p steps
  walk_written_true settle ok h walk k p None e = tt

  if_true : (b : Bool) (es : List Visit) → Each LeadsNowhere es → Each LeadsNowhere (cond b [] es)
  if_true true es h = tt
  if_true false es h = h

  walk_true : (n : ℕ) (b : List Place) (p : Place) → Each LeadsNowhere (walk_visits T n b p)
  unfolding walk_visits
  walk_true zero b p = (tt, tt)
  walk_true (suc n) b p =
      let pass : Place → Way = pass_visits T n (b ++ p ∷ []) in
      let walk : Place → List Visit = walk_visits T n (b ++ p ∷ []) in (
        tt,
        if_true (is_some (since p b)) (walk_written T (settle_by T pass) walk p (T p))
            (walk_written_true (settle_by T pass) (settle_by-settles T pass (pass_visits-settles T n (b ++ p ∷ []))) (λ q. settled_true pass q (is_reference (T q)) (pass_true n (b ++ p ∷ []))) walk (walk_true n (b ++ p ∷ [])) p (T p) refl),
      )

  -- what the break of a visit tells
  abbrev pub Tells : RefBreak → Type 0
  Tells b = ((b.rule ≡ rule.RefSyntax) → T b.place ≡ Some misspelled) × ((b.rule ≡ rule.RefTarget) → (is_reference (T b.place) ≡ true) × ((q : Place) → Leads T b.place q → ⊥)) × ((b.rule ≡ rule.Cycle → ⊥) → b.ring ≡ [])

  misspelled_is : (o : Option Written) → is_misspelled o ≡ true → o ≡ Some misspelled
  misspelled_is (Some misspelled) e = refl
  misspelled_is (Some (leaf v)) e = cc
  misspelled_is (Some (parts c steps)) e = cc
  misspelled_is (Some (refers t steps)) e = cc
  misspelled_is None e = cc

  same_break : {b c : RefBreak} → Some b ≡ Some c → b ≡ c
  same_break {b} {c} e = ap (got b) e

  visit_tells : (x y z : Bool) (p : Place) (b : RefBreak) → is_misspelled (T p) ≡ z → cond x (Some (ref_break rule.Deep p)) (cond y (Some (ref_break rule.Big p)) (cond z (Some (ref_break rule.RefSyntax p)) None)) ≡ Some b → Tells b
  visit_tells true y z p b e h = subst Tells (same_break h) ((λ r. absurd (cc)), (λ r. absurd (cc)), (λ n. refl))
  visit_tells false true z p b e h = subst Tells (same_break h) ((λ r. absurd (cc)), (λ r. absurd (cc)), (λ n. refl))
  visit_tells false false true p b e h = subst Tells (same_break h) ((λ r. misspelled_is (T p) e), (λ r. absurd (cc)), (λ n. refl))
  visit_tells false false false p b e h = absurd (cc)

  ring_tells : (n : ℕ) (bs : List Place) (p : Place) (o : Option (List Place)) (b : RefBreak) → break_if T n bs p o ≡ Some b → Tells b
  ring_tells n bs p (Some r) b h = subst Tells (same_break h) ((λ e. absurd (cc)), (λ e. absurd (cc)), (λ n. absurd (n refl)))
  ring_tells n bs p None b h = visit_tells (nat_le most_on_branch (length bs)) (nat_le most_visits n) (is_misspelled (T p)) p b refl h

  own_tells : (n : ℕ) (e : Visit) (b : RefBreak) → LeadsNowhere e → own_break T n e ≡ Some b → Tells b
  own_tells n (visit bs p) b k h = ring_tells n bs p (since p bs) b h
  own_tells n (lost p) b k h = subst Tells (same_break h) ((λ r. absurd (cc)), (λ r. k), (λ n. refl))

  first_tells : (n : ℕ) (es : List Visit) (b : RefBreak) → Each LeadsNowhere es → first_break T n es ≡ Some b → Tells b
  unfolding first_break
  first_tells n [] b k h = absurd (cc)
  first_tells n (e ∷ es) b (k, ks) h = elim (option_or_is (own_break T n e) (first_break T (n + 1) es) b h) as (λ _. Tells b) [
    | inl i ↦ own_tells n e b k i
    | inr i ↦ first_tells (n + 1) es b ks i
  ]

  pub break_tells : (token : List Step) (b : RefBreak) → walk_break T token ≡ Some b → Tells b
  unfolding walked
  break_tells token b h = first_tells 0 (walked T [] (whole token)) b (walk_true (most_on_branch - length {A = Place} []) [] (whole token)) h
