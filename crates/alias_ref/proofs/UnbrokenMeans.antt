-- A walk without a break finds a meaning.
use Rattle.std.proofs.Common.{◌≡◌, ℕ, zero, suc, ◌+◌, ◌-◌, ◌<◌, List, [], ◌∷◌, ◌++◌, Bool, true, false, cond, Option, Some, None, length, refl, sym, ap, ◌∙◌, subst, arith, length-append}
use Rattle.std.specs.Prelude.{is_some}
use Rattle.name_path.specs.declared.place.Place.{Place}
use Rattle.json_span.specs.PlainView.{Value, ValueEntry}
use Rattle.alias_ref.specs.Written.{Step, Written, leaf, parts, refers, misspelled, WrittenPlaces, whole, part, is_reference, is_misspelled, is_written}
use Rattle.alias_ref.specs.Meaning.{put_together, Means, means_leaf, means_parts, means_target, EachMeans, none_left, one_more}
use Rattle.alias_ref.specs.Visits.{Visit, visit, lost, Way, goes_on, then_go, since, go_if, steps_from, way_of, settled, settle_by, pass_written, unless_stands, pass_visits, visits_each, at_end, walk_written, walk_visits, ref_break, own_break, first_break, walked, walk_break, most_on_branch}
use Rattle.alias_ref.specs.declared.fault.RefRule.TheVariants as rule
use Rattle.alias_ref.specs.inner.Seen.{Clean, HasParts, AllWritten}
use Rattle.alias_ref.proofs.FirstBreaks.{first-append, or_none, enters}
use Rattle.alias_ref.proofs.WaysSettle.{DoSettle, way_of-leads, settle_by-settles, pass_visits-settles}

module _ (T : WrittenPlaces) where
  pub clean_front : {n k : ℕ} (xs ys : List Visit) → Clean T n k (xs ++ ys) → (m : ℕ) × Clean T n m xs × Clean T m k ys
  clean_front {n} {k} xs ys c =
      let h = or_none (first_break T n xs) (first_break T (n + length xs) ys) (sym (first-append T n xs ys) ∙ c.unbroken) in
      (n + length xs, record { unbroken = h.0; counted = refl }, record { unbroken = h.1; counted = omega (arith, c.counted, length-append xs ys) })

  pub clean_first : {n k : ℕ} (e : Visit) (es : List Visit) → Clean T n k (e ∷ es) → (own_break T n e ≡ None) × Clean T (n + 1) k es
  unfolding first_break
  clean_first {n} {k} e es c =
      let h = or_none (own_break T n e) (first_break T (n + 1) es) c.unbroken in
      (h.0, record { unbroken = h.1; counted = omega (arith, c.counted) })

  -- a way without a break has an end, which is written
  abbrev pub HasEnd : Way → Type 0
  HasEnd w = (q : Place) × (w.ends ≡ Some q) × (is_written (T q) ≡ true)

  abbrev pub Ending : (Place → Way) → Type 0
  Ending f = (p : Place) (n k : ℕ) → is_written (T p) ≡ true → Clean T n k (f p).seen → HasEnd (f p)

  then_end : (w : Way) (next : Place → Way) (n k : ℕ) → Clean T n k (then_go w next).seen → ((m : ℕ) → Clean T n m w.seen → HasEnd w) → ((q : Place) (m : ℕ) → w.ends ≡ Some q → is_written (T q) ≡ true → Clean T m k (next q).seen → HasEnd (next q)) → HasEnd (then_go w next)
  then_end w next n k c h g = go w.seen w.ends refl c (λ m d. h m d)
    where
      go : (xs : List Visit) (o : Option Place) → o ≡ w.ends → Clean T n k (goes_on xs o next).seen → ((m : ℕ) → Clean T n m xs → HasEnd w) → HasEnd (goes_on xs o next)
      go xs None e d f = let has = f k d in let bad = e ∙ has.1 in cc
      go xs (Some q) e d f =
          let split = clean_front xs (next q).seen d in
          let has = f split.0 split.1 in
          let same : has.0 ≡ q = let both = e ∙ has.1 in cc in
          g q split.0 (sym e) (subst (λ x. is_written (T x) ≡ true) same has.2) split.2

  settled_end : (pass : Place → Way) → Ending pass → (b : Bool) (p : Place) (n k : ℕ) → is_written (T p) ≡ true → Clean T n k (settled b pass p).seen → HasEnd (settled b pass p)
  settled_end pass h true p n k w c = h p n k w c
  settled_end pass h false p n k w c = (p, refl, w)

  pub settle_end : (pass : Place → Way) → Ending pass → Ending (settle_by T pass)
  settle_end pass h p n k w c = settled_end pass h (is_reference (T p)) p n k w c

  lost_is_no_end : (n k : ℕ) (home : Place) → Clean T n k (lost home ∷ []) → ⊥
  lost_is_no_end n k home c = let h : Some (ref_break rule.RefTarget home) ≡ None = (clean_first (lost home) [] c).0 in cc

  go_if_end : (b : Bool) (home : Place) (w : Way) (n k : ℕ) → Clean T n k (go_if b home w).seen → (b ≡ true → Clean T n k w.seen → HasEnd w) → HasEnd (go_if b home w)
  go_if_end true home w n k c h = h refl c
  go_if_end false home w n k c h = absurd (lost_is_no_end n k home c)

  steps_end : (settle : Place → Way) → Ending settle → (home p : Place) (steps : List Step) (n k : ℕ) → is_written (T p) ≡ true → Clean T n k (steps_from T settle home p steps).seen → HasEnd (steps_from T settle home p steps)
  unfolding steps_from
  steps_end settle h home p [] n k w c = (p, refl, w)
  steps_end settle h home p (s ∷ steps) n k w c =
      then_end (settle p) (λ q. go_if (is_written (T (part q s))) home (steps_from T settle home (part q s) steps)) n k c
      (λ m d. h p n m w d)
      (λ q m e v d. go_if_end (is_written (T (part q s))) home (steps_from T settle home (part q s) steps) m k d
      (λ v2 d2. steps_end settle h home (part q s) steps m k v2 d2))

  pub way_end_is : (settle : Place → Way) → Ending settle → (home : Place) (t : List Step) (steps : List Step) (n k : ℕ) → Clean T n k (way_of T settle home t steps).seen → HasEnd (way_of T settle home t steps)
  way_end_is settle h home t steps n k c = go_if_end (is_written (T (whole t))) home (steps_from T settle home (whole t) steps) n k c (λ w d. steps_end settle h home (whole t) steps n k w d)

  pass_written_end : (settle : Place → Way) → Ending settle → (p : Place) (o : Option Written) (n k : ℕ) → T p ≡ o → is_written o ≡ true → is_misspelled o ≡ false → Clean T n k (pass_written T settle p o).seen → HasEnd (pass_written T settle p o)
  pass_written_end settle h p (Some (refers t steps)) n k e w s c =
      then_end (way_of T settle p t steps) settle n k c (λ m d. way_end_is settle h p t steps n m d) (λ q m e2 v d. h q m k v d)
  pass_written_end settle h p (Some misspelled) n k e w s c = cc
  pass_written_end settle h p (Some (leaf v)) n k e w s c = (p, refl, ap is_written e ∙ w)
  pass_written_end settle h p (Some (parts x steps)) n k e w s c = (p, refl, ap is_written e ∙ w)
  pass_written_end settle h p None n k e w s c = cc

  pub no_room : (b : List Place) → zero + length b ≡ most_on_branch → length b < most_on_branch → ⊥
  no_room b e h = omega arith

  unless_new : (p : Place) (b : List Place) (w : Way) → since p b ≡ None → unless_stands (is_some (since p b)) w ≡ w
  unless_new p b w h = ap (λ o. unless_stands (is_some o) w) h

  pub more_room : (d : ℕ) (b : List Place) (p : Place) → suc d + length b ≡ most_on_branch → d + length (b ++ p ∷ []) ≡ most_on_branch
  more_room d b p h = omega (arith, length-append b (p ∷ []))

  pub pass_end : (d : ℕ) (b : List Place) → d + length b ≡ most_on_branch → Ending (pass_visits T d b)
  unfolding pass_visits
  pass_end zero b r p n k w c = absurd (no_room b r (enters T n b p (clean_first (visit b p) [] c).0).room)
  pass_end (suc d) b r p n k w c =
      let settle : Place → Way = settle_by T (pass_visits T d (b ++ p ∷ [])) in
      let written : Way = pass_written T settle p (T p) in
      let first = clean_first (visit b p) (unless_stands (is_some (since p b)) written).seen c in
      let e = enters T n b p first.0 in
      let is = unless_new p b written e.is_new in
      let has = pass_written_end settle (settle_end (pass_visits T d (b ++ p ∷ [])) (pass_end d (b ++ p ∷ []) (more_room d b p r))) p (T p) (n + 1) k refl w e.spelled (subst (λ x. Clean T (n + 1) k x.seen) is first.1) in
      (has.0, ap (λ x. x.ends) is ∙ has.1, has.2)

  abbrev pub Meaning : (Place → List Visit) → Type 0
  Meaning walk = (p : Place) (n k : ℕ) → is_written (T p) ≡ true → Clean T n k (walk p) → (v : Value) × Means T p v

  each_means : (walk : Place → List Visit) → Meaning walk → (p : Place) (steps : List Step) (n k : ℕ) → AllWritten T p steps → Clean T n k (visits_each walk p steps) → (es : List ValueEntry) × EachMeans T p steps es
  unfolding visits_each
  each_means walk h p [] n k w c = ([], none_left)
  each_means walk h p (s ∷ steps) n k w c =
      let split = clean_front (walk (part p s)) (visits_each walk p steps) c in
      let here = h (part p s) n split.0 w.0 split.1 in
      let rest = each_means walk h p steps split.0 k w.1 split.2 in
      (record { name = s; value = here.0 } ∷ rest.0, one_more here.1 rest.1)

  pub at_end_means : (w : Way) (walk : Place → List Visit) (n k : ℕ) → HasEnd w → Clean T n k (at_end w.seen w.ends walk) → (q : Place) × (m : ℕ) × (w.ends ≡ Some q) × (is_written (T q) ≡ true) × Clean T m k (walk q)
  at_end_means w walk n k has c =
      let d = subst (λ o. Clean T n k (at_end w.seen o walk)) has.1 c in
      let split = clean_front w.seen (walk has.0) d in
      (has.0, split.0, has.1, has.2, split.2)

  pub front_of : (w : Way) (walk : Place → List Visit) (n k : ℕ) (o : Option Place) → Clean T n k (at_end w.seen o walk) → (m : ℕ) × Clean T n m w.seen
  front_of w walk n k None c = (k, c)
  front_of w walk n k (Some q) c = let split = clean_front w.seen (walk q) c in (split.0, split.1)

  shape_means : HasParts T → (settle : Place → Way) → Ending settle → DoSettle T settle → (walk : Place → List Visit) → Meaning walk → (p : Place) (o : Option Written) (n k : ℕ) → T p ≡ o → is_written o ≡ true → is_misspelled o ≡ false → Clean T n k (walk_written T settle walk p o) → (v : Value) × Means T p v
  shape_means hp settle h ok walk m p (Some (refers t steps)) n k e w s c =
      let way : Way = way_of T settle p t steps in
      let front = front_of way walk n k way.ends c in
      let has = at_end_means way walk n k (way_end_is settle h p t steps n front.0 front.1) c in
      let means = m has.0 has.1 k has.3 has.4 in
      (means.0, means_target (way_of-leads T settle ok p has.0 t steps e has.2) means.1)
  shape_means hp settle h ok walk m p (Some misspelled) n k e w s c = cc
  shape_means hp settle h ok walk m p (Some (leaf v)) n k e w s c = (v, means_leaf e)
  shape_means hp settle h ok walk m p (Some (parts x steps)) n k e w s c = let vs = each_means walk m p steps n k (hp p x steps e) c in (put_together x vs.0, means_parts e vs.1)
  shape_means hp settle h ok walk m p None n k e w s c = cc

  pub if_new : (p : Place) (b : List Place) (es : List Visit) → since p b ≡ None → cond (is_some (since p b)) [] es ≡ es
  if_new p b es h = ap (λ o. cond (is_some o) [] es) h

  walk_means : HasParts T → (d : ℕ) (b : List Place) → d + length b ≡ most_on_branch → Meaning (walk_visits T d b)
  unfolding walk_visits
  walk_means hp zero b r p n k w c = absurd (no_room b r (enters T n b p (clean_first (visit b p) [] c).0).room)
  walk_means hp (suc d) b r p n k w c =
      let pass : Place → Way = pass_visits T d (b ++ p ∷ []) in
      let walk : Place → List Visit = walk_visits T d (b ++ p ∷ []) in
      let asked : List Visit = walk_written T (settle_by T pass) walk p (T p) in
      let first = clean_first (visit b p) (cond (is_some (since p b)) [] asked) c in
      let e = enters T n b p first.0 in
      let room = more_room d b p r in
      shape_means hp (settle_by T pass) (settle_end pass (pass_end d (b ++ p ∷ []) room)) (settle_by-settles T pass (pass_visits-settles T d (b ++ p ∷ []))) walk (walk_means hp d (b ++ p ∷ []) room) p (T p) (n + 1) k refl w e.spelled
      (subst (λ x. Clean T (n + 1) k x) (if_new p b asked e.is_new) first.1)

  pub unbroken_means : HasParts T → (t : List Step) → is_written (T (whole t)) ≡ true → walk_break T t ≡ None → (v : Value) × Means T (whole t) v
  unfolding walked
  unbroken_means hp t w h = walk_means hp (most_on_branch - length {A = Place} []) [] (omega arith) (whole t) 0 (0 + length (walked T [] (whole t))) w (record { unbroken = h; counted = refl })
