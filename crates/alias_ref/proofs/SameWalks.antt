-- Trees that agree where references lead have the same walks and meanings.
use Rattle.std.proofs.Common.{◌≡◌, ℕ, zero, suc, ◌+◌, ◌-◌, List, [], ◌∷◌, ◌++◌, Bool, true, false, cond, Option, Some, None, length, refl, sym, ap, ap₂, ◌∙◌, subst}
use Rattle.std.specs.Prelude.{is_some, nat_le}
use Rattle.std.specs.Option.{option_or}
use Rattle.name_path.specs.declared.place.Place.{Place}
use Rattle.json_span.specs.PlainView.{Value, ValueEntry}
use Rattle.alias_ref.specs.Written.{Step, Written, leaf, parts, refers, misspelled, WrittenPlaces, whole, part, is_reference, is_misspelled, is_written}
use Rattle.alias_ref.specs.Meaning.{Leads, leads, Goes, arrived, onward, Settles, stays, follows, Means, means_leaf, means_parts, means_target, EachMeans, none_left, one_more}
use Rattle.alias_ref.specs.Visits.{Visit, visit, lost, Way, ends_at, no_end, after_visits, goes_on, then_go, since, go_if, steps_from, way_of, settled, settle_by, pass_written, unless_stands, pass_visits, visits_each, at_end, walk_written, walk_visits, ref_break, most_on_branch, most_visits, break_if, own_break, first_break, walked, walk_break}
use Rattle.alias_ref.specs.declared.fault.RefRule.TheVariants as rule
use Rattle.alias_ref.proofs.BranchesAreChains.{Each, Each-append}

module _ (T T' : WrittenPlaces) (In : List Step → Type 0) (agree : (p : Place) → In p.token → T p ≡ T' p) (closed : (p : Place) (u : List Step) (steps : List Step) → In p.token → T' p ≡ Some (refers u steps) → In u) where
  module _ where
    mutual
      leads_same : {p q : Place} → Leads T p q → In p.token → Leads T' p q × In q.token
      leads_same (leads {p} {token = t} {steps = steps} e w g) h =
          let e' : T' p ≡ Some (refers t steps) = sym (agree p h) ∙ e in
          let k : In t = closed p t steps h e' in
          let r = goes_same g k in
          (leads e' (ap is_written (sym (agree (whole t) k)) ∙ w) r.0, r.1)

      goes_same : {p q : Place} {steps : List Step} → Goes T p steps q → In p.token → Goes T' p steps q × In q.token
      goes_same arrived h = (arrived, h)
      goes_same (onward {q = q} {s = s} a w g) h =
          let k = settles_same a h in
          let r = goes_same g k.1 in
          (onward k.0 (ap is_written (sym (agree (part q s) k.1)) ∙ w) r.0, r.1)

      settles_same : {p q : Place} → Settles T p q → In p.token → Settles T' p q × In q.token
      settles_same (stays {p} e) h = (stays (ap is_reference (sym (agree p h)) ∙ e), h)
      settles_same (follows a b) h = let k = leads_same a h in let r = settles_same b k.1 in (follows k.0 r.0, r.1)

    mutual
      pub means_same : {p : Place} {v : Value} → Means T p v → In p.token → Means T' p v
      means_same (means_leaf {p} e) h = means_leaf (sym (agree p h) ∙ e)
      means_same (means_parts {p} e ms) h = means_parts (sym (agree p h) ∙ e) (means_each_same ms h)
      means_same (means_target l m) h = let k = leads_same l h in means_target k.0 (means_same m k.1)

      means_each_same : {p : Place} {steps : List Step} {es : List ValueEntry} → EachMeans T p steps es → In p.token → EachMeans T' p steps es
      means_each_same none_left h = none_left
      means_each_same (one_more m ms) h = one_more (means_same m h) (means_each_same ms h)

  -- the place of the entry, if it is visited, is one where the trees agree
  abbrev pub Agrees : Visit → Type 0
  Agrees (visit b p) = T p ≡ T' p
  Agrees (lost p) = Unit {0}

  -- two ways are the same, end inside and visit only places where the trees agree
  pub record Alike (w w' : Way) : Type 0 where
    pub same : w ≡ w'
    pub ends : (q : Place) → w.ends ≡ Some q → In q.token
    pub all : Each Agrees w.seen

  abbrev pub AlikeFrom : (Place → Way) → (Place → Way) → Type 0
  AlikeFrom f g = (p : Place) → In p.token → Alike (f p) (g p)

  goes_on_alike : (xs : List Visit) (o : Option Place) (f g : Place → Way) → Each Agrees xs → ((q : Place) → o ≡ Some q → In q.token) → AlikeFrom f g → Alike (goes_on xs o f) (goes_on xs o g)
  goes_on_alike xs None f g a h k = record { same = refl; ends = λ q e. cc; all = a }
  goes_on_alike xs (Some q) f g a h k =
      let r = k q (h q refl) in
      record { same = ap (after_visits xs) r.same; ends = r.ends; all = Each-append Agrees xs (f q).seen a r.all }

  then_go_alike : (w w' : Way) (f g : Place → Way) → Alike w w' → AlikeFrom f g → Alike (then_go w f) (then_go w' g)
  then_go_alike w w' f g a k = subst (λ x. Alike (then_go w f) (then_go x g)) a.same (goes_on_alike w.seen w.ends f g a.all a.ends k)

  go_if_alike : (b : Bool) (home : Place) (w w' : Way) → Alike w w' → Alike (go_if b home w) (go_if b home w')
  go_if_alike true home w w' a = a
  go_if_alike false home w w' a = record { same = refl; ends = λ q e. cc; all = (tt, tt) }

  ends_at_alike : (p : Place) → In p.token → Alike (ends_at p) (ends_at p)
  ends_at_alike p h = record { same = refl; ends = λ q e. let same : p ≡ q = cc in subst (λ x. In x.token) same h; all = tt }

  settled_alike : (b : Bool) (f g : Place → Way) (p : Place) → In p.token → AlikeFrom f g → Alike (settled b f p) (settled b g p)
  settled_alike true f g p h k = k p h
  settled_alike false f g p h k = ends_at_alike p h

  settle_by_alike : (f g : Place → Way) → AlikeFrom f g → AlikeFrom (settle_by T f) (settle_by T' g)
  settle_by_alike f g k p h = subst (λ b. Alike (settle_by T f p) (settled b g p)) (ap is_reference (agree p h)) (settled_alike (is_reference (T p)) f g p h k)

  steps_from_alike : (f g : Place → Way) → AlikeFrom f g → (home p : Place) (steps : List Step) → In p.token → Alike (steps_from T f home p steps) (steps_from T' g home p steps)
  unfolding steps_from
  steps_from_alike f g k home p [] h = ends_at_alike p h
  steps_from_alike f g k home p (s ∷ steps) h =
      then_go_alike (f p) (g p)
      (λ q. go_if (is_written (T (part q s))) home (steps_from T f home (part q s) steps))
      (λ q. go_if (is_written (T' (part q s))) home (steps_from T' g home (part q s) steps))
      (k p h)
      (λ q r. subst (λ b. Alike (go_if (is_written (T (part q s))) home (steps_from T f home (part q s) steps)) (go_if b home (steps_from T' g home (part q s) steps)))
      (ap is_written (agree (part q s) r))
      (go_if_alike (is_written (T (part q s))) home (steps_from T f home (part q s) steps) (steps_from T' g home (part q s) steps) (steps_from_alike f g k home (part q s) steps r)))

  way_of_alike : (f g : Place → Way) → AlikeFrom f g → (home : Place) (t : List Step) (steps : List Step) → In t → Alike (way_of T f home t steps) (way_of T' g home t steps)
  way_of_alike f g k home t steps h =
      subst (λ b. Alike (way_of T f home t steps) (go_if b home (steps_from T' g home (whole t) steps))) (ap is_written (agree (whole t) h))
      (go_if_alike (is_written (T (whole t))) home (steps_from T f home (whole t) steps) (steps_from T' g home (whole t) steps) (steps_from_alike f g k home (whole t) steps h))

  nothing_alike : Alike (no_end) (no_end)
  nothing_alike = record { same = refl; ends = λ q e. cc; all = tt }

  pass_written_alike : (f g : Place → Way) → AlikeFrom f g → (p : Place) (o : Option Written) → In p.token → T' p ≡ o → Alike (pass_written T f p o) (pass_written T' g p o)
  pass_written_alike f g k p (Some (refers t steps)) h e =
      then_go_alike (way_of T f p t steps) (way_of T' g p t steps) f g (way_of_alike f g k p t steps (closed p t steps h e)) k
  pass_written_alike f g k p (Some misspelled) h e = nothing_alike
  pass_written_alike f g k p (Some (leaf n)) h e = ends_at_alike p h
  pass_written_alike f g k p (Some (parts c steps)) h e = ends_at_alike p h
  pass_written_alike f g k p None h e = nothing_alike

  unless_alike : (b : Bool) (w w' : Way) → Alike w w' → Alike (unless_stands b w) (unless_stands b w')
  unless_alike true w w' a = nothing_alike
  unless_alike false w w' a = a

  behind_visit : (b : List Place) (p : Place) (w w' : Way) → In p.token → Alike w w' → Alike (after_visits (visit b p ∷ []) w) (after_visits (visit b p ∷ []) w')
  behind_visit b p w w' h a = record { same = ap (after_visits (visit b p ∷ [])) a.same; ends = a.ends; all = (agree p h, a.all) }

  pass_visits_alike : (n : ℕ) (b : List Place) → AlikeFrom (pass_visits T n b) (pass_visits T' n b)
  unfolding pass_visits
  pass_visits_alike zero b p h = record { same = refl; ends = λ q e. cc; all = (agree p h, tt) }
  pass_visits_alike (suc n) b p h =
      let f : Place → Way = settle_by T (pass_visits T n (b ++ p ∷ [])) in
      let g : Place → Way = settle_by T' (pass_visits T' n (b ++ p ∷ [])) in
      let k : AlikeFrom f g = settle_by_alike (pass_visits T n (b ++ p ∷ [])) (pass_visits T' n (b ++ p ∷ [])) (pass_visits_alike n (b ++ p ∷ [])) in
      let r = subst (λ o. Alike (pass_written T f p o) (pass_written T' g p (T' p))) (sym (agree p h)) (pass_written_alike f g k p (T' p) h refl) in
      behind_visit b p (unless_stands (is_some (since p b)) (pass_written T f p (T p))) (unless_stands (is_some (since p b)) (pass_written T' g p (T' p))) h (unless_alike (is_some (since p b)) (pass_written T f p (T p)) (pass_written T' g p (T' p)) r)

  -- the same entries, at places where the trees agree
  abbrev pub SameList : List Visit → List Visit → Type 0
  SameList es es' = (es ≡ es') × Each Agrees es

  abbrev pub SameFrom : (Place → List Visit) → (Place → List Visit) → Type 0
  SameFrom f g = (p : Place) → In p.token → SameList (f p) (g p)

  append_same : (xs xs' ys ys' : List Visit) → SameList xs xs' → SameList ys ys' → SameList (xs ++ ys) (xs' ++ ys')
  append_same xs xs' ys ys' a b = (ap₂ (λ x y. x ++ y) a.0 b.0, Each-append Agrees xs ys a.1 b.1)

  at_end_same : (xs : List Visit) (o : Option Place) (f g : Place → List Visit) → Each Agrees xs → ((q : Place) → o ≡ Some q → In q.token) → SameFrom f g → SameList (at_end xs o f) (at_end xs o g)
  at_end_same xs None f g a h k = (refl, a)
  at_end_same xs (Some q) f g a h k = append_same xs xs (f q) (g q) (refl, a) (k q (h q refl))

  each_same : (f g : Place → List Visit) → SameFrom f g → (p : Place) (steps : List Step) → In p.token → SameList (visits_each f p steps) (visits_each g p steps)
  unfolding visits_each
  each_same f g k p [] h = (refl, tt)
  each_same f g k p (s ∷ steps) h = append_same (f (part p s)) (g (part p s)) (visits_each f p steps) (visits_each g p steps) (k (part p s) h) (each_same f g k p steps h)

  walk_written_same : (f g : Place → Way) → AlikeFrom f g → (u v : Place → List Visit) → SameFrom u v → (p : Place) (o : Option Written) → In p.token → T' p ≡ o → SameList (walk_written T f u p o) (walk_written T' g v p o)
  walk_written_same f g k u v l p (Some (refers t steps)) h e =
      let w : Way = way_of T f p t steps in
      let a = way_of_alike f g k p t steps (closed p t steps h e) in
      subst (λ x. SameList (at_end w.seen w.ends u) (at_end x.seen x.ends v)) a.same (at_end_same w.seen w.ends u v a.all a.ends l)
  walk_written_same f g k u v l p (Some misspelled) h e = (refl, tt)
  walk_written_same f g k u v l p (Some (leaf n)) h e = (refl, tt)
  walk_written_same f g k u v l p (Some (parts c steps)) h e = each_same u v l p steps h
  walk_written_same f g k u v l p None h e = (refl, tt)

  if_same : (b : Bool) (xs ys : List Visit) → SameList xs ys → SameList (cond b [] xs) (cond b [] ys)
  if_same true xs ys a = (refl, tt)
  if_same false xs ys a = a

  walk_visits_same : (n : ℕ) (b : List Place) → SameFrom (walk_visits T n b) (walk_visits T' n b)
  unfolding walk_visits
  walk_visits_same zero b p h = (refl, (agree p h, tt))
  walk_visits_same (suc n) b p h =
      let f : Place → Way = settle_by T (pass_visits T n (b ++ p ∷ [])) in
      let g : Place → Way = settle_by T' (pass_visits T' n (b ++ p ∷ [])) in
      let k : AlikeFrom f g = settle_by_alike (pass_visits T n (b ++ p ∷ [])) (pass_visits T' n (b ++ p ∷ [])) (pass_visits_alike n (b ++ p ∷ [])) in
      let u : Place → List Visit = walk_visits T n (b ++ p ∷ []) in
      let v : Place → List Visit = walk_visits T' n (b ++ p ∷ []) in
      let r = subst (λ o. SameList (walk_written T f u p o) (walk_written T' g v p (T' p))) (sym (agree p h)) (walk_written_same f g k u v (walk_visits_same n (b ++ p ∷ [])) p (T' p) h refl) in
      let s = if_same (is_some (since p b)) (walk_written T f u p (T p)) (walk_written T' g v p (T' p)) r in
      (ap (λ es. visit b p ∷ es) s.0, (agree p h, s.1))

  break_if_same : (n : ℕ) (b : List Place) (p : Place) (o : Option (List Place)) → T p ≡ T' p → break_if T n b p o ≡ break_if T' n b p o
  break_if_same n b p (Some r) h = refl
  break_if_same n b p None h = ap (λ x. cond (nat_le most_on_branch (length b)) (Some (ref_break rule.Deep p)) (cond (nat_le most_visits n) (Some (ref_break rule.Big p)) (cond (is_misspelled x) (Some (ref_break rule.RefSyntax p)) None))) h

  own_same : (n : ℕ) (e : Visit) → Agrees e → own_break T n e ≡ own_break T' n e
  own_same n (visit b p) h = break_if_same n b p (since p b) h
  own_same n (lost p) h = refl

  first_same : (n : ℕ) (es : List Visit) → Each Agrees es → first_break T n es ≡ first_break T' n es
  unfolding first_break
  first_same n [] h = refl
  first_same n (e ∷ es) h = ap₂ option_or (own_same n e h.0) (first_same (n + 1) es h.1)

  pub walk_break_same : (t : List Step) → In t → walk_break T t ≡ walk_break T' t
  unfolding walked
  walk_break_same t h =
      let s = walk_visits_same (most_on_branch - length {A = Place} []) [] (whole t) h in
      first_same 0 (walked T [] (whole t)) s.1 ∙ ap (first_break T' 0) s.0
