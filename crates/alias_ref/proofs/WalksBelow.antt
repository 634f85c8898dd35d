-- A walk below any branch is the walk without it, up to a visit of a place that stands on the branch, or that has no room below it.
use Rattle.std.proofs.Common.{◌≡◌, ℕ, zero, suc, ◌+◌, ◌-◌, ◌<◌, ◌≤◌, List, [], ◌∷◌, ◌++◌, Bool, true, false, cond, Option, Some, None, length, refl, sym, ap, ◌∙◌, subst, arith, append_assoc, append-nil, length-append, inl, inr}
use Rattle.std.proofs.lemmas.List.{map-append}
use Rattle.std.specs.Prelude.{is_some, ◌⊎◌}
use Rattle.name_path.specs.declared.place.Place.{Place}
use Rattle.alias_ref.specs.Written.{Step, Written, leaf, parts, refers, misspelled, WrittenPlaces, whole, part, is_reference, is_written}
use Rattle.alias_ref.specs.Visits.{Visit, visit, lost, Way, after_visits, goes_on, then_go, same_place, since, go_if, steps_from, way_of, settled, settle_by, pass_written, unless_stands, pass_visits, visits_each, at_end, walk_written, walk_visits, most_on_branch, walked, passed}
use Rattle.alias_ref.specs.Remembered.{below_visit, below, way_below}
use Rattle.alias_ref.proofs.WalksInTurns.{goes_on-front, at_end-front}

no_some : (t : Bool) (x : List Place) (o : Option (List Place)) → cond t (Some x) o ≡ None → (t ≡ false) × (o ≡ None)
no_some true x o h = cc
no_some false x o h = (refl, h)

pub since_behind : (p : Place) (b c : List Place) → since p b ≡ None → since p (b ++ c) ≡ since p c
since_behind p [] c h = refl
since_behind p (q ∷ b) c h =
    let k = no_some (same_place q p) (q ∷ b) (since p b) h in
    ap (λ t. cond t (Some (q ∷ (b ++ c))) (since p (b ++ c))) k.0 ∙ since_behind p b c k.1

pub since_neither : (p : Place) (b c : List Place) → since p (b ++ c) ≡ None → (since p b ≡ None) × (since p c ≡ None)
since_neither p [] c h = (refl, h)
since_neither p (q ∷ b) c h =
    let k = no_some (same_place q p) (q ∷ (b ++ c)) (since p (b ++ c)) h in
    let r = since_neither p b c k.1 in
    (ap (λ t. cond t (Some (q ∷ b)) (since p b)) k.0 ∙ r.0, r.1)

-- a visit of a place that isn't on the branch b, which leaves it room
abbrev pub Fits : List Place → Visit → Type 0
Fits b (visit c x) = (since x b ≡ None) × (length b + length c < most_on_branch)
Fits b (lost p) = Unit {0}

module _ (T : WrittenPlaces) (b : List Place) where
  -- the lists are alike up to a visit that doesn't fit below the branch
  pub record Stops (es es' : List Visit) : Type 0 where
    pub xs : List Visit
    pub c : List Place
    pub p : Place
    pub ys : List Visit
    pub ys' : List Visit
    pub is : es ≡ xs ++ visit c p ∷ ys
    pub is' : es' ≡ below b xs ++ visit (b ++ c) p ∷ ys'
    pub unfit : Fits b (visit c p) → ⊥

  stops_here : (c : List Place) (p : Place) (ys ys' : List Visit) → (Fits b (visit c p) → ⊥) → Stops (visit c p ∷ ys) (visit (b ++ c) p ∷ ys')
  stops_here c p ys ys' h = record { xs = []; c = c; p = p; ys = ys; ys' = ys'; is = refl; is' = refl; unfit = h }

  stops_front : (es es' zs zs' : List Visit) → Stops es es' → Stops (es ++ zs) (es' ++ zs')
  stops_front es es' zs zs' s = record {
    xs = s.xs;
    c = s.c;
    p = s.p;
    ys = s.ys ++ zs;
    ys' = s.ys' ++ zs';
    is = ap (λ l. l ++ zs) s.is ∙ append_assoc s.xs (visit s.c s.p ∷ s.ys) zs;
    is' = ap (λ l. l ++ zs') s.is' ∙ append_assoc (below b s.xs) (visit (b ++ s.c) s.p ∷ s.ys') zs';
    unfit = s.unfit;
  }

  stops_behind : (zs es es' : List Visit) → Stops es es' → Stops (zs ++ es) (below b zs ++ es')
  stops_behind zs es es' s = record {
    xs = zs ++ s.xs;
    c = s.c;
    p = s.p;
    ys = s.ys;
    ys' = s.ys';
    is = ap (λ l. zs ++ l) s.is ∙ sym (append_assoc zs s.xs (visit s.c s.p ∷ s.ys));
    is' = ap (λ l. below b zs ++ l) s.is' ∙ sym (append_assoc (below b zs) (below b s.xs) (visit (b ++ s.c) s.p ∷ s.ys'))
        ∙ ap (λ l. l ++ visit (b ++ s.c) s.p ∷ s.ys') (sym (map-append (below_visit b) zs s.xs));
    unfit = s.unfit;
  }

  abbrev pub Agree : List Visit → List Visit → Type 0
  Agree es es' = (es' ≡ below b es) ⊎ Stops es es'

  abbrev pub WaysAgree : Way → Way → Type 0
  WaysAgree w w' = (w' ≡ way_below b w) ⊎ Stops w.seen w'.seen

  abbrev AllAgree : (Place → Way) → (Place → Way) → Type 0
  AllAgree f g = (q : Place) → WaysAgree (f q) (g q)

  joined : (xs : List Visit) (w : Way) → after_visits (below b xs) (way_below b w) ≡ way_below b (after_visits xs w)
  joined xs w = let make : List Visit → Way = λ es. record { seen = es; ends = w.ends } in ap make (sym (map-append (below_visit b) xs w.seen))

  goes_on_agree : (xs : List Visit) (o : Option Place) (f g : Place → Way) → AllAgree f g → WaysAgree (goes_on xs o f) (goes_on (below b xs) o g)
  goes_on_agree xs None f g k = inl refl
  goes_on_agree xs (Some q) f g k = elim (k q) as (λ _. WaysAgree (after_visits xs (f q)) (after_visits (below b xs) (g q))) [
    | inl e ↦ inl (ap (after_visits (below b xs)) e ∙ joined xs (f q))
    | inr s ↦ inr (stops_behind xs (f q).seen (g q).seen s)
  ]

  then_go_agree : (w w' : Way) (f g : Place → Way) → WaysAgree w w' → AllAgree f g → WaysAgree (then_go w f) (then_go w' g)
  then_go_agree w w' f g m k = elim m as (λ _. WaysAgree (then_go w f) (then_go w' g)) [
    | inl e ↦ subst (λ v. WaysAgree (then_go w f) (then_go v g)) (sym e) (goes_on_agree w.seen w.ends f g k)
    | inr s ↦
        let x = goes_on-front w.seen w.ends f in
        let y = goes_on-front w'.seen w'.ends g in
        inr (subst (λ es. Stops (then_go w f).seen es) (sym y.1) (subst (λ es. Stops es (w'.seen ++ y.0)) (sym x.1) (stops_front w.seen w'.seen x.0 y.0 s)))
  ]

  go_if_agree : (t : Bool) (home : Place) (w w' : Way) → WaysAgree w w' → WaysAgree (go_if t home w) (go_if t home w')
  go_if_agree true home w w' m = m
  go_if_agree false home w w' m = inl refl

  settled_agree : (t : Bool) (f g : Place → Way) (p : Place) → AllAgree f g → WaysAgree (settled t f p) (settled t g p)
  settled_agree true f g p k = k p
  settled_agree false f g p k = inl refl

  settle_by_agree : (f g : Place → Way) → AllAgree f g → AllAgree (settle_by T f) (settle_by T g)
  settle_by_agree f g k p = settled_agree (is_reference (T p)) f g p k

  steps_from_agree : (f g : Place → Way) → AllAgree f g → (home p : Place) (steps : List Step) → WaysAgree (steps_from T f home p steps) (steps_from T g home p steps)
  unfolding steps_from
  steps_from_agree f g k home p [] = inl refl
  steps_from_agree f g k home p (s ∷ steps) =
      then_go_agree (f p) (g p)
      (λ q. go_if (is_written (T (part q s))) home (steps_from T f home (part q s) steps))
      (λ q. go_if (is_written (T (part q s))) home (steps_from T g home (part q s) steps))
      (k p)
      (λ q. go_if_agree (is_written (T (part q s))) home (steps_from T f home (part q s) steps) (steps_from T g home (part q s) steps) (steps_from_agree f g k home (part q s) steps))

  way_of_agree : (f g : Place → Way) → AllAgree f g → (home : Place) (t steps : List Step) → WaysAgree (way_of T f home t steps) (way_of T g home t steps)
  way_of_agree f g k home t steps =
      go_if_agree (is_written (T (whole t))) home (steps_from T f home (whole t) steps) (steps_from T g home (whole t) steps) (steps_from_agree f g k home (whole t) steps)

  pass_written_agree : (f g : Place → Way) → AllAgree f g → (p : Place) (o : Option Written) → WaysAgree (pass_written T f p o) (pass_written T g p o)
  pass_written_agree f g k p (Some (refers t steps)) = then_go_agree (way_of T f p t steps) (way_of T g p t steps) f g (way_of_agree f g k p t steps) k
  pass_written_agree f g k p (Some misspelled) = inl refl
  pass_written_agree f g k p (Some (leaf v)) = inl refl
  pass_written_agree f g k p (Some (parts x steps)) = inl refl
  pass_written_agree f g k p None = inl refl

  unless_agree : (t : Bool) (w w' : Way) → WaysAgree w w' → WaysAgree (unless_stands t w) (unless_stands t w')
  unless_agree true w w' m = inl refl
  unless_agree false w w' m = m

  no_room : (c : List Place) (p : Place) → zero + (length b + length c) ≡ most_on_branch → Fits b (visit c p) → ⊥
  no_room c p e h = omega (arith, e, h.1)

  one_less : (n : ℕ) (c : List Place) (p : Place) → suc n + (length b + length c) ≡ most_on_branch → n + (length b + length (c ++ p ∷ [])) ≡ most_on_branch
  one_less n c p e = omega (arith, e, length-append c (p ∷ []))

  on_branch : (c : List Place) (p : Place) (r : List Place) → since p b ≡ Some r → Fits b (visit c p) → ⊥
  on_branch c p r e h = let bad : Some r ≡ None = sym e ∙ h.0 in cc

  pass_new : (c : List Place) (p : Place) (fw gw : Way) (o : Option (List Place)) → since p b ≡ o → WaysAgree fw gw
      → WaysAgree (after_visits (visit c p ∷ []) (unless_stands (is_some (since p c)) fw)) (after_visits (visit (b ++ c) p ∷ []) (unless_stands (is_some (since p (b ++ c))) gw))
  pass_new c p fw gw (Some r) e k =
      inr (stops_here c p (unless_stands (is_some (since p c)) fw).seen (unless_stands (is_some (since p (b ++ c))) gw).seen (on_branch c p r e))
  pass_new c p fw gw None e k =
      subst (λ o. WaysAgree (after_visits (visit c p ∷ []) (unless_stands (is_some (since p c)) fw)) (after_visits (visit (b ++ c) p ∷ []) (unless_stands (is_some o) gw)))
      (sym (since_behind p b c e))
      (elim (unless_agree (is_some (since p c)) fw gw k) as (λ _. WaysAgree (after_visits (visit c p ∷ []) (unless_stands (is_some (since p c)) fw)) (after_visits (visit (b ++ c) p ∷ []) (unless_stands (is_some (since p c)) gw))) [
        | inl same ↦ inl (ap (after_visits (visit (b ++ c) p ∷ [])) same)
        | inr s ↦ inr (stops_behind (visit c p ∷ []) (unless_stands (is_some (since p c)) fw).seen (unless_stands (is_some (since p c)) gw).seen s)
      ])

  pass_visits_agree : (m n : ℕ) (c : List Place) → n ≤ m → n + (length b + length c) ≡ most_on_branch → AllAgree (pass_visits T m c) (pass_visits T n (b ++ c))
  unfolding pass_visits
  pass_visits_agree zero zero c h e p = inl refl
  pass_visits_agree zero (suc n) c h e p = absurd (omega (arith, h))
  pass_visits_agree (suc m) zero c h e p =
      inr (stops_here c p (unless_stands (is_some (since p c)) (pass_written T (settle_by T (pass_visits T m (c ++ p ∷ []))) p (T p))).seen [] (no_room c p e))
  pass_visits_agree (suc m) (suc n) c h e p =
      let under : AllAgree (pass_visits T m (c ++ p ∷ [])) (pass_visits T n ((b ++ c) ++ p ∷ [])) =
      subst (λ d. AllAgree (pass_visits T m (c ++ p ∷ [])) (pass_visits T n d)) (sym (append_assoc b c (p ∷ []))) (pass_visits_agree m n (c ++ p ∷ []) (omega (arith, h)) (one_less n c p e)) in
      pass_new c p (pass_written T (settle_by T (pass_visits T m (c ++ p ∷ []))) p (T p)) (pass_written T (settle_by T (pass_visits T n ((b ++ c) ++ p ∷ []))) p (T p)) (since p b) refl
      (pass_written_agree (settle_by T (pass_visits T m (c ++ p ∷ []))) (settle_by T (pass_visits T n ((b ++ c) ++ p ∷ []))) (settle_by_agree (pass_visits T m (c ++ p ∷ [])) (pass_visits T n ((b ++ c) ++ p ∷ [])) under) p (T p))

  abbrev ListsAgree : (Place → List Visit) → (Place → List Visit) → Type 0
  ListsAgree u v = (q : Place) → Agree (u q) (v q)

  append_agree : (xs ys xs' ys' : List Visit) → Agree xs xs' → Agree ys ys' → Agree (xs ++ ys) (xs' ++ ys')
  append_agree xs ys xs' ys' m k = elim m as (λ _. Agree (xs ++ ys) (xs' ++ ys')) [
    | inl e ↦ subst (λ zs. Agree (xs ++ ys) (zs ++ ys')) (sym e) (elim k as (λ _. Agree (xs ++ ys) (below b xs ++ ys')) [
      | inl i ↦ inl (ap (λ zs. below b xs ++ zs) i ∙ sym (map-append (below_visit b) xs ys))
      | inr s ↦ inr (stops_behind xs ys ys' s)
    ])
    | inr s ↦ inr (stops_front xs xs' ys ys' s)
  ]

  at_end_agree : (xs : List Visit) (o : Option Place) (u v : Place → List Visit) → ListsAgree u v → Agree (at_end xs o u) (at_end (below b xs) o v)
  at_end_agree xs None u v k = inl refl
  at_end_agree xs (Some q) u v k = append_agree xs (u q) (below b xs) (v q) (inl refl) (k q)

  way_agree : (w w' : Way) (u v : Place → List Visit) → WaysAgree w w' → ListsAgree u v → Agree (at_end w.seen w.ends u) (at_end w'.seen w'.ends v)
  way_agree w w' u v m k = elim m as (λ _. Agree (at_end w.seen w.ends u) (at_end w'.seen w'.ends v)) [
    | inl e ↦ subst (λ z. Agree (at_end w.seen w.ends u) (at_end z.seen z.ends v)) (sym e) (at_end_agree w.seen w.ends u v k)
    | inr s ↦
        let x = at_end-front w.seen w.ends u in
        let y = at_end-front w'.seen w'.ends v in
        inr (subst (λ es. Stops (at_end w.seen w.ends u) es) (sym y.1) (subst (λ es. Stops es (w'.seen ++ y.0)) (sym x.1) (stops_front w.seen w'.seen x.0 y.0 s)))
  ]

  each_agree : (u v : Place → List Visit) → ListsAgree u v → (p : Place) (steps : List Step) → Agree (visits_each u p steps) (visits_each v p steps)
  unfolding visits_each
  each_agree u v k p [] = inl refl
  each_agree u v k p (s ∷ steps) = append_agree (u (part p s)) (visits_each u p steps) (v (part p s)) (visits_each v p steps) (k (part p s)) (each_agree u v k p steps)

  walk_written_agree : (f g : Place → Way) → AllAgree f g → (u v : Place → List Visit) → ListsAgree u v → (p : Place) (o : Option Written) → Agree (walk_written T f u p o) (walk_written T g v p o)
  walk_written_agree f g k u v l p (Some (refers t steps)) = way_agree (way_of T f p t steps) (way_of T g p t steps) u v (way_of_agree f g k p t steps) l
  walk_written_agree f g k u v l p (Some misspelled) = inl refl
  walk_written_agree f g k u v l p (Some (leaf n)) = inl refl
  walk_written_agree f g k u v l p (Some (parts x steps)) = each_agree u v l p steps
  walk_written_agree f g k u v l p None = inl refl

  if_agree : (t : Bool) (es es' : List Visit) → Agree es es' → Agree (cond t [] es) (cond t [] es')
  if_agree true es es' m = inl refl
  if_agree false es es' m = m

  walk_new : (c : List Place) (p : Place) (fs gs : List Visit) (o : Option (List Place)) → since p b ≡ o → Agree fs gs
      → Agree (visit c p ∷ cond (is_some (since p c)) [] fs) (visit (b ++ c) p ∷ cond (is_some (since p (b ++ c))) [] gs)
  walk_new c p fs gs (Some r) e k = inr (stops_here c p (cond (is_some (since p c)) [] fs) (cond (is_some (since p (b ++ c))) [] gs) (on_branch c p r e))
  walk_new c p fs gs None e k =
      subst (λ o. Agree (visit c p ∷ cond (is_some (since p c)) [] fs) (visit (b ++ c) p ∷ cond (is_some o) [] gs)) (sym (since_behind p b c e))
      (append_agree (visit c p ∷ []) (cond (is_some (since p c)) [] fs) (visit (b ++ c) p ∷ []) (cond (is_some (since p c)) [] gs) (inl refl) (if_agree (is_some (since p c)) fs gs k))

  walk_visits_agree : (m n : ℕ) (c : List Place) → n ≤ m → n + (length b + length c) ≡ most_on_branch → ListsAgree (walk_visits T m c) (walk_visits T n (b ++ c))
  unfolding walk_visits
  walk_visits_agree zero zero c h e p = inl refl
  walk_visits_agree zero (suc n) c h e p = absurd (omega (arith, h))
  walk_visits_agree (suc m) zero c h e p =
      inr (stops_here c p (cond (is_some (since p c)) [] (walk_written T (settle_by T (pass_visits T m (c ++ p ∷ []))) (walk_visits T m (c ++ p ∷ [])) p (T p))) [] (no_room c p e))
  walk_visits_agree (suc m) (suc n) c h e p =
      let u : Place → List Visit = walk_visits T m (c ++ p ∷ []) in
      let v : Place → List Visit = walk_visits T n ((b ++ c) ++ p ∷ []) in
      let less : n ≤ m = omega (arith, h) in
      let room = one_less n c p e in
      let passes : AllAgree (pass_visits T m (c ++ p ∷ [])) (pass_visits T n ((b ++ c) ++ p ∷ [])) =
      subst (λ d. AllAgree (pass_visits T m (c ++ p ∷ [])) (pass_visits T n d)) (sym (append_assoc b c (p ∷ []))) (pass_visits_agree m n (c ++ p ∷ []) less room) in
      let walks : ListsAgree u v = subst (λ d. ListsAgree u (walk_visits T n d)) (sym (append_assoc b c (p ∷ []))) (walk_visits_agree m n (c ++ p ∷ []) less room) in
      walk_new c p (walk_written T (settle_by T (pass_visits T m (c ++ p ∷ []))) u p (T p)) (walk_written T (settle_by T (pass_visits T n ((b ++ c) ++ p ∷ []))) v p (T p)) (since p b) refl
      (walk_written_agree (settle_by T (pass_visits T m (c ++ p ∷ []))) (settle_by T (pass_visits T n ((b ++ c) ++ p ∷ []))) (settle_by_agree (pass_visits T m (c ++ p ∷ [])) (pass_visits T n ((b ++ c) ++ p ∷ [])) passes) u v walks p (T p))

  pub walked_agree : (p : Place) → length b ≤ most_on_branch → Agree (walked T [] p) (walked T b p)
  unfolding walked
  walked_agree p h =
      let n : ℕ = most_on_branch - length b in
      let m : ℕ = most_on_branch - length {A = Place} [] in
      subst (λ d. Agree (walk_visits T m [] p) (walk_visits T n d p)) (append-nil b) (walk_visits_agree m n [] (omega (arith, h)) (omega (arith, h)) p)

  pub passed_agree : (p : Place) → length b ≤ most_on_branch → WaysAgree (passed T [] p) (passed T b p)
  unfolding passed
  passed_agree p h =
      let n : ℕ = most_on_branch - length b in
      let m : ℕ = most_on_branch - length {A = Place} [] in
      subst (λ d. WaysAgree (pass_visits T m [] p) (pass_visits T n d p)) (append-nil b) (pass_visits_agree m n [] (omega (arith, h)) (omega (arith, h)) p)
