-- Before each visit there are at least as many visits as places on its branch.
use Rattle.std.proofs.Common.{◌≡◌, ℕ, zero, suc, ◌+◌, ◌-◌, ◌<◌, ◌≤◌, List, [], ◌∷◌, ◌++◌, Bool, true, false, cond, Option, Some, None, length, ap, arith, length-append, inl, inr}
use Rattle.std.specs.Prelude.{is_some}
use Rattle.ring.specs.Lists.{In}
use Rattle.name_path.specs.declared.place.Place.{Place}
use Rattle.alias_ref.specs.Written.{Step, Written, leaf, parts, refers, misspelled, WrittenPlaces, whole, part, is_reference, is_written}
use Rattle.alias_ref.specs.Visits.{Visit, visit, lost, Way, goes_on, since, go_if, steps_from, way_of, settled, settle_by, pass_written, unless_stands, pass_visits, visits_each, at_end, walk_written, walk_visits, most_on_branch, walked, passed}

-- the first branch has at most k places, and each further one may have one more
abbrev Rises : ℕ → List Visit → Type 0
Rises k [] = Unit {0}
Rises k (visit c x ∷ es) = (length c ≤ k) × Rises (k + 1) es
Rises k (lost x ∷ es) = Rises (k + 1) es

rises_more : (k j : ℕ) (es : List Visit) → k ≤ j → Rises k es → Rises j es
rises_more k j [] h r = tt
rises_more k j (visit c x ∷ es) h (few, r) = (omega (arith, h, few), rises_more (k + 1) (j + 1) es (omega (arith, h)) r)
rises_more k j (lost x ∷ es) h r = rises_more (k + 1) (j + 1) es (omega (arith, h)) r

rises_append : (k : ℕ) (xs ys : List Visit) → Rises k xs → Rises k ys → Rises k (xs ++ ys)
rises_append k [] ys r s = s
rises_append k (visit c x ∷ xs) ys (few, r) s = (few, rises_append (k + 1) xs ys r (rises_more k (k + 1) ys (omega arith) s))
rises_append k (lost x ∷ xs) ys r s = rises_append (k + 1) xs ys r (rises_more k (k + 1) ys (omega arith) s)

rises_at : (k : ℕ) (es : List Visit) → Rises k es → (c : List Place) (x : Place) → In (visit c x) es → length c < k + length es
rises_at k [] r c x i = absurd i
rises_at k (visit a y ∷ es) (few, r) c x (inl s) = let same : c ≡ a = cc in omega (arith, few, ap length same)
rises_at k (visit a y ∷ es) (few, r) c x (inr i) = let h = rises_at (k + 1) es r c x i in omega (arith, h)
rises_at k (lost y ∷ es) r c x (inl s) = absurd (cc)
rises_at k (lost y ∷ es) r c x (inr i) = let h = rises_at (k + 1) es r c x i in omega (arith, h)

module _ (T : WrittenPlaces) (k : ℕ) where
  abbrev WaysRise : (Place → Way) → Type 0
  WaysRise f = (p : Place) → Rises k (f p).seen

  abbrev ListsRise : (Place → List Visit) → Type 0
  ListsRise u = (p : Place) → Rises k (u p)

  goes_on_rises : (xs : List Visit) (o : Option Place) (f : Place → Way) → Rises k xs → WaysRise f → Rises k (goes_on xs o f).seen
  goes_on_rises xs None f r h = r
  goes_on_rises xs (Some q) f r h = rises_append k xs (f q).seen r (h q)

  go_if_rises : (t : Bool) (home : Place) (w : Way) → Rises k w.seen → Rises k (go_if t home w).seen
  go_if_rises true home w r = r
  go_if_rises false home w r = tt

  settled_rises : (t : Bool) (f : Place → Way) (p : Place) → WaysRise f → Rises k (settled t f p).seen
  settled_rises true f p h = h p
  settled_rises false f p h = tt

  settle_by_rises : (f : Place → Way) → WaysRise f → WaysRise (settle_by T f)
  settle_by_rises f h p = settled_rises (is_reference (T p)) f p h

  steps_from_rises : (f : Place → Way) → WaysRise f → (home p : Place) (steps : List Step) → Rises k (steps_from T f home p steps).seen
  unfolding steps_from
  steps_from_rises f h home p [] = tt
  steps_from_rises f h home p (s ∷ steps) =
      goes_on_rises (f p).seen (f p).ends (λ q. go_if (is_written (T (part q s))) home (steps_from T f home (part q s) steps)) (h p)
      (λ q. go_if_rises (is_written (T (part q s))) home (steps_from T f home (part q s) steps) (steps_from_rises f h home (part q s) steps))

  way_of_rises : (f : Place → Way) → WaysRise f → (home : Place) (t steps : List Step) → Rises k (way_of T f home t steps).seen
  way_of_rises f h home t steps = go_if_rises (is_written (T (whole t))) home (steps_from T f home (whole t) steps) (steps_from_rises f h home (whole t) steps)

  pass_written_rises : (f : Place → Way) → WaysRise f → (p : Place) (o : Option Written) → Rises k (pass_written T f p o).seen
  pass_written_rises f h p (Some (refers t steps)) = goes_on_rises (way_of T f p t steps).seen (way_of T f p t steps).ends f (way_of_rises f h p t steps) h
  pass_written_rises f h p (Some misspelled) = tt
  pass_written_rises f h p (Some (leaf v)) = tt
  pass_written_rises f h p (Some (parts c steps)) = tt
  pass_written_rises f h p None = tt

  unless_rises : (t : Bool) (w : Way) → Rises k w.seen → Rises k (unless_stands t w).seen
  unless_rises true w r = tt
  unless_rises false w r = r

  at_end_rises : (xs : List Visit) (o : Option Place) (u : Place → List Visit) → Rises k xs → ListsRise u → Rises k (at_end xs o u)
  at_end_rises xs None u r h = r
  at_end_rises xs (Some q) u r h = rises_append k xs (u q) r (h q)

  each_rises : (u : Place → List Visit) → ListsRise u → (p : Place) (steps : List Step) → Rises k (visits_each u p steps)
  unfolding visits_each
  each_rises u h p [] = tt
  each_rises u h p (s ∷ steps) = rises_append k (u (part p s)) (visits_each u p steps) (h (part p s)) (each_rises u h p steps)

  walk_written_rises : (f : Place → Way) → WaysRise f → (u : Place → List Visit) → ListsRise u → (p : Place) (o : Option Written) → Rises k (walk_written T f u p o)
  walk_written_rises f h u l p (Some (refers t steps)) = at_end_rises (way_of T f p t steps).seen (way_of T f p t steps).ends u (way_of_rises f h p t steps) l
  walk_written_rises f h u l p (Some misspelled) = tt
  walk_written_rises f h u l p (Some (leaf v)) = tt
  walk_written_rises f h u l p (Some (parts c steps)) = each_rises u l p steps
  walk_written_rises f h u l p None = tt

  if_rises : (t : Bool) (es : List Visit) → Rises k es → Rises k (cond t [] es)
  if_rises true es r = tt
  if_rises false es r = r

module _ (T : WrittenPlaces) where
  one_longer : (b : List Place) (p : Place) → length (b ++ p ∷ []) ≤ length b + 1
  one_longer b p = omega (arith, length-append b (p ∷ []))

  pass_visits_rises : (n : ℕ) (b : List Place) (p : Place) → Rises (length b) (pass_visits T n b p).seen
  unfolding pass_visits
  pass_visits_rises zero b p = (omega arith, tt)
  pass_visits_rises (suc n) b p =
      let k : ℕ = length b + 1 in
      let pass : Place → Way = pass_visits T n (b ++ p ∷ []) in
      let h : (q : Place) → Rises k (pass q).seen = λ q. rises_more (length (b ++ p ∷ [])) k (pass q).seen (one_longer b p) (pass_visits_rises n (b ++ p ∷ []) q) in
      (omega arith, unless_rises T k (is_some (since p b)) (pass_written T (settle_by T pass) p (T p)) (pass_written_rises T k (settle_by T pass) (settle_by_rises T k pass h) p (T p)))

  walk_visits_rises : (n : ℕ) (b : List Place) (p : Place) → Rises (length b) (walk_visits T n b p)
  unfolding walk_visits
  walk_visits_rises zero b p = (omega arith, tt)
  walk_visits_rises (suc n) b p =
      let k : ℕ = length b + 1 in
      let pass : Place → Way = pass_visits T n (b ++ p ∷ []) in
      let walk : Place → List Visit = walk_visits T n (b ++ p ∷ []) in
      let h : (q : Place) → Rises k (pass q).seen = λ q. rises_more (length (b ++ p ∷ [])) k (pass q).seen (one_longer b p) (pass_visits_rises n (b ++ p ∷ []) q) in
      let l : (q : Place) → Rises k (walk q) = λ q. rises_more (length (b ++ p ∷ [])) k (walk q) (one_longer b p) (walk_visits_rises n (b ++ p ∷ []) q) in
      (omega arith, if_rises T k (is_some (since p b)) (walk_written T (settle_by T pass) walk p (T p)) (walk_written_rises T k (settle_by T pass) (settle_by_rises T k pass h) walk l p (T p)))

  pub walked_rises : (b : List Place) (p : Place) (c : List Place) (x : Place) → In (visit c x) (walked T b p) → length c < length b + length (walked T b p)
  unfolding walked
  walked_rises b p c x i = rises_at (length b) (walk_visits T (most_on_branch - length b) b p) (walk_visits_rises (most_on_branch - length b) b p) c x i

  pub passed_rises : (b : List Place) (p : Place) (c : List Place) (x : Place) → In (visit c x) (passed T b p).seen → length c < length b + length (passed T b p).seen
  unfolding passed
  passed_rises b p c x i = rises_at (length b) (pass_visits T (most_on_branch - length b) b p).seen (pass_visits_rises (most_on_branch - length b) b p) c x i
