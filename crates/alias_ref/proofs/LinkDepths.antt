-- A walk without a break has at most 256 links that follow one another.
use Rattle.std.proofs.Common.{◌≡◌, ℕ, zero, suc, ◌+◌, ◌-◌, List, [], ◌∷◌, ◌++◌, true, false, cond, Option, Some, None, length, refl, subst, arith}
use Rattle.std.specs.Prelude.{is_some}
use Rattle.name_path.specs.declared.place.Place.{Place}
use Rattle.alias_ref.specs.Written.{Step, Written, leaf, parts, refers, misspelled, WrittenPlaces, whole, part, is_misspelled, is_written}
use Rattle.alias_ref.specs.Visits.{Visit, visit, Way, since, way_of, settle_by, pass_visits, visits_each, walk_written, walk_visits, walked, walk_break, most_on_branch}
use Rattle.alias_ref.specs.inner.Seen.{Clean, HasParts, AllWritten}
use Rattle.alias_ref.specs.Depth.{LinkDepth, depth_leaf, depth_steps, depth_link, depth_parts, EachDepth, depth_none, depth_more}
use Rattle.alias_ref.proofs.FirstBreaks.{enters}
use Rattle.alias_ref.proofs.LinksOfParts.{way_end}
use Rattle.alias_ref.proofs.UnbrokenMeans.{Ending, clean_front, clean_first, way_end_is, at_end_means, front_of, settle_end, pass_end, more_room, no_room, if_new}

module _ (T : WrittenPlaces) where
  mutual
    deeper : {n : ℕ} {p : Place} → LinkDepth T n p → LinkDepth T (suc n) p
    deeper (depth_leaf e) = depth_leaf e
    deeper (depth_steps e) = depth_steps e
    deeper (depth_link e k) = depth_link e (deeper k)
    deeper (depth_parts e k) = depth_parts e (each_deeper k)

    each_deeper : {n : ℕ} {p : Place} {steps : List Step} → EachDepth T n p steps → EachDepth T (suc n) p steps
    each_deeper depth_none = depth_none
    each_deeper (depth_more k ks) = depth_more (deeper k) (each_deeper ks)

  abbrev Bounded : ℕ → (Place → List Visit) → Type 0
  Bounded d walk = (p : Place) (n k : ℕ) → is_written (T p) ≡ true → Clean T n k (walk p) → LinkDepth T d p

  each_depth : (d : ℕ) (walk : Place → List Visit) → Bounded d walk → (p : Place) (steps : List Step) (n k : ℕ) → AllWritten T p steps → Clean T n k (visits_each walk p steps) → EachDepth T (suc d) p steps
  unfolding visits_each
  each_depth d walk h p [] n k w c = depth_none
  each_depth d walk h p (s ∷ steps) n k w c =
      let split = clean_front T (walk (part p s)) (visits_each walk p steps) c in
      depth_more (deeper (h (part p s) n split.0 w.0 split.1)) (each_depth d walk h p steps split.0 k w.1 split.2)

  shape_depth : HasParts T → (d : ℕ) (settle : Place → Way) → Ending T settle → (walk : Place → List Visit) → Bounded d walk → (p : Place) (o : Option Written) (n k : ℕ) → T p ≡ o → is_written o ≡ true → is_misspelled o ≡ false → Clean T n k (walk_written T settle walk p o) → LinkDepth T (suc d) p
  shape_depth hp d settle h walk m p (Some (refers t [])) n k e w s c =
      let way : Way = way_of T settle p t [] in
      let front = front_of T way walk n k way.ends c in
      let has = at_end_means T way walk n k (way_end_is T settle h p t [] n front.0 front.1) c in
      let end = way_end T settle p has.0 t has.2 in
      depth_link e (subst (λ x. LinkDepth T d x) end (m has.0 has.1 k has.3 has.4))
  shape_depth hp d settle h walk m p (Some (refers t (r ∷ steps))) n k e w s c = depth_steps e
  shape_depth hp d settle h walk m p (Some misspelled) n k e w s c = cc
  shape_depth hp d settle h walk m p (Some (leaf v)) n k e w s c = depth_leaf e
  shape_depth hp d settle h walk m p (Some (parts x steps)) n k e w s c = depth_parts e (each_depth d walk m p steps n k (hp p x steps e) c)
  shape_depth hp d settle h walk m p None n k e w s c = cc

  walk_depth : HasParts T → (d : ℕ) (b : List Place) → d + length b ≡ most_on_branch → Bounded d (walk_visits T d b)
  unfolding walk_visits
  walk_depth hp zero b r p n k w c = absurd (no_room T b r (enters T n b p (clean_first T (visit b p) [] c).0).room)
  walk_depth hp (suc d) b r p n k w c =
      let pass : Place → Way = pass_visits T d (b ++ p ∷ []) in
      let walk : Place → List Visit = walk_visits T d (b ++ p ∷ []) in
      let asked : List Visit = walk_written T (settle_by T pass) walk p (T p) in
      let first = clean_first T (visit b p) (cond (is_some (since p b)) [] asked) c in
      let e = enters T n b p first.0 in
      let room = more_room T d b p r in
      shape_depth hp d (settle_by T pass) (settle_end T pass (pass_end T d (b ++ p ∷ []) room)) walk (walk_depth hp d (b ++ p ∷ []) room) p (T p) (n + 1) k refl w e.spelled
      (subst (λ x. Clean T (n + 1) k x) (if_new T p b asked e.is_new) first.1)

  pub unbroken_depth : HasParts T → (t : List Step) → is_written (T (whole t)) ≡ true → walk_break T t ≡ None → LinkDepth T most_on_branch (whole t)
  unfolding walked
  unbroken_depth hp t w h = walk_depth hp (most_on_branch - length {A = Place} []) [] (omega arith) (whole t) 0 (0 + length (walked T [] (whole t))) w (record { unbroken = h; counted = refl })
