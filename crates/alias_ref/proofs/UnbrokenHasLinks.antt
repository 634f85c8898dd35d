-- A walk without a break finds the kind of a token, and links.
use Rattle.std.proofs.Common.{◌≡◌, ℕ, zero, suc, ◌+◌, ◌-◌, List, [], ◌∷◌, ◌++◌, true, false, cond, Option, Some, None, length, refl, subst, arith}
use Rattle.std.specs.Prelude.{is_some}
use Rattle.group_inherit.specs.Merging.{either}
use Rattle.name_path.specs.declared.kind.Kind.{Kind}
use Rattle.name_path.specs.declared.link.Link.{Link}
use Rattle.name_path.specs.declared.place.Place.{Place}
use Rattle.alias_ref.specs.Written.{Step, Written, leaf, parts, refers, misspelled, WrittenPlaces, whole, part, is_misspelled, is_written}
use Rattle.alias_ref.specs.Visits.{Visit, visit, Way, since, way_of, settle_by, pass_visits, visits_each, walk_written, walk_visits, walked, walk_break, most_on_branch}
use Rattle.alias_ref.specs.Kinds.{Kinds, KindOf, LinksAt, links_leaf, links_parts, LinksEach, each_done, each_more}
use Rattle.alias_ref.specs.inner.Linking.{lent, link_here}
use Rattle.alias_ref.specs.inner.Seen.{Clean, HasParts, AllWritten}
use Rattle.alias_ref.proofs.FirstBreaks.{enters}
use Rattle.alias_ref.proofs.LinksOfParts.{alone, refers_kind, refers_links}
use Rattle.alias_ref.proofs.UnbrokenMeans.{Ending, clean_front, clean_first, way_end_is, at_end_means, front_of, settle_end, pass_end, more_room, no_room, if_new}

module _ (T : WrittenPlaces) (own group : Kinds) where
  -- the kind of the token whose whole value stands at a place, and the links of the place
  pub record Found (p : Place) : Type 0 where
    pub kind : Option Kind
    pub is_kind : p.trail ≡ [] → KindOf T own group p.token kind
    pub links : List Link
    pub are_links : LinksAt T own group p links

  abbrev Finds : (Place → List Visit) → Type 0
  Finds walk = (p : Place) (n k : ℕ) → is_written (T p) ≡ true → Clean T n k (walk p) → Found p

  each_found : (walk : Place → List Visit) → Finds walk → (p : Place) (steps : List Step) (n k : ℕ) → AllWritten T p steps → Clean T n k (visits_each walk p steps) → (ls : List Link) × LinksEach T own group p steps ls
  unfolding visits_each
  each_found walk h p [] n k w c = ([], each_done)
  each_found walk h p (s ∷ steps) n k w c =
      let split = clean_front T (walk (part p s)) (visits_each walk p steps) c in
      let here = h (part p s) n split.0 w.0 split.1 in
      let rest = each_found walk h p steps split.0 k w.1 split.2 in
      (here.links ++ rest.0, each_more here.are_links rest.1 refl)

  shape_found : HasParts T → (settle : Place → Way) → Ending T settle → (walk : Place → List Visit) → Finds walk → (p : Place) (o : Option Written) (n k : ℕ) → T p ≡ o → is_written o ≡ true → is_misspelled o ≡ false → Clean T n k (walk_written T settle walk p o) → Found p
  shape_found hp settle h walk m p (Some (refers t steps)) n k e w s c =
      let way : Way = way_of T settle p t steps in
      let front = front_of T way walk n k way.ends c in
      let has = at_end_means T way walk n k (way_end_is T settle h p t steps n front.0 front.1) c in
      let there = m has.0 has.1 k has.3 has.4 in
      record {
        kind = either (own p.token) (either (lent there.kind steps) (group p.token));
        is_kind = λ at. refers_kind T own group settle p has.0 t steps there.kind _ e has.2 there.is_kind refl at;
        links = link_here p t there.kind steps;
        are_links = refers_links T own group settle p has.0 t steps there.kind _ e has.2 there.is_kind refl;
      }
  shape_found hp settle h walk m p (Some misspelled) n k e w s c = absurd (cc)
  shape_found hp settle h walk m p (Some (leaf v)) n k e w s c = record {
    kind = either (own p.token) (group p.token);
    is_kind = λ at. alone T own group p (leaf v) _ e refl at refl;
    links = [];
    are_links = links_leaf e;
  }
  shape_found hp settle h walk m p (Some (parts x steps)) n k e w s c =
      let each = each_found walk m p steps n k (hp p x steps e) c in
      record {
        kind = either (own p.token) (group p.token);
        is_kind = λ at. alone T own group p (parts x steps) _ e refl at refl;
        links = each.0;
        are_links = links_parts e each.1;
      }
  shape_found hp settle h walk m p None n k e w s c = absurd (cc)

  walk_found : HasParts T → (d : ℕ) (b : List Place) → d + length b ≡ most_on_branch → Finds (walk_visits T d b)
  unfolding walk_visits
  walk_found hp zero b r p n k w c = absurd (no_room T b r (enters T n b p (clean_first T (visit b p) [] c).0).room)
  walk_found hp (suc d) b r p n k w c =
      let pass : Place → Way = pass_visits T d (b ++ p ∷ []) in
      let walk : Place → List Visit = walk_visits T d (b ++ p ∷ []) in
      let asked : List Visit = walk_written T (settle_by T pass) walk p (T p) in
      let first = clean_first T (visit b p) (cond (is_some (since p b)) [] asked) c in
      let e = enters T n b p first.0 in
      let room = more_room T d b p r in
      shape_found hp (settle_by T pass) (settle_end T pass (pass_end T d (b ++ p ∷ []) room)) walk (walk_found hp d (b ++ p ∷ []) room) p (T p) (n + 1) k refl w e.spelled
      (subst (λ x. Clean T (n + 1) k x) (if_new T p b asked e.is_new) first.1)

  pub unbroken_found : HasParts T → (t : List Step) → is_written (T (whole t)) ≡ true → walk_break T t ≡ None → Found (whole t)
  unfolding walked
  unbroken_found hp t w h = walk_found hp (most_on_branch - length {A = Place} []) [] (omega arith) (whole t) 0 (0 + length (walked T [] (whole t))) w (record { unbroken = h; counted = refl })
