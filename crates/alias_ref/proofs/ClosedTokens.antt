-- Walks that stay among tokens whose references name one another.
use Rattle.std.proofs.Common.{◌+◌, ◌≡◌, ℕ, zero, suc, ◌-◌, ◌<◌, ◌≤◌, List, [], ◌∷◌, ◌++◌, Bool, true, false, cond, Option, Some, None, length, refl, sym, ap, ◌∙◌, subst, arith, inl, inr}
use Rattle.std.specs.Prelude.{is_some, nat_le, ◌⊎◌}
use Rattle.std.specs.Cmp.Lexicographic.{pointwise}
use Rattle.std.specs.Str.{bytes_eq}
use Rattle.std.specs.FinMap as flat_map
use Rattle.tk_io.specs.Order.{names_cmp}
use Rattle.group_inherit.specs.Flattening.{Flattened}
use Rattle.ring.specs.Lists.{In}
use Rattle.name_path.specs.declared.place.Place.{Place}
use Rattle.alias_ref.specs.Written.{Step, Written, leaf, parts, refers, misspelled, WrittenPlaces, whole, part, is_reference, is_written, written_in}
use Rattle.alias_ref.specs.Visits.{most_visits, Visit, visit, lost, Way, ends_at, goes_on, then_go, since, go_if, steps_from, way_of, settled, settle_by, pass_written, unless_stands, pass_visits, visits_each, walk_written, walk_visits, most_on_branch, walked, passed}
use Rattle.alias_ref.specs.Asking.{Lacks, lacks_none, lacks}
use Rattle.alias_ref.specs.Remembered.{Avoids, IsClosed, NoneAmong, NamesNoGreater, AboveOf, with_number, HasNoGreater, HasMeasures, IsKnown}
use Rattle.json_span.specs.PlainView.{Value}
use Rattle.name_path.specs.declared.kind.Kind.{Kind}
use Rattle.alias_ref.specs.Meaning.{Means}
use Rattle.alias_ref.specs.Kinds.{KindOf, own_in, group_in}
use Rattle.alias_ref.specs.Refs.{refs_of}
use Rattle.alias_ref.proofs.RefsAreWritten.{reference_listed}
use Rattle.alias_ref.proofs.SamePlaces.{same_steps-is, same_steps}
use Rattle.alias_ref.proofs.BranchesAreChains.{Each, Each-append, at_end_each}
use Rattle.alias_ref.proofs.RememberedWalks.{Each-at, measures_below, measures_kept}

-- each reference that is written in one of these tokens names one of them
abbrev Closes : WrittenPlaces → (List Step → Type 0) → Type 0
Closes T Among = (p : Place) (token steps : List Step) → Among p.token → T p ≡ Some (refers token steps) → Among token

module _ (T : WrittenPlaces) (Among : List Step → Type 0) (closed : Closes T Among) where
  abbrev Is : Place → Type 0
  Is p = Among p.token

  -- no place of the branch is in one of them
  abbrev IsApartFrom : List Place → Type 0
  IsApartFrom b = (q : Place) → In q b → Is q → ⊥

  abbrev Stays : Visit → Type 0
  Stays (visit b p) = Is p
  Stays (lost p) = Unit {0}

  -- a way that visits and ends among them
  record WayStays (w : Way) : Type 0 where
    ends : (q : Place) → w.ends ≡ Some q → Is q
    all : Each Stays w.seen

  abbrev AllStay : (Place → Way) → Type 0
  AllStay f = (p : Place) → Is p → WayStays (f p)

  abbrev ListsStay : (Place → List Visit) → Type 0
  ListsStay u = (p : Place) → Is p → Each Stays (u p)

  stops : (xs : List Visit) → Each Stays xs → WayStays (record { seen = xs; ends = None })
  stops xs h = record { ends = λ q e. absurd (cc); all = h }

  arrives : (p : Place) → Is p → WayStays (ends_at p)
  arrives p h = record { ends = λ q e. let same : p ≡ q = cc in subst Is same h; all = tt }

  goes_on_stays : (xs : List Visit) (o : Option Place) (f : Place → Way) → Each Stays xs → ((q : Place) → o ≡ Some q → WayStays (f q)) → WayStays (goes_on xs o f)
  goes_on_stays xs None f h k = stops xs h
  goes_on_stays xs (Some q) f h k = let r = k q refl in record { ends = r.ends; all = Each-append Stays xs (f q).seen h r.all }

  then_go_stays : (w : Way) (f : Place → Way) → WayStays w → ((q : Place) → Is q → WayStays (f q)) → WayStays (then_go w f)
  then_go_stays w f h k = goes_on_stays w.seen w.ends f h.all (λ q e. k q (h.ends q e))

  go_if_stays : (t : Bool) (home : Place) (w : Way) → WayStays w → WayStays (go_if t home w)
  go_if_stays true home w h = h
  go_if_stays false home w h = stops (lost home ∷ []) (tt, tt)

  settled_stays : (t : Bool) (f : Place → Way) (p : Place) → Is p → AllStay f → WayStays (settled t f p)
  settled_stays true f p h k = k p h
  settled_stays false f p h k = arrives p h

  settle_by_stays : (f : Place → Way) → AllStay f → AllStay (settle_by T f)
  settle_by_stays f k p h = settled_stays (is_reference (T p)) f p h k

  steps_from_stays : (f : Place → Way) → AllStay f → (home p : Place) (steps : List Step) → Is p → WayStays (steps_from T f home p steps)
  unfolding steps_from
  steps_from_stays f k home p [] h = arrives p h
  steps_from_stays f k home p (s ∷ steps) h =
      then_go_stays (f p) (λ q. go_if (is_written (T (part q s))) home (steps_from T f home (part q s) steps)) (k p h)
      (λ q r. go_if_stays (is_written (T (part q s))) home (steps_from T f home (part q s) steps) (steps_from_stays f k home (part q s) steps r))

  way_of_stays : (f : Place → Way) → AllStay f → (home : Place) (t steps : List Step) → Among t → WayStays (way_of T f home t steps)
  way_of_stays f k home t steps h = go_if_stays (is_written (T (whole t))) home (steps_from T f home (whole t) steps) (steps_from_stays f k home (whole t) steps h)

  pass_written_stays : (f : Place → Way) → AllStay f → (p : Place) (o : Option Written) → Is p → T p ≡ o → WayStays (pass_written T f p o)
  pass_written_stays f k p (Some (refers t steps)) h e = then_go_stays (way_of T f p t steps) f (way_of_stays f k p t steps (closed p t steps h e)) k
  pass_written_stays f k p (Some misspelled) h e = stops [] tt
  pass_written_stays f k p (Some (leaf v)) h e = arrives p h
  pass_written_stays f k p (Some (parts c steps)) h e = arrives p h
  pass_written_stays f k p None h e = stops [] tt

  unless_stays : (t : Bool) (w : Way) → WayStays w → WayStays (unless_stands t w)
  unless_stays true w h = stops [] tt
  unless_stays false w h = h

  pass_visits_stays : (n : ℕ) (b : List Place) → AllStay (pass_visits T n b)
  unfolding pass_visits
  pass_visits_stays zero b p h = stops (visit b p ∷ []) (h, tt)
  pass_visits_stays (suc n) b p h =
      let f : Place → Way = settle_by T (pass_visits T n (b ++ p ∷ [])) in
      let r = unless_stays (is_some (since p b)) (pass_written T f p (T p)) (pass_written_stays f (settle_by_stays (pass_visits T n (b ++ p ∷ [])) (pass_visits_stays n (b ++ p ∷ []))) p (T p) h refl) in
      record { ends = r.ends; all = (h, r.all) }

  each_stays : (u : Place → List Visit) → ListsStay u → (p : Place) (steps : List Step) → Is p → Each Stays (visits_each u p steps)
  unfolding visits_each
  each_stays u k p [] h = tt
  each_stays u k p (s ∷ steps) h = Each-append Stays (u (part p s)) (visits_each u p steps) (k (part p s) h) (each_stays u k p steps h)

  walk_written_stays : (f : Place → Way) → AllStay f → (u : Place → List Visit) → ListsStay u → (p : Place) (o : Option Written) → Is p → T p ≡ o → Each Stays (walk_written T f u p o)
  walk_written_stays f k u l p (Some (refers t steps)) h e =
      let w : Way = way_of T f p t steps in
      let r = way_of_stays f k p t steps (closed p t steps h e) in
      at_end_each Stays w.seen w.ends u r.all (λ q s. l q (r.ends q s))
  walk_written_stays f k u l p (Some misspelled) h e = tt
  walk_written_stays f k u l p (Some (leaf v)) h e = tt
  walk_written_stays f k u l p (Some (parts c steps)) h e = each_stays u l p steps h
  walk_written_stays f k u l p None h e = tt

  if_stays : (t : Bool) (es : List Visit) → Each Stays es → Each Stays (cond t [] es)
  if_stays true es h = tt
  if_stays false es h = h

  walk_visits_stays : (n : ℕ) (b : List Place) → ListsStay (walk_visits T n b)
  unfolding walk_visits
  walk_visits_stays zero b p h = (h, tt)
  walk_visits_stays (suc n) b p h =
      let f : Place → Way = settle_by T (pass_visits T n (b ++ p ∷ [])) in
      let u : Place → List Visit = walk_visits T n (b ++ p ∷ []) in (
        h,
        if_stays (is_some (since p b)) (walk_written T f u p (T p))
            (walk_written_stays f (settle_by_stays (pass_visits T n (b ++ p ∷ [])) (pass_visits_stays n (b ++ p ∷ []))) u (walk_visits_stays n (b ++ p ∷ [])) p (T p) h refl),
      )

  lacks_other : (x : Place) (b : List Place) → Is x → IsApartFrom b → Lacks x b
  lacks_other x [] h k = lacks_none
  lacks_other x (q ∷ b) h k = lacks (λ e. k q (inl refl) (subst Is e h)) (lacks_other x b h (λ y i. k y (inr i)))

  avoids_of : (b : List Place) (es : List Visit) → IsApartFrom b → Each Stays es → Avoids b es
  avoids_of b es k h c x i = lacks_other x b (Each-at Stays es h (visit c x) i) k

  pub among_avoid : (b c : List Place) (p : Place) → Is p → IsApartFrom b → Avoids b (walked T c p) × Avoids b (passed T c p).seen
  unfolding walked passed
  among_avoid b c p h k = (
    avoids_of b (walk_visits T (most_on_branch - length c) c p) k (walk_visits_stays (most_on_branch - length c) c p h),
    avoids_of b (pass_visits T (most_on_branch - length c) c p).seen k (pass_visits_stays (most_on_branch - length c) c p h).all,
  )

pub closed_avoid : (T : WrittenPlaces) (among : List Step → Bool) → IsClosed T among → (b c : List Place) (p : Place) → among p.token ≡ true → NoneAmong among b
    → Avoids b (walked T c p) × Avoids b (passed T c p).seen
closed_avoid T among closed b c p h k =
    among_avoid T (λ t. among t ≡ true) closed b c p h (λ q i e. let both : true ≡ false = sym e ∙ k q i in absurd (cc))

-- Tokens that have numbers: those of a number at most i name one another.

abbrev at_most : ℕ → Option ℕ → Bool
at_most i None = false
at_most i (Some j) = nat_le j i

at_most_is : (i : ℕ) (o : Option ℕ) → at_most i o ≡ true → (j : ℕ) × (o ≡ Some j) × (j ≤ i)
at_most_is i None h = absurd (cc)
at_most_is i (Some j) h = (j, refl, grind (arith, h))

at_most_of : (i j : ℕ) (o : Option ℕ) → o ≡ Some j → j ≤ i → at_most i o ≡ true
at_most_of i j o e h = ap (at_most i) e ∙ grind (arith, h)

at_most_not : (i : ℕ) (o : Option ℕ) → ((j : ℕ) → o ≡ Some j → i < j) → at_most i o ≡ false
at_most_not i None h = refl
at_most_not i (Some j) h = let k : i < j = h j refl in grind (arith, k)

pub numbered_avoid : (T : WrittenPlaces) (number : List Step → Option ℕ) → NamesNoGreater T number → (b c : List Place) (p : Place) (i : ℕ) → number p.token ≡ Some i → AboveOf number i b
    → Avoids b (walked T c p) × Avoids b (passed T c p).seen
numbered_avoid T number smaller b c p i h above =
    closed_avoid T (λ t. at_most i (number t))
    (λ q u steps m e.
    let k = at_most_is i (number q.token) m in
    let s = smaller q u steps k.0 k.1 e in
    at_most_of i s.0 (number u) s.1 (omega (arith, k.2, s.2)))
    b c p (at_most_of i i (number p.token) h (omega arith)) (λ q m. at_most_not i (number q.token) (above q m))

-- a token gets a number

number_is : (c : Bool) (i j : ℕ) (o : Option ℕ) → cond c (Some i) o ≡ Some j → ((c ≡ true) × (i ≡ j)) ⊎ ((c ≡ false) × (o ≡ Some j))
number_is true i j o h = inl (refl, cc)
number_is false i j o h = inr (refl, h)

pub numbers_grow : (T : WrittenPlaces) (number : List Step → Option ℕ) (t : List Step) (i : ℕ) → NamesNoGreater T number → number t ≡ None
    → ((p : Place) (token steps : List Step) → p.token ≡ t → T p ≡ Some (refers token steps) → HasNoGreater number t i token) → NamesNoGreater T (with_number t i number)
numbers_grow T number t i less new names p u steps k h e =
    elim (number_is (pointwise bytes_eq p.token t) i k (number p.token) h) as (λ _. (j : ℕ) × (with_number t i number u ≡ Some j) × (j ≤ k)) [
      | inl (s, same) ↦ elim (names p u steps (same_steps-is p.token t s) e) as (λ _. (j : ℕ) × (with_number t i number u ≡ Some j) × (j ≤ k)) [
        | inl itself ↦ (i, ap (λ c. cond c (Some i) (number u)) (same_steps u t itself), omega (arith, same))
        | inr n ↦ (n.0, kept u n.0 n.1, omega (arith, n.2, same))
      ]
      | inr (s, was) ↦ let n = less p u steps k was e in (n.0, kept u n.0 n.1, n.2)
    ]
  where
    kept_if : (c : Bool) (u : List Step) (j : ℕ) → pointwise bytes_eq u t ≡ c → number u ≡ Some j → with_number t i number u ≡ Some j
    kept_if true u j s h = let same : u ≡ t = same_steps-is u t s in let bad : None ≡ Some j = sym new ∙ ap number (sym same) ∙ h in absurd (cc)
    kept_if false u j s h = ap (λ c. cond c (Some i) (number u)) s ∙ h

    kept : (u : List Step) (j : ℕ) → number u ≡ Some j → with_number t i number u ≡ Some j
    kept u j h = kept_if (pointwise bytes_eq u t) u j refl h

pub listed_have_numbers : (flat : flat_map.FinMap names_cmp Flattened) (number : List Step → Option ℕ) (t : List Step) (i : ℕ) → NamesNoGreater (written_in flat) number → number t ≡ None
    → ((f : Flattened) → flat_map.get flat t ≡ Some f → (token : List Step) → In token (refs_of f.def) → HasNoGreater number t i token) → NamesNoGreater (written_in flat) (with_number t i number)
listed_have_numbers flat number t i less new names =
    numbers_grow (written_in flat) number t i less new
    (λ p u steps e is. let r = reference_listed flat p u steps is in names r.0 (subst (λ x. flat_map.get flat x ≡ Some r.0) e r.1) u r.2)

-- a table of known tokens

pub known_is_walked : (flat : flat_map.FinMap names_cmp Flattened) (number : List Step → Option ℕ) (b : List Place) (token : List Step) (i n d k : ℕ) (v : Value) (kind : Option Kind)
    → NamesNoGreater (written_in flat) number → IsKnown flat token n d v kind → number token ≡ Some i → AboveOf number i b → length b + d < most_on_branch → k + n ≤ most_visits
    → HasMeasures (written_in flat) k (walked (written_in flat) b (whole token)) n (length b + d)
known_is_walked flat number b token i n d k v kind less known is above room few =
    measures_below (written_in flat) b (whole token) n d k known.measures (numbered_avoid (written_in flat) number less b [] (whole token) i is above).0 room few

pub walked_is_known : (flat : flat_map.FinMap names_cmp Flattened) (b : List Place) (token : List Step) (n d k : ℕ) (v : Value) (kind : Option Kind)
    → HasMeasures (written_in flat) k (walked (written_in flat) b (whole token)) n (length b + d) → Means (written_in flat) (whole token) v
    → KindOf (written_in flat) (own_in flat) (group_in flat) token kind → IsKnown flat token n d v kind
walked_is_known flat b token n d k v kind m means is = record { measures = measures_kept (written_in flat) b (whole token) n d k m; means = means; kind = is }
