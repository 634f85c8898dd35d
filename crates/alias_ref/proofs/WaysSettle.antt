-- A way that has an end settles there.
use Rattle.std.proofs.Common.{◌≡◌, ℕ, zero, suc, List, [], ◌∷◌, ◌++◌, Bool, true, false, Option, Some, None, refl, ap, subst}
use Rattle.std.specs.Prelude.{is_some}
use Rattle.name_path.specs.declared.place.Place.{Place}
use Rattle.alias_ref.specs.Written.{Step, Written, leaf, parts, refers, misspelled, WrittenPlaces, whole, part, is_reference, is_written}
use Rattle.alias_ref.specs.Meaning.{Leads, leads, Goes, arrived, onward, Settles, stays, follows}
use Rattle.alias_ref.specs.Visits.{Visit, Way, goes_on, since, go_if, steps_from, way_of, settled, settle_by, pass_written, unless_stands, pass_visits}

pub goes_on_ends : (xs : List Visit) (o : Option Place) (next : Place → Way) {r : Place} → (goes_on xs o next).ends ≡ Some r → (q : Place) × (o ≡ Some q) × ((next q).ends ≡ Some r)
goes_on_ends xs None next h = cc
goes_on_ends xs (Some q) next h = (q, refl, h)

pub go_if_ends : (b : Bool) (home : Place) (w : Way) {r : Place} → (go_if b home w).ends ≡ Some r → (b ≡ true) × (w.ends ≡ Some r)
go_if_ends true home w h = (refl, h)
go_if_ends false home w h = cc

module _ (T : WrittenPlaces) where
  -- each way that has an end settles there
  abbrev pub DoSettle : (Place → Way) → Type 0
  DoSettle settle = (x y : Place) → (settle x).ends ≡ Some y → Settles T x y

  pub steps_from-goes : (settle : Place → Way) → DoSettle settle → (home p q : Place) (steps : List Step) → (steps_from T settle home p steps).ends ≡ Some q → Goes T p steps q
  unfolding steps_from
  steps_from-goes settle ok home p q [] h = let e : p ≡ q = cc in subst (λ x. Goes T p [] x) e arrived
  steps_from-goes settle ok home p q (s ∷ steps) h =
      let next : Place → Way = λ x. go_if (is_written (T (part x s))) home (steps_from T settle home (part x s) steps) in
      let a = goes_on_ends (settle p).seen (settle p).ends next h in
      let b = go_if_ends (is_written (T (part a.0 s))) home (steps_from T settle home (part a.0 s) steps) a.2 in
      onward (ok p a.0 a.1) b.0 (steps_from-goes settle ok home (part a.0 s) q steps b.1)

  pub way_of-leads : (settle : Place → Way) → DoSettle settle → (p q : Place) (t : List Step) (steps : List Step) → T p ≡ Some (refers t steps) → (way_of T settle p t steps).ends ≡ Some q → Leads T p q
  way_of-leads settle ok p q t steps e h =
      let b = go_if_ends (is_written (T (whole t))) p (steps_from T settle p (whole t) steps) h in
      leads e b.0 (steps_from-goes settle ok p (whole t) q steps b.1)

  settled-settles : (pass : Place → Way) → DoSettle pass → (p q : Place) (b : Bool) → is_reference (T p) ≡ b → (settled b pass p).ends ≡ Some q → Settles T p q
  settled-settles pass ok p q true e h = ok p q h
  settled-settles pass ok p q false e h = let same : p ≡ q = cc in subst (λ x. Settles T p x) same (stays e)

  pub settle_by-settles : (pass : Place → Way) → DoSettle pass → DoSettle (settle_by T pass)
  settle_by-settles pass ok p q h = settled-settles pass ok p q (is_reference (T p)) refl h

  pass_written-settles : (settle : Place → Way) → DoSettle settle → (p q : Place) (o : Option Written) → T p ≡ o → (pass_written T settle p o).ends ≡ Some q → Settles T p q
  pass_written-settles settle ok p q (Some (refers t steps)) e h =
      let w : Way = way_of T settle p t steps in
      let a = goes_on_ends w.seen w.ends settle h in
      follows (way_of-leads settle ok p a.0 t steps e a.1) (ok a.0 q a.2)
  pass_written-settles settle ok p q (Some misspelled) e h = cc
  pass_written-settles settle ok p q (Some (leaf n)) e h = let same : p ≡ q = cc in subst (λ x. Settles T p x) same (stays (ap is_reference e))
  pass_written-settles settle ok p q (Some (parts c steps)) e h = let same : p ≡ q = cc in subst (λ x. Settles T p x) same (stays (ap is_reference e))
  pass_written-settles settle ok p q None e h = cc

  pub unless_ends : (b : Bool) (w : Way) {q : Place} → (unless_stands b w).ends ≡ Some q → (b ≡ false) × (w.ends ≡ Some q)
  unless_ends true w h = cc
  unless_ends false w h = (refl, h)

  -- passing ends where the place settles
  pub pass_visits-settles : (n : ℕ) (b : List Place) → DoSettle (pass_visits T n b)
  unfolding pass_visits
  pass_visits-settles zero b p q h = cc
  pass_visits-settles (suc n) b p q h =
      let settle : Place → Way = settle_by T (pass_visits T n (b ++ p ∷ [])) in
      let k = unless_ends (is_some (since p b)) (pass_written T settle p (T p)) h in
      pass_written-settles settle (settle_by-settles (pass_visits T n (b ++ p ∷ [])) (pass_visits-settles n (b ++ p ∷ []))) p q (T p) refl k.1
