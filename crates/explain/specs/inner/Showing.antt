-- How the hops of a place are put together.
use Rattle.std.specs.Prelude.{◌≡◌, ◌⊎◌, ◌≤◌, ℕ, ◌+◌, List, [], ◌∷◌, ◌++◌, length, true, Some}
use Rattle.ring.specs.Lists.{In}
use Rattle.name_path.specs.declared.place.Place.{Place}
use Rattle.alias_ref.specs.Written.{Step, refers, WrittenPlaces, whole, written_in, is_reference, is_written}
use Rattle.alias_ref.specs.Visits.{most_on_branch}
use Rattle.alias_ref.specs.Asking.{Manner, IsVisited}
use Rattle.alias_ref.specs.Laws.{Flat}
use Rattle.alias_ref.specs.Meaning.{Goes}
use Rattle.certificates.specs.declared.certificate.Hop.{Hop}
use Rattle.explain.specs.Following.{starts_of, Reaches}
use Rattle.explain.specs.Validity.{GoesBy, IsSpotIn}
use Rattle.explain.specs.Needs.{AreUnbroken, Lead, leads_of, Explains, ExplainsWay, Adds}
use Rattle.explain.specs.inner.Ways.{Knows}
use Rattle.explain.specs.inner.Holding.{EachHolds}
use Rattle.explain.specs.declared.showing.Shown.{Shown}

-- the hops are known, and lead from the place to an end
abbrev pub ComesToEnd : Shown → Place → Type 0
ComesToEnd shown p = Knows shown.hops shown.ways × ((q : Place) × Reaches shown.hops p q)

-- what explains the place is among the hops
pub record IsClosed (T : WrittenPlaces) (hops : List Hop) (p : Place) : Type 0 where
  pub all : List Lead
  pub explains : Explains T p all
  pub there : (w : Lead) → In w all → In w (leads_of hops)

-- the hops hold, and each starts on the branch or at a place that is explained
pub record IsShown (flat : Flat) (b : List Place) (shown : Shown) : Type 0 where
  pub knows : Knows shown.hops shown.ways
  pub holds : EachHolds flat [] shown.hops
  pub stands : (p : Place) → In p (starts_of shown.hops) → In p b ⊎ IsClosed (written_in flat) shown.hops p

-- the walk of a token that breaks no rule visits the place
pub record IsSound (flat : Flat) (b : List Place) (p : Place) : Type 0 where
  pub token : List Step
  pub there : is_written (written_in flat (whole token)) ≡ true
  pub manner : Manner
  pub visited : IsVisited (written_in flat) token b manner p

-- a place may be explained below this branch
pub record MayExplain (flat : Flat) (left : ℕ) (b : List Place) (p : Place) (now : Shown) : Type 0 where
  pub unbroken : AreUnbroken flat
  pub room : most_on_branch ≤ length b + left
  pub visited : is_reference (written_in flat p) ≡ true → IsSound flat b p
  pub shown : IsShown flat b now

-- no hop was added that starts on the branch
abbrev pub NoneOn : List Place → Shown → Shown → Type 0
NoneOn b old new = (p : Place) → In p (starts_of new.hops) → In p (starts_of old.hops) ⊎ (In p b → ⊥)

-- what explains the place was added
pub record IsExplained (flat : Flat) (b : List Place) (p : Place) (old new : Shown) : Type 0 where
  pub shown : IsShown flat b new
  pub none_on : NoneOn b old new
  pub all : List Lead
  pub explains : Explains (written_in flat) p all
  pub there : (w : Lead) → In w all → In w (leads_of new.hops)
  pub adds : Adds (leads_of old.hops) all (leads_of new.hops)
  pub more : List Hop
  pub longer : new.hops ≡ old.hops ++ more

-- the way of a reference may be explained: it stands at the end of this branch
pub record MayExplainWay (flat : Flat) (left : ℕ) (b : List Place) (p : Place) (named : Place) (now : Shown) : Type 0 where
  pub unbroken : AreUnbroken flat
  pub refers : written_in flat p ≡ Some (refers named.token named.trail)
  pub room : most_on_branch ≤ length (b ++ p ∷ []) + left
  pub visited : IsSound flat b p
  pub shown : IsShown flat b now
  pub fresh : In p (starts_of now.hops) → ⊥

-- what explains the way of a reference to q was added
pub record IsWayExplained (flat : Flat) (b : List Place) (p : Place) (named : Place) (q : Place) (old new : Shown) : Type 0 where
  pub shown : IsShown flat b new
  pub none_on : NoneOn (b ++ p ∷ []) old new
  pub fresh : In p (starts_of new.hops) → ⊥
  pub token : is_written (written_in flat (whole named.token)) ≡ true
  pub goes : GoesBy (written_in flat) new.hops (whole named.token) named.trail q
  pub all : List Lead
  pub explains : ExplainsWay (written_in flat) (whole named.token) named.trail q all
  pub there : (w : Lead) → In w all → In w (leads_of new.hops)
  pub adds : Adds (leads_of old.hops) all (leads_of new.hops)
  pub more : List Hop
  pub longer : new.hops ≡ old.hops ++ more

-- The way so far: the steps in front lead to this place, and these are left.
pub record IsOnWay (flat : Flat) (left : ℕ) (b : List Place) (p : Place) (named : Place) (front rest : List Step) (at : Place) (old new : Shown) : Type 0 where
  pub may : MayExplainWay flat left b p named new
  pub none_on : NoneOn (b ++ p ∷ []) old new
  pub token : is_written (written_in flat (whole named.token)) ≡ true
  pub split : named.trail ≡ front ++ rest
  pub gone : Goes (written_in flat) (whole named.token) front at
  pub by : GoesBy (written_in flat) new.hops (whole named.token) front at
  pub target : Place
  pub ahead : Goes (written_in flat) at rest target
  pub all : List Lead
  pub explains : ExplainsWay (written_in flat) (whole named.token) front at all
  pub there : (w : Lead) → In w all → In w (leads_of new.hops)
  pub adds : Adds (leads_of old.hops) all (leads_of new.hops)
  pub more : List Hop
  pub longer : new.hops ≡ old.hops ++ more

-- the hop of a reference was added
pub record IsAdded (flat : Flat) (p q : Place) (old new : Shown) : Type 0 where
  pub hop : Hop
  pub spot : IsSpotIn flat hop.spot
  pub start : hop.spot.place ≡ p
  pub target : hop.target ≡ q
  pub longer : new.hops ≡ old.hops ++ hop ∷ []
  pub knows : Knows new.hops new.ways

-- the hops are all that explains the place
abbrev pub IsWholeOf : Flat → Place → Shown → Type 0
IsWholeOf flat p shown = (b : List Place) × (none : Shown) × (none.hops ≡ []) × IsExplained flat b p none shown
