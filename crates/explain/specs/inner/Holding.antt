-- Which hops hold, one after another.
use Rattle.std.specs.Prelude.{◌≡◌, List, [], ◌∷◌, ◌++◌, true, Option, Some, None}
use Rattle.ring.specs.Lists.{In}
use Rattle.name_path.specs.declared.place.Place.{Place}
use Rattle.alias_ref.specs.Written.{Step, WrittenPlaces, whole, part, is_written, written_in}
use Rattle.alias_ref.specs.Laws.{Flat}
use Rattle.certificates.specs.declared.certificate.Hop.{Hop}
use Rattle.explain.specs.Following.{starts_of}
use Rattle.explain.specs.Validity.{SettlesBy, GoesBy, LeadsBy, IsSpotIn}

-- the place of which this holds, where there is one
abbrev pub IsFound : (Place → Type 0) → Option Place → Type 0
IsFound P (Some q) = P q
IsFound P None = (q : Place) → P q → ⊥

-- a hop holds behind others: none of them starts where it starts
pub record HopHolds (flat : Flat) (before : List Hop) (hop : Hop) : Type 0 where
  pub fresh : In hop.spot.place (starts_of before) → ⊥
  pub leads : LeadsBy (written_in flat) before hop.spot.place hop.target
  pub spot : IsSpotIn flat hop.spot

-- each holds behind those before it
abbrev pub EachHolds : Flat → List Hop → List Hop → Type 0
EachHolds flat before [] = Unit {0}
EachHolds flat before (h ∷ hops) = HopHolds flat before h × EachHolds flat (before ++ h ∷ []) hops

-- q is one step behind the place where p settles, and written
pub record StepsTo (T : WrittenPlaces) (hops : List Hop) (p : Place) (s : Step) (q : Place) : Type 0 where
  pub settled : Place
  pub settles : SettlesBy T hops p settled
  pub place : q ≡ part settled s
  pub written : is_written (T q) ≡ true

-- the steps of a reference that names this place end at q
pub record GoesFrom (T : WrittenPlaces) (hops : List Hop) (named : Place) (q : Place) : Type 0 where
  pub token : is_written (T (whole named.token)) ≡ true
  pub steps : GoesBy T hops (whole named.token) named.trail q
