-- When a certificate holds of a flat tree.
use Rattle.std.specs.Prelude.{◌≡◌, List, [], ◌∷◌, ◌++◌, true, false, Some}
use Rattle.std.specs.FinMap as flat_map
use Rattle.std.specs.List.{AllByRecursion}
use Rattle.ring.specs.Lists.{AreApart}
use Rattle.name_path.specs.declared.place.Place.{Place}
use Rattle.group_inherit.specs.Flattening.{Flattened}
use Rattle.alias_ref.specs.Written.{Step, refers, WrittenPlaces, written_in, whole, part, is_reference, is_written}
use Rattle.alias_ref.specs.Span.{span_in}
use Rattle.alias_ref.specs.Laws.{Flat}
use Rattle.certificates.specs.declared.certificate.Spot.{Spot}
use Rattle.certificates.specs.declared.certificate.Hop.{Hop}
use Rattle.certificates.specs.declared.certificate.Cert.{Cert}
use Rattle.explain.specs.Following.{starts_of, Reaches}

-- the place that is reached from p is q, and no reference
pub record SettlesBy (T : WrittenPlaces) (hops : List Hop) (p q : Place) : Type 0 where
  pub reached : Reaches hops p q
  pub no_reference : is_reference (T q) ≡ false

-- The steps lead from p to q; before each step the place reached settles by the hops.
pub data GoesBy (T : WrittenPlaces) (hops : List Hop) : Place → List Step → Place → Type 0 where
  arrived : {p : Place} → GoesBy T hops p [] p
  onward : {p q r : Place} {s : Step} {steps : List Step} → SettlesBy T hops p q → is_written (T (part q s)) ≡ true → GoesBy T hops (part q s) steps r → GoesBy T hops p (s ∷ steps) r

-- A well-spelled reference is written at p, its token is there, and its steps end at q.
pub data LeadsBy (T : WrittenPlaces) (hops : List Hop) (p q : Place) : Type 0 where
  leads : {token steps : List Step} → T p ≡ Some (refers token steps) → is_written (T (whole token)) ≡ true → GoesBy T hops (whole token) steps q → LeadsBy T hops p q

-- each hop leads to its target by the hops before it, the first of which are these
abbrev pub EachLeads : WrittenPlaces → List Hop → List Hop → Type 0
EachLeads T before [] = Unit {0}
EachLeads T before (h ∷ hops) = LeadsBy T before h.spot.place h.target × EachLeads T (before ++ h ∷ []) hops

-- the place is written in a token of the tree, and its file and span are those there
pub record IsSpotIn (flat : Flat) (spot : Spot) : Type 0 where
  pub written : is_written (written_in flat spot.place) ≡ true
  pub found : Flattened
  pub token : flat_map.get flat spot.place.token ≡ Some found
  pub file : spot.file ≡ found.def.file
  pub span : span_in flat spot.place ≡ Some (spot.start, spot.end)

pub record Valid (flat : Flat) (cert : Cert) : Type 0 where
  -- no two hops start at one place
  pub starts : AreApart (starts_of cert.hops)
  pub hops : EachLeads (written_in flat) [] cert.hops
  pub origin : is_written (written_in flat cert.from) ≡ true
  pub end : SettlesBy (written_in flat) cert.hops cert.from cert.last.place
  pub spots : AllByRecursion (λ h. IsSpotIn flat h.spot) cert.hops
  pub last : IsSpotIn flat cert.last
