-- Where the hops of a certificate lead when they are followed.
use Rattle.std.specs.Prelude.{List, map, ◌≡◌}
use Rattle.ring.specs.Lists.{In}
use Rattle.name_path.specs.declared.place.Place.{Place}
use Rattle.certificates.specs.declared.certificate.Hop.{Hop}

-- where hops start, in order
abbrev pub starts_of : List Hop → List Place
starts_of hops = map (λ h. h.spot.place) hops

-- The hops are followed from p: the one that starts there, and so on, until none starts at the place q.
pub data Reaches (hops : List Hop) : Place → Place → Type 0 where
  stays : {p : Place} → (In p (starts_of hops) → ⊥) → Reaches hops p p
  follows : {p q : Place} (hop : Hop) → In hop hops → hop.spot.place ≡ p → Reaches hops hop.target q → Reaches hops p q
