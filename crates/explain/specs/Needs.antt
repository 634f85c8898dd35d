-- Which hops explain a place, and in which order.
use Rattle.std.specs.Prelude.{◌≡◌, List, [], ◌∷◌, ◌++◌, true, false, Some, None, map}
use Rattle.ring.specs.Lists.{In}
use Rattle.name_path.specs.declared.place.Place.{Place}
use Rattle.alias_ref.specs.Written.{Step, refers, WrittenPlaces, written_in, whole, part, is_reference, is_written}
use Rattle.alias_ref.specs.Visits.{walk_break}
use Rattle.alias_ref.specs.Laws.{Flat}
use Rattle.alias_ref.specs.Meaning.{Settles}
use Rattle.certificates.specs.declared.certificate.Hop.{Hop}

-- a reference, and where it leads
abbrev pub Lead : Type 0
Lead = Place × Place

abbrev pub leads_of : List Hop → List Lead
leads_of hops = map (λ h. (h.spot.place, h.target)) hops

mutual
  -- What explains p, each as often as it is come to: of a reference what explains each place before a step, in order, then its
  -- own lead, and then what explains the place to which it leads.
  pub data Explains (T : WrittenPlaces) : Place → List Lead → Type 0 where
    nothing : {p : Place} → is_reference (T p) ≡ false → Explains T p []
    reference : {p q : Place} {token steps : List Step} {before behind : List Lead} → T p ≡ Some (refers token steps) → is_written (T (whole token)) ≡ true
        → ExplainsWay T (whole token) steps q before → Explains T q behind → Explains T p (before ++ (p, q) ∷ behind)

  -- what explains each place before one of these steps, which lead from p to q
  pub data ExplainsWay (T : WrittenPlaces) : Place → List Step → Place → List Lead → Type 0 where
    arrived : {p : Place} → ExplainsWay T p [] p []
    onward : {p q r : Place} {s : Step} {steps : List Step} {first more : List Lead} → Explains T p first → Settles T p q → is_written (T (part q s)) ≡ true
        → ExplainsWay T (part q s) steps r more → ExplainsWay T p (s ∷ steps) r (first ++ more)

-- One after another is put at the end of a list, unless it is there.
pub data Adds : List Lead → List Lead → List Lead → Type 0 where
  none_left : {listed : List Lead} → Adds listed [] listed
  again : {w : Lead} {listed ws all : List Lead} → In w listed → Adds listed ws all → Adds listed (w ∷ ws) all
  anew : {w : Lead} {listed ws all : List Lead} → (In w listed → ⊥) → Adds (listed ++ w ∷ []) ws all → Adds listed (w ∷ ws) all

-- the hops that explain a place: what explains it, each once
pub record AreHopsOf (T : WrittenPlaces) (p : Place) (hops : List Hop) : Type 0 where
  pub all : List Lead
  pub explains : Explains T p all
  pub once : Adds [] all (leads_of hops)

-- no token of the tree breaks a rule of references
abbrev pub AreUnbroken : Flat → Type 0
AreUnbroken flat = (token : List Step) → is_written (written_in flat (whole token)) ≡ true → walk_break (written_in flat) token ≡ None
