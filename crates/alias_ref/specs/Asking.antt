-- Which visits a visit asks for, and when places make a ring.
use Rattle.std.specs.Prelude.{◌≡◌, List, [], ◌∷◌, ◌++◌, true, Some}
use Rattle.name_path.specs.declared.place.Place.{Place}
use Rattle.alias_ref.specs.Written.{Step, Container, parts, refers, WrittenPlaces, whole, part, is_reference, is_written}
use Rattle.alias_ref.specs.Meaning.{Leads, Goes}

-- how a place is visited
pub data Manner : Type 0 where
  by_walking : Manner
  by_passing : Manner

-- Visiting p so asks for visiting q so.
pub data AsksFor (T : WrittenPlaces) : Manner → Place → Manner → Place → Type 0 where
  -- an array or an object, for its parts
  for_part : {p : Place} {c : Container} {steps : List Step} (before after : List Step) (s : Step) → T p ≡ Some (parts c steps) → steps ≡ before ++ s ∷ after → AsksFor T by_walking p by_walking (part p s)
  -- a reference, for passing the place reached before a step, where this is a reference
  for_step : {m : Manner} {p q : Place} {token steps : List Step} (before after : List Step) (s : Step) → T p ≡ Some (refers token steps) → is_written (T (whole token)) ≡ true → steps ≡ before ++ s ∷ after → Goes T (whole token) before q → is_reference (T q) ≡ true → AsksFor T m p by_passing q
  -- a reference, for its target
  for_target : {p q : Place} → Leads T p q → AsksFor T by_walking p by_walking q
  for_next : {p q : Place} → Leads T p q → is_reference (T q) ≡ true → AsksFor T by_passing p by_passing q

-- in some manner
abbrev pub Asks : WrittenPlaces → Place → Place → Type 0
Asks T p q = (m : Manner) × (n : Manner) × AsksFor T m p n q

-- each asks for the next, and the last for this one
pub data Chain (T : WrittenPlaces) : List Place → Place → Type 0 where
  starts : {q : Place} → Chain T [] q
  links_last : {p q : Place} → Asks T p q → Chain T (p ∷ []) q
  links : {p r q : Place} {b : List Place} → Asks T p r → Chain T (r ∷ b) q → Chain T (p ∷ r ∷ b) q

-- no place of the list is this one
pub data Lacks (p : Place) : List Place → Type 0 where
  lacks_none : Lacks p []
  lacks : {q : Place} {b : List Place} → (p ≡ q → ⊥) → Lacks p b → Lacks p (q ∷ b)

pub data Differ : List Place → Type 0 where
  differ_none : Differ []
  differ_more : {p : Place} {b : List Place} → Lacks p b → Differ b → Differ (p ∷ b)

-- the places differ, each asks for the next, and the last asks for the first
pub data IsRingOfPlaces (T : WrittenPlaces) : List Place → Type 0 where
  ring : {p : Place} {b : List Place} → Differ (p ∷ b) → Chain T (p ∷ b) p → IsRingOfPlaces T (p ∷ b)

-- The walk of the token visits the place so, below this branch.
pub data IsVisited (T : WrittenPlaces) (token : List Step) : List Place → Manner → Place → Type 0 where
  begins : IsVisited T token [] by_walking (whole token)
  asked : {b : List Place} {m n : Manner} {p q : Place} → IsVisited T token b m p → AsksFor T m p n q → IsVisited T token (b ++ p ∷ []) n q
