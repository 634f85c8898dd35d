-- What a visit asks for, in order, each of it once.
use Rattle.std.specs.Prelude.{◌≡◌, List, [], ◌∷◌, ◌++◌, true, false, Some, map}
use Rattle.name_path.specs.declared.place.Place.{Place}
use Rattle.json_span.specs.PlainView.{Value}
use Rattle.alias_ref.specs.Written.{Step, Container, leaf, parts, refers, WrittenPlaces, whole, part, is_reference, is_written}
use Rattle.alias_ref.specs.Meaning.{Settles}
use Rattle.alias_ref.specs.Visits.{Visit, walked, passed}
use Rattle.alias_ref.specs.Asking.{Manner, by_walking, by_passing}

-- a place that is asked for, and how it is to be visited
pub record Asked : Type 0 where
  pub manner : Manner
  pub place : Place

abbrev pub to_walk : Place → Asked
to_walk p = record { manner = by_walking; place = p }

abbrev pub to_pass : Place → Asked
to_pass p = record { manner = by_passing; place = p }

-- The steps of a reference lead from p to q, and ask so for what they pass: each place that is reached before a step and is a reference.
pub data StepsAsk (T : WrittenPlaces) : Place → List Step → List Asked → Place → Type 0 where
  no_step : {p : Place} → StepsAsk T p [] [] p
  from_here : {p q : Place} {s : Step} {steps : List Step} {asked : List Asked} → is_reference (T p) ≡ false → is_written (T (part p s)) ≡ true → StepsAsk T (part p s) steps asked q → StepsAsk T p (s ∷ steps) asked q
  from_behind : {p r q : Place} {s : Step} {steps : List Step} {asked : List Asked} → is_reference (T p) ≡ true → Settles T p r → is_written (T (part r s)) ≡ true → StepsAsk T (part r s) steps asked q → StepsAsk T p (s ∷ steps) (to_pass p ∷ asked) q

-- Visiting p so asks for these, in this order, and for nothing else.
pub data AsksInTurn (T : WrittenPlaces) : Manner → Place → List Asked → Type 0 where
  of_leaf : {m : Manner} {p : Place} {v : Value} → T p ≡ Some (leaf v) → AsksInTurn T m p []
  -- an array or an object is walked part by part, and is where passing ends
  of_parts : {p : Place} {c : Container} {steps : List Step} → T p ≡ Some (parts c steps) → AsksInTurn T by_walking p (map (λ s. to_walk (part p s)) steps)
  of_end : {p : Place} {c : Container} {steps : List Step} → T p ≡ Some (parts c steps) → AsksInTurn T by_passing p []
  -- of a reference the steps pass first, and then comes its target, which is passed on only where it is a reference
  of_target : {p q : Place} {token steps : List Step} {asked : List Asked} → T p ≡ Some (refers token steps) → is_written (T (whole token)) ≡ true → StepsAsk T (whole token) steps asked q → AsksInTurn T by_walking p (asked ++ to_walk q ∷ [])
  of_next : {p q : Place} {token steps : List Step} {asked : List Asked} → T p ≡ Some (refers token steps) → is_written (T (whole token)) ≡ true → StepsAsk T (whole token) steps asked q → is_reference (T q) ≡ true → AsksInTurn T by_passing p (asked ++ to_pass q ∷ [])
  of_last : {p q : Place} {token steps : List Step} {asked : List Asked} → T p ≡ Some (refers token steps) → is_written (T (whole token)) ≡ true → StepsAsk T (whole token) steps asked q → is_reference (T q) ≡ false → AsksInTurn T by_passing p asked

-- the visits of what is asked for, below this branch
abbrev pub visits_of : WrittenPlaces → List Place → Manner → Place → List Visit
visits_of T b by_walking p = walked T b p
visits_of T b by_passing p = (passed T b p).seen

unfoldable pub visits_in_turn : WrittenPlaces → List Place → List Asked → List Visit
visits_in_turn T b [] = []
visits_in_turn T b (a ∷ asked) = visits_of T b a.manner a.place ++ visits_in_turn T b asked
