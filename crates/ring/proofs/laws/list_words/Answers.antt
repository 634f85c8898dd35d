use Rattle.ring.proofs.ListWords.{in_has_place, has_place_in, apart_at_places, places_apart}
use Rattle.ring.proofs.laws.list_words.Goals as goal

pub returns-clause-contains : goal.returns-clause-contains
returns-clause-contains g c = λ x xs. (in_has_place x xs, has_place_in x xs)

pub returns-clause-apart : goal.returns-clause-apart
returns-clause-apart g c = λ xs. (apart_at_places xs, places_apart xs)
