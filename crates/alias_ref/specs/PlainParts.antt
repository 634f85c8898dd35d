-- The parts of a value without references, and the written parts of a place.
use Rattle.std.specs.Prelude.{◌≡◌, ℕ, ◌+◌, List, [], ◌∷◌, Option, Some, None, option_and_then, if◌then◌else◌}
use Rattle.std.specs.Fmt.{decimal}
use Rattle.std.specs.Str.{bytes_eq}
use Rattle.ring.specs.Lists.{In}
use Rattle.name_path.specs.declared.place.Place.{Place}
use Rattle.json_span.specs.Plain.{plain_null, plain_boolean, plain_number, plain_string, plain_array, plain_object, plains_in, plain_entries_in}
use Rattle.json_span.specs.PlainView.{Value, ValueEntry}
use Rattle.alias_ref.specs.Written.{Step, Container, parts, WrittenPlaces, part}

-- items under their indices in decimal digits, from this index on
abbrev pub plain_numbered : ℕ → List Value → List ValueEntry
plain_numbered i [] = []
plain_numbered i (v ∷ vs) = record { name = decimal i; value = v } ∷ plain_numbered (i + 1) vs

abbrev pub plain_parts : Value → List ValueEntry
plain_parts plain_null = []
plain_parts (plain_boolean b) = []
plain_parts (plain_number k) = []
plain_parts (plain_string s) = []
plain_parts (plain_array vs) = plain_numbered 0 (plains_in vs)
plain_parts (plain_object ms) = plain_entries_in ms

-- the first part under this step
abbrev pub plain_under : Step → List ValueEntry → Option Value
plain_under s [] = None
plain_under s (e ∷ es) = if bytes_eq e.name s then Some e.value else plain_under s es

-- the part to which the steps lead
unfoldable pub plain_at : Value → List Step → Option Value
plain_at v [] = Some v
plain_at v (s ∷ trail) = option_and_then (λ w. plain_at w trail) (plain_under s (plain_parts v))

-- the steps lead from the first place to the second through written parts alone
pub data Below (T : WrittenPlaces) : Place → List Step → Place → Type 0 where
  below_here : {p : Place} → Below T p [] p
  below_part : {p q : Place} {c : Container} {steps trail : List Step} (s : Step) → T p ≡ Some (parts c steps) → In s steps → Below T (part p s) trail q → Below T p (s ∷ trail) q
