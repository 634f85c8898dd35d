-- What items add to rows of choices.
use Rattle.std.specs.Prelude.{ℕ, Bool, false, List, [], ◌∷◌, map, Option, unwrap_or, if◌then◌else◌}
use Rattle.std.specs.Str.{bytes_eq}
use Rattle.permutations.specs.Name.{Choice}
use Rattle.permutations.specs.Permutation.{picks}
use Rattle.resolver_doc.specs.Document.{ItemData, SetData}

abbrev pub choice_of : List ℕ → SetData → List Choice
choice_of modifier context = record { modifier = modifier; context = context.name } ∷ []

-- what may be chosen of an item
abbrev pub options : ItemData → List (List Choice)
options item = map (λ p. p.chosen) (picks item)

abbrev pub usual_by : List ℕ → List SetData → Option (List ℕ) → List Choice
usual_by name [] default = []
usual_by name (c ∷ cs) default = record { modifier = name; context = unwrap_or default c.name } ∷ []

-- the first of these has the context
abbrev pub is_usual : List Choice → Choice → Bool
is_usual [] c = false
is_usual (u ∷ us) c = bytes_eq c.context u.context

abbrev pub odd_at : List Choice → Choice → List Choice
odd_at us c = if is_usual us c then [] else c ∷ []
