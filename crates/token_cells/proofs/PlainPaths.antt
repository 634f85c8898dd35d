-- Steps into a plain value lead to one part, whether they are told as those of a reference or as those of a value's parts.
use Rattle.std.proofs.Common.{◌≡◌, ℕ, ◌+◌, List, [], ◌∷◌, Option, Some, None, refl, ap, ◌∙◌}
use Rattle.std.specs.Fmt.{decimal}
use Rattle.std.specs.Option.{option_and_then}
use Rattle.std.specs.Prelude.{if◌then◌else◌}
use Rattle.std.specs.Str.{bytes_eq}
use Rattle.json_span.specs.Plain.{plain_null, plain_boolean, plain_number, plain_string, plain_array, plain_object, plains_in, plain_entries_in}
use Rattle.json_span.specs.PlainView.{Value, ValueEntry}
use Rattle.alias_ref.specs.PlainParts.{plain_numbered, plain_under, plain_parts, plain_at}
use Rattle.type_rules.specs.Forms.{named}
use Rattle.type_rules.specs.Trails.{item_at, child, plain_at as part_at}

items : (s : List ℕ) (i : ℕ) (vs : List Value) → plain_under s (plain_numbered i vs) ≡ item_at s i vs
items s i [] = refl
items s i (v ∷ vs) = ap (λ o. if bytes_eq (decimal i) s then Some v else o) (items s (i + 1) vs)

members : (s : List ℕ) (es : List ValueEntry) → plain_under s es ≡ named s es
members s [] = refl
members s (e ∷ es) = ap (λ o. if bytes_eq e.name s then Some e.value else o) (members s es)

one_step : (s : List ℕ) (v : Value) → plain_under s (plain_parts v) ≡ child s v
one_step s plain_null = refl
one_step s (plain_boolean b) = refl
one_step s (plain_number k) = refl
one_step s (plain_string t) = refl
one_step s (plain_array vs) = items s 0 (plains_in vs)
one_step s (plain_object ms) = members s (plain_entries_in ms)

behind : (o : Option Value) (f g : Value → Option Value) → ((v : Value) → f v ≡ g v) → option_and_then f o ≡ option_and_then g o
behind None f g same = refl
behind (Some v) f g same = same v

pub same_part : (v : Value) (steps : List (List ℕ)) → plain_at v steps ≡ part_at v steps
unfolding plain_at
same_part v [] = refl
same_part v (s ∷ steps) = ap (option_and_then (λ w. plain_at w steps)) (one_step s v) ∙ behind (child s v) (λ w. plain_at w steps) (λ w. part_at w steps) (λ w. same_part w steps)
