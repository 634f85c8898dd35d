-- The inside of a path's string, name by name, and the text of a member from what is appended.
use Rattle.std.proofs.Common.{◌≡◌, ℕ, List, [], ◌∷◌, ◌++◌, codes, refl, sym, ap, ◌∙◌, append_assoc}
use Rattle.std.specs.List.{flat_map}
use Rattle.std.proofs.lemmas.Grind.{flat_map-append}
use Rattle.tk_io.specs.Characters.{quote, full_stop}
use Rattle.json_span.specs.Spelling.{byte_text, inside_text, string_text}
use Rattle.name_path.specs.Kinds.{kind_name}
use Rattle.name_path.specs.declared.kind.Kind.{Kind}
use Rattle.name_path.specs.declared.kind.Kind.TheVariants.{Color, Dimension, FontFamily, FontWeight, Duration, CubicBezier, Number, StrokeStyle, Border, Transition, Shadow, Gradient, Typography}

behind_points : (names : List (List ℕ)) → flat_map (λ name. full_stop ∷ inside_text name) names ≡ inside_text (flat_map (λ name. full_stop ∷ name) names)
behind_points [] = refl
behind_points (name ∷ names) =
    ap (λ t. full_stop ∷ (inside_text name ++ t)) (behind_points names)
    ∙ sym (flat_map-append byte_text (full_stop ∷ name) (flat_map (λ name. full_stop ∷ name) names))

pub path_inside : (first : List ℕ) (others : List (List ℕ))
    → inside_text first ++ flat_map (λ name. full_stop ∷ inside_text name) others ≡ inside_text (first ++ flat_map (λ name. full_stop ∷ name) others)
path_inside first others =
    ap (λ t. inside_text first ++ t) (behind_points others)
    ∙ sym (flat_map-append byte_text first (flat_map (λ name. full_stop ∷ name) others))

-- quotes that stand beside the texts around them
pub joined : (s word rest : List ℕ) → word ≡ inside_text word
    → codes "  \"" ++ (inside_text s ++ ((codes "\": {\"$type\": \"" ++ (word ++ codes "\", \"$value\": ")) ++ rest))
    ≡ codes "  " ++ (string_text s ++ (codes ": " ++ (codes "{\"$type\": " ++ (string_text word ++ (codes ", \"$value\": " ++ rest)))))
joined s word rest plain =
    ap (λ t. codes "  \"" ++ t)
    (ap (λ t. inside_text s ++ (codes "\": {\"$type\": \"" ++ t))
    (append_assoc word (codes "\", \"$value\": ") rest
    ∙ ap (λ w. w ++ (codes "\", \"$value\": " ++ rest)) plain ∙ sym (append_assoc (inside_text word) (quote ∷ []) (codes ", \"$value\": " ++ rest)))
    ∙ sym (append_assoc (inside_text s) (quote ∷ []) (codes ": {\"$type\": \"" ++ ((inside_text word ++ quote ∷ []) ++ (codes ", \"$value\": " ++ rest)))))

-- the characters of a kind's name stand for themselves
pub kind_stays : (k : Kind) → kind_name k ≡ inside_text (kind_name k)
kind_stays Color = refl
kind_stays Dimension = refl
kind_stays FontFamily = refl
kind_stays FontWeight = refl
kind_stays Duration = refl
kind_stays CubicBezier = refl
kind_stays Number = refl
kind_stays StrokeStyle = refl
kind_stays Border = refl
kind_stays Transition = refl
kind_stays Shadow = refl
kind_stays Gradient = refl
kind_stays Typography = refl
