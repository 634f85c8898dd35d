-- The text of an array from those of its items.
use Rattle.std.proofs.Common.{◌≡◌, List, [], ◌∷◌, ◌++◌, map, refl, sym, ap, ◌∙◌, append_assoc, codes}
use Rattle.std.specs.List.{flat_map}
use Rattle.json_span.specs.Plain.{plains_of}
use Rattle.json_out.specs.PlatformValue.{Json, array_json}
use Rattle.json_out.specs.Spelling.{value_text, more_items_text}

others_text : {A : Type 0} (f : A → Json) (xs : List A) → more_items_text (plains_of (map f xs)) ≡ flat_map (λ x. codes ", " ++ value_text (f x)) xs ++ codes "]"
others_text f [] = refl
others_text f (x ∷ xs) =
    ap (λ z. 44 ∷ 32 ∷ (value_text (f x) ++ z)) (others_text f xs)
    ∙ ap (λ z. 44 ∷ 32 ∷ z) (sym (append_assoc (value_text (f x)) (flat_map (λ y. codes ", " ++ value_text (f y)) xs) (codes "]")))

pub list_text : {A : Type 0} (f : A → Json) (first : A) (others : List A)
    → (codes "[" ++ value_text (f first)) ++ (flat_map (λ x. codes ", " ++ value_text (f x)) others ++ codes "]") ≡ value_text (array_json (map f (first ∷ others)))
list_text f first others = ap (λ z. 91 ∷ (value_text (f first) ++ z)) (sym (others_text f others))
