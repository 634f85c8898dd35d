-- The text of a colour from those of its parts.
use Rattle.std.proofs.Common.{◌≡◌, ℕ, List, [], ◌∷◌, ◌++◌, sym, ap, ◌∙◌, append_assoc, codes}
use Rattle.dec_fix.specs.Writing.{spelling}
use Rattle.json_span.specs.Plain.{plain_members_of}
use Rattle.json_span.specs.Spelling.{string_text}
use Rattle.type_rules.specs.Words.{space_name}
use Rattle.type_rules.specs.declared.color.Color.{Color}
use Rattle.json_out.specs.PlatformValue.{component_json, hex_members, color_json}
use Rattle.json_out.specs.Spelling.{value_text, more_members_text}

-- three items before what follows the array
components : (a b c t : List ℕ) → (a ++ (44 ∷ 32 ∷ (b ++ (44 ∷ 32 ∷ (c ++ (93 ∷ [])))))) ++ t ≡ a ++ (44 ∷ 32 ∷ (b ++ (44 ∷ 32 ∷ (c ++ (93 ∷ t)))))
components a b c t =
    append_assoc a (44 ∷ 32 ∷ (b ++ (44 ∷ 32 ∷ (c ++ (93 ∷ []))))) t
    ∙ ap (λ z. a ++ (44 ∷ 32 ∷ z)) (append_assoc b (44 ∷ 32 ∷ (c ++ (93 ∷ []))) t ∙ ap (λ z. b ++ (44 ∷ 32 ∷ z)) (append_assoc c (93 ∷ []) t))

pub color_text : (c : Color) → (codes "{\"colorSpace\": " ++ string_text (space_name c.space))
    ++ ((codes ", \"components\": [" ++ value_text (component_json c.first)) ++ ((codes ", " ++ value_text (component_json c.second)) ++ ((codes ", " ++ value_text (component_json c.third))
    ++ ((codes "], \"alpha\": " ++ spelling c.alpha) ++ more_members_text (plain_members_of (hex_members c.hex)))))) ≡ value_text (color_json c)
color_text c =
    ap (λ z. codes "{\"colorSpace\": " ++ (string_text (space_name c.space) ++ (codes ", \"components\": [" ++ z)))
    (sym (components (value_text (component_json c.first)) (value_text (component_json c.second)) (value_text (component_json c.third))
    (codes ", \"alpha\": " ++ (spelling c.alpha ++ more_members_text (plain_members_of (hex_members c.hex))))))
