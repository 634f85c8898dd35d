use Rattle.std.proofs.Common.{◌++◌, ◌∙◌, ap, map, codes}
use Rattle.json_out.specs.PlatformValue.{array_json, size_json}
use Rattle.json_out.specs.Spelling.{value_text}
use Rattle.json_out.proofs.Appending.{three}
use Rattle.json_out.proofs.values.StrokeSpell.spell.Goals as goal

pub returns-in_ok-append-in-Dashes : goal.returns-in_ok-append-in-Dashes
returns-in_ok-append-in-Dashes c = rw c.in-Dashes.is
    (three _ _ _ _ _ _ _
    (c.in_ok-list_behind-in-Dashes.ensures ∙ ap (λ z. c.args.out.now ++ (codes "{\"dashArray\": " ++ value_text (array_json (map size_json z)))) c.as_slice.ensures)
    c.in_ok-spell_behind-in-Dashes.ensures c.in_ok-append-in-Dashes.ensures.ok)
