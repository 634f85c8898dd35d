use Rattle.std.proofs.Common.{◌++◌, ◌∙◌, ap, codes}
use Rattle.json_out.specs.PlatformValue.{families_json}
use Rattle.json_out.specs.Spelling.{value_text}
use Rattle.json_out.proofs.Appending.{six}
use Rattle.json_out.proofs.values.TypographySpell.spell.Goals as goal

pub returns : goal.returns
returns c = six _ _ _ _ _ _ _ _ _ _ _ _ _
    (c.in_ok-list_behind.ensures ∙ ap (λ z. c.args.out.now ++ (codes "{\"fontFamily\": " ++ value_text (families_json z))) c.as_slice.ensures)
    c.in_ok-spell_behind.ensures c.in_ok-spell_behind-2.ensures c.in_ok-spell_behind-3.ensures c.in_ok-spell_behind-4.ensures c.in_ok-append.ensures.ok
