use Rattle.std.proofs.Common.{◌++◌, ◌∙◌, ap}
use Rattle.json_out.proofs.Appending.{six}
use Rattle.json_out.proofs.ColorAppended.{color_text}
use Rattle.json_out.proofs.values.ColorSpell.spell.Goals as goal

pub returns : goal.returns
returns c = six _ _ _ _ _ _ _ _ _ _ _ _ _
    c.in_ok-spell_behind.ensures c.in_ok-spell_component.ensures c.in_ok-spell_component-2.ensures c.in_ok-spell_component-3.ensures c.in_ok-spell_behind-2.ensures c.in_ok-spell_end.ensures
    ∙ ap (λ z. c.args.out.now ++ z) (color_text c.args.self.now)
