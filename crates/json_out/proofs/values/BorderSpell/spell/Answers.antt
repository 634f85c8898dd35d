use Rattle.json_out.proofs.Appending.{four}
use Rattle.json_out.proofs.values.BorderSpell.spell.Goals as goal

pub returns : goal.returns
returns c = four _ _ _ _ _ _ _ _ _
    c.in_ok-spell_behind.ensures c.in_ok-spell_behind-2.ensures c.in_ok-spell_behind-3.ensures c.in_ok-append.ensures.ok
