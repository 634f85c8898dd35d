use Rattle.json_out.proofs.Appending.{seven}
use Rattle.json_out.proofs.values.ShadowItemSpell.spell.Goals as goal

pub returns : goal.returns
returns c = seven _ _ _ _ _ _ _ _ _ _ _ _ _ _ _
    c.in_ok-spell_behind.ensures c.in_ok-spell_behind-2.ensures c.in_ok-spell_behind-3.ensures c.in_ok-spell_behind-4.ensures c.in_ok-spell_behind-5.ensures c.in_ok-spell_behind-6.ensures c.in_ok-append.ensures.ok
