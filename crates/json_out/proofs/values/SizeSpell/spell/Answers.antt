use Rattle.std.proofs.Common.{◌++◌, ◌∙◌, ap}
use Rattle.json_out.proofs.Appending.{two}
use Rattle.json_out.proofs.values.SizeSpell.spell.Goals as goal

pub returns : goal.returns
returns c = two _ _ _ _ _ c.in_ok-spell_behind.ensures (c.in_ok-append.ensures.ok ∙ ap (λ z. c.spell_behind.new.out ++ z) c.size_end.ensures)
