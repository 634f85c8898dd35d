use Rattle.std.proofs.Common.{◌≡◌, ◌++◌, take, codes}
use Rattle.std.specs.List.{flat_map}
use Rattle.json_out.specs.Spelling.{value_text}
use Rattle.json_out.proofs.spelling.spell_others.Given as goal

abbrev pub invariant-loop-item : goal.invariant-loop-item
invariant-loop-item g l = l.out ≡ l.fn.out ++ flat_map (λ x. codes ", " ++ value_text (g.T.Spell.json x)) (take l.item-index l.items)
