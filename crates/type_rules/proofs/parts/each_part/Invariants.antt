-- What the items so far and those to come give, the whole list gives.
use Rattle.std.proofs.Common.{◌≡◌, drop}
use Rattle.json_span.specs.PlainView.{plain_items_view}
use Rattle.type_rules.specs.Forms.{each}
use Rattle.type_rules.proofs.Eaches.{behind}
use Rattle.type_rules.proofs.parts.each_part.Given as goal

abbrev pub invariant-loop-i : goal.invariant-loop-i
invariant-loop-i g l = behind l.parts (each (g.P.Part.part_in l.legacy) l.i (drop l.i (plain_items_view l.items))) ≡ each (g.P.Part.part_in l.legacy) 0 (plain_items_view l.items)
