-- The lines of the names so far.
use Rattle.std.proofs.Common.{◌≡◌, ◌++◌, codes, flat_map, take}
use Rattle.refusals.specs.Refusal.{quoted_line}
use Rattle.all_breaks.proofs.writing.append_names.Given as goal

abbrev pub invariant-loop-name : goal.invariant-loop-name
invariant-loop-name l = l.out ≡ l.initial.out ++ flat_map (quoted_line (codes "in ")) (take l.name-index l.name-items)
