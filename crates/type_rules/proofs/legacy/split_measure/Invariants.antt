-- The number and the unit are still to come.
use Rattle.std.proofs.Common.{◌≡◌, drop}
use Rattle.type_rules.specs.Legacy.{split_measure}
use Rattle.type_rules.specs.Words.{rows_of}
use Rattle.type_rules.proofs.legacy.split_measure.Given as goal

abbrev pub invariant-loop-row : goal.invariant-loop-row
invariant-loop-row g l = split_measure (rows_of (drop l.row-index l.units)) l.text ≡ split_measure (rows_of l.units) l.text
