-- What the word stands for is still to come.
use Rattle.std.proofs.Common.{◌≡◌, drop}
use Rattle.type_rules.specs.Words.{meaning, rows_of}
use Rattle.type_rules.proofs.words.meaning.Given as goal

abbrev pub invariant-loop-row : goal.invariant-loop-row
invariant-loop-row g l = meaning (rows_of (drop l.row-index l.table)) l.word ≡ meaning (rows_of l.table) l.word
