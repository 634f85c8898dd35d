-- The numbers of a commit in the statistics: how many outputs it writes, and how many it gives up, beside how much was done
-- for it.
use Rattle.std.specs.Prelude.{ℕ, suc, List, [], ◌∷◌, map as map_list, Some, None}
use Rattle.edit_script.specs.declared.line.Line.{Line}
use Rattle.edit_script.specs.declared.line.Line.TheVariants.{Stats}
use Rattle.edit_script.specs.Delta.{ChangeData}
use Rattle.edit_script.specs.View.{Lined}

-- how many of the changes have new bytes
abbrev pub written_count : List ChangeData → ℕ
written_count [] = 0
written_count ((path, None) ∷ cs) = written_count cs
written_count ((path, Some bytes) ∷ cs) = suc (written_count cs)

-- how many of the changes are of outputs that are held no more
abbrev pub gone_count : List ChangeData → ℕ
gone_count [] = 0
gone_count ((path, None) ∷ cs) = suc (gone_count cs)
gone_count ((path, Some bytes) ∷ cs) = gone_count cs

-- the line of the commit with this number, for which so many files were read, permutations merged and tokens evaluated,
-- and of these changes
abbrev pub stats_line : ℕ → ℕ → ℕ → ℕ → List ChangeData → Line
stats_line k parsed merged evaluated cs = Stats k parsed merged evaluated (written_count cs) (gone_count cs)

-- changes without the lines that they carry
abbrev pub without_lines : List Lined → List ChangeData
without_lines changes = map_list (λ change. change.0) changes
