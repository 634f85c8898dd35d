-- What is written of commits: their records, which make the stream, or their numbers, which make the statistics.
use Rattle.std.specs.Prelude.{ℕ, List, [], ◌∷◌, ◌++◌, ◌+◌, length}
use Rattle.std.specs.FinMap as map
use Rattle.std.specs.List.{flat_map}
use Rattle.edit_script.specs.Delta.{Delta}
use Rattle.edit_script.specs.Stats.{stats_line}
use Rattle.edit_script.specs.Stream.{commits_text, line_text, record_of, stream_of}
use Rattle.edit_script.specs.declared.line.Line.{Line}
use Rattle.edit_script.specs.declared.line.Line.TheVariants.{StreamHead, StatsHead, Commit, Done}
use Rattle.build_plain.specs.Work.{Work}
use Rattle.token_cli.specs.declared.telling.Telling.{Telling}
use Rattle.token_cli.specs.declared.telling.Telling.TheVariants.{Records, Numbers}

-- The statistics.

-- the line of the commit with this number, by how much was done for it and what changed by it
abbrev pub numbers_line : ℕ → Work → Delta → Line
numbers_line k w d = stats_line k w.parses w.merges w.evals (map.entries d)

-- the lines of commits, the first of them with this number
unfoldable pub numbers_lines : ℕ → List Work → List Delta → List ℕ
numbers_lines k [] ds = []
numbers_lines k (w ∷ ws) [] = []
numbers_lines k (w ∷ ws) (d ∷ ds) = line_text (numbers_line k w d) ++ numbers_lines (k + 1) ws ds

-- the header, the commits, counted from 1, and how many they were
unfoldable pub stats_of : List Work → List Delta → List ℕ
stats_of ws ds = line_text StatsHead ++ numbers_lines 1 ws ds ++ line_text (Done (length ds))

-- What is told in either way, by how much was done for each commit and what changed by it; the records tell the changes
-- alone.

-- the first line
abbrev pub head_line : Telling → Line
head_line Records = StreamHead
head_line Numbers = StatsHead

-- what is written at the commit with this number
abbrev pub commit_text : Telling → ℕ → Work → Delta → List ℕ
commit_text Records k work delta = line_text (Commit k) ++ flat_map record_of (map.entries delta)
commit_text Numbers k work delta = line_text (numbers_line k work delta)

-- .. and at commits, the first of them with this number
abbrev pub all_commits : Telling → ℕ → List Work → List Delta → List ℕ
all_commits Records k works deltas = commits_text k deltas
all_commits Numbers k works deltas = numbers_lines k works deltas

-- what is written up to the end of these commits
abbrev pub commits_so_far : Telling → List Work → List Delta → List ℕ
commits_so_far told works deltas = line_text (head_line told) ++ all_commits told 1 works deltas

-- all that is written: the stream, or the statistics
abbrev pub whole_text : Telling → List Work → List Delta → List ℕ
whole_text Records works deltas = stream_of deltas
whole_text Numbers works deltas = stats_of works deltas
