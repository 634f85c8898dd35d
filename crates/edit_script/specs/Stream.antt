-- The stream: its lines, the records of changes, and the pieces in which it is written.
use Rattle.std.specs.Prelude.{ℕ, ◌+◌, List, [], ◌∷◌, ◌++◌, length, codes, Some, None}
use Rattle.std.specs.FinMap as map
use Rattle.std.specs.Fmt.{decimal}
use Rattle.std.specs.List.{flat_map}
use Rattle.edit_script.specs.declared.line.Line.{Line}
use Rattle.edit_script.specs.declared.line.Line.TheVariants.{StreamHead, StatsHead, Commit, Stats, Done}
use Rattle.edit_script.specs.Delta.{ChangeData, Delta}

-- the line, with its line end
abbrev pub line_text : Line → List ℕ
line_text StreamHead = codes "tokc-stream 1\n"
line_text StatsHead = codes "tokc-stats 1\n"
line_text (Commit k) = codes "commit " ++ decimal k ++ codes "\n"
line_text (Stats k parsed merged evaluated written gone) =
    codes "commit " ++ decimal k ++ codes " parsed " ++ decimal parsed ++ codes " merged " ++ decimal merged
    ++ codes " evaluated " ++ decimal evaluated ++ codes " written " ++ decimal written ++ codes " gone " ++ decimal gone
    ++ codes "\n"
line_text (Done n) = codes "done " ++ decimal n ++ codes "\n"

-- the first line of a change's record
abbrev pub record_line : ChangeData → List ℕ
record_line (path, None) = codes "gone " ++ path ++ codes "\n"
record_line (path, Some bytes) = codes "file " ++ path ++ codes " " ++ decimal (length bytes) ++ codes "\n"

-- the pieces of a change's record: its first line, and for new bytes these and a line end
abbrev pub pieces_of : ChangeData → List (List ℕ)
pieces_of (path, None) = record_line (path, None) ∷ []
pieces_of (path, Some bytes) = record_line (path, Some bytes) ∷ bytes ∷ codes "\n" ∷ []

-- a change's record
abbrev pub record_of : ChangeData → List ℕ
record_of (path, None) = record_line (path, None)
record_of (path, Some bytes) = record_line (path, Some bytes) ++ bytes ++ codes "\n"

-- the lines of commits, the first of them with this number, each with the records of its delta in byte order of paths
unfoldable pub commits_text : ℕ → List Delta → List ℕ
commits_text k [] = []
commits_text k (d ∷ ds) = line_text (Commit k) ++ flat_map record_of (map.entries d) ++ commits_text (k + 1) ds

unfoldable pub commits_pieces : ℕ → List Delta → List (List ℕ)
commits_pieces k [] = []
commits_pieces k (d ∷ ds) = line_text (Commit k) ∷ (flat_map pieces_of (map.entries d) ++ commits_pieces (k + 1) ds)

-- the stream of one delta a commit: the header, the commits, counted from 1, and how many they were
unfoldable pub stream_of : List Delta → List ℕ
stream_of ds = line_text StreamHead ++ commits_text 1 ds ++ line_text (Done (length ds))

-- the pieces in which the stream is written
unfoldable pub stream_pieces : List Delta → List (List ℕ)
stream_pieces ds = line_text StreamHead ∷ (commits_pieces 1 ds ++ line_text (Done (length ds)) ∷ [])
