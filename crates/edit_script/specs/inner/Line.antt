-- An event's line, and what stands after it.
use Rattle.std.specs.Prelude.{ℕ, List, [], ◌++◌, length, codes}
use Rattle.std.specs.Fmt.{decimal}
use Rattle.edit_script.specs.Script.{EventData, put, del, move, patch, commit}

-- three numbers with blanks between them
abbrev pub numbers_text : ℕ → ℕ → ℕ → List ℕ
numbers_text start end size = decimal start ++ codes " " ++ decimal end ++ codes " " ++ decimal size

-- the line, without its line end
abbrev pub first_line : EventData → List ℕ
first_line (put path text) = codes "put " ++ path ++ codes " " ++ decimal (length text)
first_line (del path) = codes "del " ++ path
first_line (move first second) = codes "move " ++ first ++ codes " " ++ second
first_line (patch path start end bytes) = codes "patch " ++ path ++ codes " " ++ numbers_text start end (length bytes)
first_line commit = codes "commit"

-- the bytes of a put or a patch, with their line end
abbrev pub behind_line : EventData → List ℕ
behind_line (put path text) = text ++ codes "\n"
behind_line (del path) = []
behind_line (move first second) = []
behind_line (patch path start end bytes) = bytes ++ codes "\n"
behind_line commit = []
