-- The files of a folder as plain data.
use Rattle.std.specs.Prelude.{ℕ, List}
use Rattle.std.specs.FinMap as map
use Rattle.tk_io.specs.Order.{text_cmp}

-- the bytes of each file, by its path
abbrev pub FilesData : Type 0
FilesData = map.FinMap text_cmp (List ℕ)
