-- Texts in memory.
use Rattle.std.specs.Prelude.{◌≡◌, ◌≤◌, ◌^◌, ℕ, List, Some, length}
use Rattle.std.specs.FinMap as finite
use Rattle.std.specs.Str.{IsUtf8}
use Rattle.tk_io.specs.FilesData.{FilesData}

-- the bytes are UTF-8, and no more than memory has places
pub record IsText (text : List ℕ) : Type 0 where
  pub utf8 : IsUtf8 text
  pub fits : length text ≤ 2 ^ 64

-- each file is such a text
abbrev pub AreTexts : FilesData → Type 0
AreTexts files = (path text : List ℕ) → finite.get files path ≡ Some text → IsText text
