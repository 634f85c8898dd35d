-- Trees of the files of names, beside the trees of those seen.
use Rattle.std.specs.Prelude.{◌≡◌, ◌≤◌, ◌+◌, ℕ, List, ◌++◌}
use Rattle.std.specs.FinMap as finite
use Rattle.tk_io.specs.FilesData.{FilesData}
use Rattle.tk_io.specs.Order.{text_cmp}
use Rattle.file_plan.specs.InUse.{AreAmong, in_use_by}
use Rattle.file_plan.specs.Trees.{AreTreesIn}
use Rattle.file_plan.specs.declared.tree.Tree.{Tree}

-- where the trees were those of files seen, they are also those of the files of these names, where these are there
abbrev pub AddsTrees : FilesData → List (List ℕ) → finite.FinMap text_cmp Tree → finite.FinMap text_cmp Tree → Type 0
AddsTrees files names old new =
    (seen : FilesData) → AreAmong seen files → AreTreesIn seen old → AreTreesIn (in_use_by files seen names) new

-- those of the files of the first of these names
pub record AddsFront (files : FilesData) (names : List (List ℕ)) (old new : finite.FinMap text_cmp Tree) : Type 0 where
  pub front : List (List ℕ)
  pub rest : List (List ℕ)
  pub split : names ≡ front ++ rest
  pub adds : AddsTrees files front old new

-- the number rises by one for each file that was not seen
abbrev pub CountsAdded : FilesData → List (List ℕ) → finite.FinMap text_cmp Tree → ℕ → ℕ → Type 0
CountsAdded files names old before after =
    (seen : FilesData) → AreAmong seen files → AreTreesIn seen old
    → after + finite.len seen ≡ before + finite.len (in_use_by files seen names)

-- .. and by no more
abbrev pub CountsAtMost : FilesData → List (List ℕ) → finite.FinMap text_cmp Tree → ℕ → ℕ → Type 0
CountsAtMost files names old before after =
    (seen : FilesData) → AreAmong seen files → AreTreesIn seen old
    → after + finite.len seen ≤ before + finite.len (in_use_by files seen names)
