-- Laws over the definitions.
use Rattle.std.specs.Prelude.{◌≡◌, ◌↔◌, ℕ, List, [], map}
use Rattle.ring.specs.Lists.{In, AreApart}
use Rattle.permutations.specs.Permutation.{Permutation}
use Rattle.transforms.specs.Config.{Settings}
use Rattle.tk_io.specs.FilesData.{FilesData}
use Rattle.refusals.specs.Refusal.{Report, report_text}
use Rattle.token_cells.specs.Breaks.{verdict}
use Rattle.token_cells.specs.TokenCell.{TokenCell}
use Rattle.build_plain.specs.Breaks.{Finds}
use Rattle.all_breaks.specs.All.{AllTold, TellsFrom}
use Rattle.all_breaks.specs.Telling.{Tells}
use Rattle.all_breaks.specs.Told.{ToldBreak}

-- Something is told of a permutation exactly where it is refused, and the first that is told is the break of its refusal.
abbrev pub FirstIsRefused : Type 0
FirstIsRefused = (settings : Settings) (files : FilesData) (p : Permutation) (cells : List TokenCell) (breaks reports : List Report)
    → Finds settings files p cells breaks → Tells settings files p reports → verdict reports ≡ verdict breaks

-- One list is told of a permutation, ..
abbrev pub OneTelling : Type 0
OneTelling = (settings : Settings) (files : FilesData) (p : Permutation) (reports others : List Report)
    → Tells settings files p reports → Tells settings files p others → reports ≡ others

-- .. and one of files.
abbrev pub OneTold : Type 0
OneTold = (files : FilesData) (told others : List ToldBreak) → AllTold files told → AllTold files others → told ≡ others

-- a break that reads so is told, with this name among its names
pub record IsToldOf (told : List ToldBreak) (name text : List ℕ) : Type 0 where
  pub entry : ToldBreak
  pub there : In entry told
  pub reads : entry.text ≡ text
  pub named : In name entry.names

-- one of the permutations has this name, and a break is told of it that reads so
pub record IsHad (settings : Settings) (files : FilesData) (perms : List Permutation) (name text : List ℕ) : Type 0 where
  pub perm : Permutation
  pub among : In perm perms
  pub named : perm.name ≡ name
  pub reports : List Report
  pub tells : Tells settings files perm reports
  pub printed : In text (map (report_text files) reports)

-- Of permutations exactly the breaks that they have are told, each with exactly their names; ..
abbrev pub ToldAreHad : Type 0
ToldAreHad = (settings : Settings) (files : FilesData) (perms : List Permutation) (told : List ToldBreak) → TellsFrom settings files perms [] told
    → (name text : List ℕ) → IsToldOf told name text ↔ IsHad settings files perms name text

-- .. and no two that are told read the same.
abbrev pub ToldDiffer : Type 0
ToldDiffer = (settings : Settings) (files : FilesData) (perms : List Permutation) (told : List ToldBreak) → TellsFrom settings files perms [] told
    → AreApart (map (λ (t : ToldBreak). t.text) told)
