-- Laws over the definitions.
use Rattle.std.specs.Prelude.{◌≡◌, List}
use Rattle.tk_io.specs.FilesData.{FilesData}
use Rattle.permutations.specs.Permutation.{Permutation}
use Rattle.source_trees.specs.Texts.{AreTexts}
use Rattle.transforms.specs.Config.{Settings}
use Rattle.refusals.specs.Refusal.{Report}
use Rattle.token_cells.specs.TokenCell.{TokenCell}
use Rattle.build_plain.specs.Breaks.{Finds}
use Rattle.build_plain.specs.Out.{Builds}
use Rattle.build_plain.specs.Work.{Work, IsWork}

-- files have one answer
abbrev pub OneBuild : Type 0
OneBuild = (files a b : FilesData) → Builds files a → Builds files b → a ≡ b

-- .. and one amount of work
abbrev pub OneWork : Type 0
OneWork = (files : FilesData) (v w : Work) → IsWork files v → IsWork files w → v ≡ w

-- any files that are texts in memory have an answer
abbrev pub EachBuilds : Type 0
EachBuilds = (files : FilesData) → AreTexts files → (out : FilesData) × Builds files out

-- .. and any files have an amount of work
abbrev pub EachWorks : Type 0
EachWorks = (files : FilesData) → (w : Work) × IsWork files w

-- a permutation has one list of cells and one of breaks
abbrev pub OneFinding : Type 0
OneFinding = (settings : Settings) (files : FilesData) (p : Permutation) (cells others : List TokenCell) (breaks more : List Report)
    → Finds settings files p cells breaks → Finds settings files p others more → (cells ≡ others) × (breaks ≡ more)
