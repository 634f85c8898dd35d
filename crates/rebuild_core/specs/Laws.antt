-- Laws over the definitions of work.
use Rattle.std.specs.Prelude.{◌≡◌, ◌↔◌, Option, Some, None}
use Rattle.tk_io.specs.FilesData.{FilesData}
use Rattle.build_plain.specs.Work.{Work, work, IsWork}
use Rattle.rebuild_core.specs.Work.{IsWorkFrom}

-- from none kept it is that of a build
abbrev pub FromNone : Type 0
FromNone = (files : FilesData) (w : Work) → IsWorkFrom None files w ↔ IsWork files w

-- to the files that are kept nothing is done
abbrev pub FromTheSame : Type 0
FromTheSame = (files : FilesData) (w : Work) → IsWorkFrom (Some files) files w ↔ (w ≡ work 0 0 0)

-- what is kept and files have one amount of work
abbrev pub OneWorkFrom : Type 0
OneWorkFrom = (before : Option FilesData) (files : FilesData) (v w : Work)
    → IsWorkFrom before files v → IsWorkFrom before files w → v ≡ w

abbrev pub EachWorksFrom : Type 0
EachWorksFrom = (before : Option FilesData) (files : FilesData) → (w : Work) × IsWorkFrom before files w
