-- An engine: its files, the outputs that it holds, what is kept, none or the files that these are of, and whether no file
-- was put or taken away since.
use Rattle.std.specs.Prelude.{Bool, true, false, Option, None, Some, IfSome}
use Rattle.std.specs.Coded.{Coded, coded_list, coded_ℕ}
use Rattle.std.specs.FinMap as finite
use Rattle.tk_io.specs.FilesData.{FilesData}
use Rattle.build_plain.specs.Out.{Builds}
use Rattle.build_plain.specs.Work.{Work, work}
use Rattle.rebuild_core.specs.declared.commit.Counts.{Counts}

pub record EngineState : Type 0 where
  pub files : FilesData
  pub held : FilesData
  pub kept : Option FilesData
  pub is_built : Bool

abbrev pub state : FilesData → FilesData → Option FilesData → Bool → EngineState
state files held kept is_built = record { files = files; held = held; kept = kept; is_built = is_built }

-- .. after a file was put or taken away, with these files
abbrev pub edited : EngineState → FilesData → EngineState
edited e files = state files e.held e.kept false

-- .. after a commit of the files that ended well, with these outputs
abbrev pub committed : FilesData → FilesData → EngineState
committed files held = state files held (Some files) true

-- .. after one that ran out of memory
abbrev pub refused : EngineState → EngineState
refused e = state e.files e.held None false

-- what is held are the outputs of the files that are kept
abbrev pub HoldsKept : EngineState → Type 0
HoldsKept e = IfSome e.kept (λ files. Builds files e.held)

-- the numbers of a commit
abbrev pub counts_view : Counts → Work
counts_view c = work c.parsed c.merged c.evaluated

-- the code of files, by which a proof tells them from others
abbrev pub coded_files : Coded FilesData
coded_files = finite.code (coded_list coded_ℕ) (coded_list coded_ℕ)
