-- What one event of a script makes of what stands, and what it writes.
use Rattle.std.specs.Prelude.{◌≡◌, ◌⊎◌, ◌+◌, ℕ, List, ◌++◌, Option, None, Some}
use Rattle.std.specs.FinMap as map
use Rattle.std.specs.List.{flat_map}
use Rattle.std.specs.Io.KnownBytes.{Appends}
use Rattle.tk_io.specs.Causes.{Rose}
use Rattle.tk_io.specs.Writing.{AppendsPart}
use Rattle.edit_script.specs.Script.{EventData, put, del, move, patch, commit}
use Rattle.tk_io.specs.FilesData.{FilesData}
use Rattle.edit_script.specs.Delta.{Delta, IsDelta}
use Rattle.edit_script.specs.View.{Lined}
use Rattle.edit_script.specs.Stats.{without_lines, stats_line}
use Rattle.edit_script.specs.Stream.{line_text, record_of}
use Rattle.edit_script.specs.declared.line.Line.TheVariants.{Commit}
use Rattle.build_plain.specs.Out.{Builds}
use Rattle.build_plain.specs.Work.{Work}
use Rattle.file_plan.specs.Loading.{FitsFiles, IsTaken}
use Rattle.rebuild_core.specs.Engine.{EngineState}
use Rattle.rebuild_core.specs.Work.{IsWorkFrom}
use Rattle.token_cli.specs.Told.{commit_text}
use Rattle.token_cli.specs.declared.telling.Telling.{Telling}
use Rattle.token_cli.specs.declared.telling.Telling.TheVariants.{Records, Numbers}
use Rattle.token_cli.specs.declared.stop.Stop.{Stop}
use Rattle.token_cli.specs.declared.stop.Stop.TheVariants as stop

-- the files, what the patches made of them, how many events were taken, the outputs held, the files that these are of, none
-- before the first commit, and how many commits there were
pub record State : Type 0 where
  pub files : FilesData
  pub made : ℕ
  pub taken : ℕ
  pub held : FilesData
  pub kept : Option FilesData
  pub commits : ℕ

-- before the first event
abbrev pub first_state : State
first_state = record { files = map.empty; made = 0; taken = 0; held = map.empty; kept = None; commits = 0 }

-- an engine holds and keeps what it held and kept
abbrev pub HoldsAs : EngineState → EngineState → Type 0
HoldsAs old new = (new.held ≡ old.held) × (new.kept ≡ old.kept)

-- an event that fits leads from an engine's files to others, and from what the patches made to what they made with it
abbrev pub IsTakenBy : EventData → ℕ → EngineState → EngineState → ℕ → Type 0
IsTakenBy event before old new sum = IsTaken event before old.files new.files sum × HoldsAs old new

-- an event that does not fit an engine's files changes nothing
abbrev pub IsRefusedBy : EventData → ℕ → EngineState → EngineState → Type 0
IsRefusedBy event made old new = ¬ (FitsFiles event old.files made) × (new ≡ old)

-- the records of changes with their lines
abbrev pub records_of : List Lined → List ℕ
records_of changes = flat_map (λ change. record_of change.0) changes

-- what is written at the commit with this number, for which so much was done, and of these changes
abbrev pub changes_text : Telling → ℕ → Work → List Lined → List ℕ
changes_text Records k work changes = line_text (Commit k) ++ records_of changes
changes_text Numbers k work changes = line_text (stats_line k work.parses work.merges work.evals (without_lines changes))

-- a commit of what stands leads to these outputs, by so much work and this delta
abbrev pub IsCommitted : State → FilesData → Work → Delta → Type 0
IsCommitted s held work delta = Builds s.files held × IsWorkFrom s.kept s.files work × IsDelta s.held held delta

-- an event is taken into the files, and nothing is told
pub record IsEdited (e : EventData) (s t : State) : Type 0 where
  pub taken : IsTaken e s.made s.files t.files t.made
  pub count : t.taken ≡ s.taken + 1
  pub held : t.held ≡ s.held
  pub kept : t.kept ≡ s.kept
  pub commits : t.commits ≡ s.commits

-- the outputs of the files are held, and the commit is told
pub record IsCommitTold (told : Telling) (s t : State) (old new : Option (List ℕ)) : Type 0 where
  pub files : t.files ≡ s.files
  pub made : t.made ≡ s.made
  pub taken : t.taken ≡ s.taken
  pub kept : t.kept ≡ Some s.files
  pub commits : t.commits ≡ s.commits + 1
  pub work : Work
  pub delta : Delta
  pub leads : IsCommitted s t.held work delta
  pub text : Appends old new (commit_text told (s.commits + 1) work delta)

-- what is told once the event is taken: a commit is, and nothing else
abbrev pub IsTold : Telling → EventData → State → State → Option (List ℕ) → Option (List ℕ) → Type 0
IsTold told (put path text) s t old new = (t ≡ s) × (new ≡ old)
IsTold told (del path) s t old new = (t ≡ s) × (new ≡ old)
IsTold told (move first second) s t old new = (t ≡ s) × (new ≡ old)
IsTold told (patch path start end bytes) s t old new = (t ≡ s) × (new ≡ old)
IsTold told commit s t old new = IsCommitTold told s t old new

abbrev pub IsEventTold : Telling → EventData → State → State → Option (List ℕ) → Option (List ℕ) → Type 0
IsEventTold told e s t old new = (m : State) × IsEdited e s m × IsTold told e m t old new

-- why the commit of this number and work isn't written whole, and what was written of it
abbrev pub Cuts : Telling → Stop → FilesData → FilesData → ℕ → Work → Option (List ℕ) → Option (List ℕ) → ℕ → ℕ → Type 0
Cuts told stop.NoMemory held next k work old new before now = new ≡ old
Cuts told stop.WriteFault held next k work old new before now =
    Rose before now × ((delta : Delta) × IsDelta held next delta × AppendsPart old new (commit_text told k work delta))
Cuts told stop.Usage held next k work old new before now = ⊥
Cuts told (stop.BadScript at) held next k work old new before now = ⊥
Cuts told (stop.BadEvent number) held next k work old new before now = ⊥
Cuts told stop.ReadFault held next k work old new before now = ⊥
Cuts told stop.TooLong held next k work old new before now = ⊥

-- why what stands isn't committed, what was written of it, and how the count of faults went
abbrev pub CommitFails : Telling → Stop → State → Option (List ℕ) → Option (List ℕ) → ℕ → ℕ → Type 0
CommitFails told stop.NoMemory s old new before now = new ≡ old
CommitFails told stop.WriteFault s old new before now =
    Rose before now × ((held : FilesData) × (work : Work) × (delta : Delta) × IsCommitted s held work delta
    × AppendsPart old new (commit_text told (s.commits + 1) work delta))
CommitFails told stop.Usage s old new before now = ⊥
CommitFails told (stop.BadScript at) s old new before now = ⊥
CommitFails told (stop.BadEvent number) s old new before now = ⊥
CommitFails told stop.ReadFault s old new before now = ⊥
CommitFails told stop.TooLong s old new before now = ⊥

-- why an event isn't taken into the files
abbrev pub EditFails : Stop → EventData → State → Type 0
EditFails stop.NoMemory e s = Unit {0}
EditFails (stop.BadEvent number) e s = ¬ (FitsFiles e s.files s.made) × (number ≡ s.taken + 1)
EditFails stop.WriteFault e s = ⊥
EditFails stop.Usage e s = ⊥
EditFails (stop.BadScript at) e s = ⊥
EditFails stop.ReadFault e s = ⊥
EditFails stop.TooLong e s = ⊥

-- why an event isn't taken and told, what was written of it, and how the count of faults went
abbrev pub Fails : Telling → Stop → EventData → State → Option (List ℕ) → Option (List ℕ) → ℕ → ℕ → Type 0
Fails told why e s old new before now =
    (EditFails why e s × (new ≡ old)) ⊎ ((e ≡ commit) × ((m : State) × IsEdited e s m × CommitFails told why m old new before now))
