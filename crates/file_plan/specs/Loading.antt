-- What one event of a script makes of files.
use Rattle.std.specs.Prelude.{◌≡◌, ◌≤◌, ◌+◌, ℕ}
use Rattle.std.specs.FinMap as map
use Rattle.tk_io.specs.FilesData.{FilesData}
use Rattle.edit_script.specs.Script.{EventData}
use Rattle.edit_script.specs.Effect.{OutcomeData, files_by, made_with, outcome_of}
use Rattle.edit_script.specs.Files.{Fits, most_patched, present_of}

-- what comes of an event that fits these files
abbrev pub outcome_in : EventData → FilesData → OutcomeData
outcome_in event files = outcome_of event (present_of event (map.get files))

-- the event fits files where the patches before it made this sum
abbrev pub FitsFiles : EventData → FilesData → ℕ → Type 0
FitsFiles event files made = Fits event (present_of event (map.get files)) made

-- an event that fits leads from files to files, and from what the patches made to what they made with it
pub record IsTaken (event : EventData) (before : ℕ) (old new : FilesData) (sum : ℕ) : Type 0 where
  pub fits : FitsFiles event old before
  pub files : new ≡ files_by (outcome_in event old) old
  pub made : sum ≡ before + made_with event (outcome_in event old)
  pub bound : sum ≤ most_patched

-- an event that does not fit changes nothing
abbrev pub IsRefused : EventData → ℕ → FilesData → FilesData → Type 0
IsRefused event made old new = ¬ (FitsFiles event old made) × (new ≡ old)
