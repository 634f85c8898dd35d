-- What becomes of the files by one event, or that it does not fit.
use Rattle.std.specs.Prelude.{◌≡◌, ℕ, List, length, Option, Some, None}
use Rattle.std.specs.FinMap as map
use Rattle.tk_io.specs.FilesData.{FilesData}
use Rattle.edit_script.specs.Script.{EventData, put, del, move, patch, commit}
use Rattle.edit_script.specs.Files.{Fits, patched}

-- a path has this text; a path has none; the first path has none and the second this text; the files stay and are
-- committed; the event does not fit
pub data OutcomeData : Type 0 where
  given : List ℕ → List ℕ → OutcomeData
  gone : List ℕ → OutcomeData
  moved : List ℕ → List ℕ → List ℕ → OutcomeData
  committed : OutcomeData
  unfit : OutcomeData

-- what comes of the event and the present text, where it fits
abbrev pub outcome_of : EventData → Option (List ℕ) → OutcomeData
outcome_of (put path text) present = given path text
outcome_of (del path) present = gone path
outcome_of (move first second) None = unfit
outcome_of (move first second) (Some text) = moved first second text
outcome_of (patch path start end bytes) None = unfit
outcome_of (patch path start end bytes) (Some text) = given path (patched text start end bytes)
outcome_of commit present = committed

-- this comes of the event and the present text, where the earlier patches made this sum
abbrev pub IsOutcome : EventData → Option (List ℕ) → ℕ → OutcomeData → Type 0
IsOutcome event present made unfit = ¬ (Fits event present made)
IsOutcome event present made outcome = Fits event present made × (outcome ≡ outcome_of event present)

-- the files after the outcome; a text that is moved onto itself stays
abbrev pub files_by : OutcomeData → FilesData → FilesData
files_by (given path text) files = map.insert files path text
files_by (gone path) files = map.remove files path
files_by (moved first second text) files = map.insert (map.remove files first) second text
files_by committed files = files
files_by unfit files = files

-- the length of the text that the outcome gives to a path
abbrev pub given_length : OutcomeData → ℕ
given_length (given path text) = length text
given_length (gone path) = 0
given_length (moved first second text) = 0
given_length committed = 0
given_length unfit = 0

-- the length of the text that an event of this outcome makes: a patch that fits makes one
abbrev pub made_with : EventData → OutcomeData → ℕ
made_with (put path text) outcome = 0
made_with (del path) outcome = 0
made_with (move first second) outcome = 0
made_with (patch path start end bytes) outcome = given_length outcome
made_with commit outcome = 0
