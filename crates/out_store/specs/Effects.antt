-- What a call on a store changes, and when it is refused.
use Rattle.std.specs.Prelude.{◌≡◌, ◌≢◌, ◌≤◌, ◌⊎◌, ℕ, List, Option, Some, None, Result, Ok, Err, ⊤}
use Rattle.std.specs.FinMap as map
use Rattle.tk_io.specs.Causes.{Rose}
use Rattle.tk_io.specs.FilesData.{FilesData}
use Rattle.out_store.specs.declared.stop.StoreStop.{StoreStop}
use Rattle.out_store.specs.declared.stop.StoreStop.TheVariants as call
use Rattle.out_store.specs.declared.stop.SyncStop.{SyncStop}
use Rattle.out_store.specs.declared.stop.SyncStop.TheVariants as sync

-- this holds of what was held and what is, where a store tells it; one that told it goes on telling it
abbrev pub Told : Option FilesData → Option FilesData → (FilesData → FilesData → Type 0) → Type 0
Told None new claim = ⊤
Told (Some m) None claim = ⊥
Told (Some m) (Some n) claim = claim m n

-- under each other path stands what stood there
abbrev pub Elsewhere : List ℕ → FilesData → FilesData → Type 0
Elsewhere path old new = (q : List ℕ) → q ≢ path → map.get new q ≡ map.get old q

-- the path is absent or as before, and all else stays
abbrev pub IsTakenOrKept : List ℕ → FilesData → FilesData → Type 0
IsTakenOrKept path old new = (new ≡ old) ⊎ (new ≡ map.remove old path)

-- the count of faults rose where the call failed, and else stands still
abbrev pub IsCaused : {T : Type 0} → ℕ → ℕ → Result T StoreStop → Type 0
IsCaused before now (Ok x) = now ≡ before
IsCaused before now (Err call.Failed) = (before ≤ now) × Rose before now
IsCaused before now (Err call.NoMemory) = now ≡ before

-- .. by what a run of calls stopped at
abbrev pub FaultsBy : SyncStop → ℕ → ℕ → Type 0
FaultsBy sync.StoreFault before now = (before ≤ now) × Rose before now
FaultsBy (sync.BadManifest s) before now = now ≡ before
FaultsBy sync.NoMemory before now = now ≡ before

abbrev pub AreCaused : {T : Type 0} → ℕ → ℕ → Result T SyncStop → Type 0
AreCaused before now (Ok x) = now ≡ before
AreCaused before now (Err e) = FaultsBy e before now

-- a refused call ends the run
abbrev pub stop_of : StoreStop → SyncStop
stop_of call.Failed = sync.StoreFault
stop_of call.NoMemory = sync.NoMemory
