-- How a run ends, by what its main job answers.
use Rattle.std.specs.Prelude.{◌≡◌, ◌≢◌, ◌+◌, ℕ, Bool, List, Option, Result, Ok, Err}
use Rattle.std.specs.Io.KnownBytes.{IsAtEnd}
use Rattle.tk_io.specs.Causes.{Rose}
use Rattle.tk_io.specs.FilesData.{FilesData}
use Rattle.tk_io.specs.Reading.{TakesExactly}
use Rattle.tk_io.specs.declared.source.ReadStop.{ReadStop}
use Rattle.tk_io.specs.declared.source.ReadStop.TheVariants as reading
use Rattle.edit_script.specs.Script.{EventData, IsScript, IsScriptStop}
use Rattle.edit_script.specs.declared.script.ScriptStop.{ScriptStop}
use Rattle.edit_script.specs.declared.script.ScriptStop.TheVariants as script
use Rattle.edit_script.specs.Files.{EveryFits, IsUnfit}
use Rattle.file_plan.specs.declared.loading.LoadStop.{LoadStop}
use Rattle.file_plan.specs.declared.loading.LoadStop.TheVariants as load
use Rattle.out_store.specs.declared.stop.SyncStop.{SyncStop}
use Rattle.out_store.specs.declared.stop.SyncStop.TheVariants as sync
use Rattle.token_cli.specs.Headline.{HasUnfitEvent, IsNoScript, OfSource, most_bytes}
use Rattle.store_cli.specs.Report.{error_text}
use Rattle.store_cli.specs.Stored.{HadBadSlot, StoredAll, StoredOf}
use Rattle.store_cli.specs.declared.stop.Stop.{Stop}
use Rattle.store_cli.specs.declared.stop.Stop.TheVariants as stop
use Rattle.store_cli.specs.declared.status.StoreStatus.{StoreStatus}
use Rattle.store_cli.specs.declared.status.StoreStatus.TheVariants as status

abbrev pub of_read : ReadStop → Stop
of_read reading.ReadFault = stop.ReadFault
of_read reading.TooLong = stop.TooLong
of_read reading.NoMemory = stop.NoMemory

abbrev pub of_script : ScriptStop → Stop
of_script (script.BadScript at) = stop.BadScript at
of_script script.NoMemory = stop.NoMemory

abbrev pub of_load : LoadStop → Stop
of_load (load.Unfit number) = stop.BadEvent number
of_load load.NoMemory = stop.NoMemory

abbrev pub of_sync : SyncStop → Stop
of_sync sync.StoreFault = stop.StoreFault
of_sync (sync.BadManifest s) = stop.BadManifest
of_sync sync.NoMemory = stop.NoMemory

abbrev pub status_of : Result Bool Stop → StoreStatus
status_of (Ok Bool.true) = status.Refused
status_of (Ok Bool.false) = status.Done
status_of (Err stop.Usage) = status.Usage
status_of (Err (stop.BadScript at)) = status.BadScript
status_of (Err stop.ReadFault) = status.ReadFault
status_of (Err stop.NoMemory) = status.NoMemory
status_of (Err stop.TooLong) = status.TooLong
status_of (Err stop.StoreFault) = status.StoreFault
status_of (Err stop.BadManifest) = status.BadManifest
status_of (Err (stop.BadEvent number)) = status.BadEvent

-- the byte at which a script is refused, or the number of the event that is
abbrev pub place_of : Result Bool Stop → ℕ
place_of (Err (stop.BadScript at)) = at
place_of (Err stop.Usage) = 0
place_of (Err stop.ReadFault) = 0
place_of (Err stop.NoMemory) = 0
place_of (Err stop.TooLong) = 0
place_of (Err stop.StoreFault) = 0
place_of (Err stop.BadManifest) = 0
place_of (Err (stop.BadEvent number)) = number
place_of (Ok refused) = 0

-- what is said of a stop
abbrev pub stop_text : Stop → List ℕ
stop_text s = error_text (status_of (Err s)) (place_of (Err s))

-- what was made of the bytes of a script when it ends so
abbrev pub Scripted : Result Bool Stop → List ℕ → Option FilesData → Option FilesData → ℕ → ℕ → Type 0
Scripted (Ok refused) text old new before now = (es : List EventData) × IsScript text es × StoredOf es refused old new
Scripted (Err (stop.BadScript at)) text old new before now = (new ≡ old) × IsScriptStop text at
Scripted (Err (stop.BadEvent number)) text old new before now = (new ≡ old) × ((es : List EventData) × IsScript text es × IsUnfit es number)
Scripted (Err stop.StoreFault) text old new before now = Rose before now × ((es : List EventData) × IsScript text es × EveryFits es)
Scripted (Err stop.BadManifest) text old new before now = HadBadSlot old × ((es : List EventData) × IsScript text es × EveryFits es)
Scripted (Err stop.NoMemory) text old new before now = Unit {0}
Scripted (Err stop.Usage) text old new before now = ⊥
Scripted (Err stop.ReadFault) text old new before now = ⊥
Scripted (Err stop.TooLong) text old new before now = ⊥

-- what a source had left before and after, what a store held, and the counts of their faults
pub record Course : Type 0 where
  pub left : Option (List ℕ)
  pub rest : Option (List ℕ)
  pub reads : ℕ
  pub reads_now : ℕ
  pub old : Option FilesData
  pub new : Option FilesData
  pub faults : ℕ
  pub faults_now : ℕ

abbrev pub course : Option (List ℕ) → Option (List ℕ) → ℕ → ℕ → Option FilesData → Option FilesData → ℕ → ℕ → Course
course left rest reads reads_now old new faults faults_now = record {
  left = left;
  rest = rest;
  reads = reads;
  reads_now = reads_now;
  old = old;
  new = new;
  faults = faults;
  faults_now = faults_now;
}

-- the bytes read to the end are a script whose events fit
abbrev pub ReadScript : Option (List ℕ) → Option (List ℕ) → Type 0
ReadScript left rest = IsAtEnd rest × OfSource left (λ text. (es : List EventData) × IsScript text es × EveryFits es)

-- how the main job ends for so many words
abbrev pub Ends : Result Bool Stop → ℕ → Course → Type 0
Ends (Ok refused) words t = (words ≡ 1) × StoredAll t.left t.rest refused t.old t.new
Ends (Err stop.Usage) words t = words ≢ 1
Ends (Err (stop.BadScript at)) words t = IsNoScript t.left t.rest at × (t.new ≡ t.old)
Ends (Err (stop.BadEvent number)) words t = HasUnfitEvent t.left t.rest number × (t.new ≡ t.old)
Ends (Err stop.ReadFault) words t = Rose t.reads t.reads_now × (t.new ≡ t.old)
Ends (Err stop.NoMemory) words t = Unit {0}
Ends (Err stop.TooLong) words t = TakesExactly (most_bytes + 1) t.left t.rest × (t.new ≡ t.old)
Ends (Err stop.StoreFault) words t = Rose t.faults t.faults_now × ReadScript t.left t.rest
Ends (Err stop.BadManifest) words t = HadBadSlot t.old × ReadScript t.left t.rest
