-- What a run brings a store to.
use Rattle.std.specs.Prelude.{◌≡◌, ◌⊎◌, ℕ, Bool, List, Option, IfSome}
use Rattle.std.specs.Io.KnownBytes.{IsAtEnd}
use Rattle.tk_io.specs.FilesData.{FilesData}
use Rattle.edit_script.specs.Files.{AreFilesAfter, EveryFits}
use Rattle.edit_script.specs.Script.{EventData, IsScript}
use Rattle.build_plain.specs.Out.{Builds}
use Rattle.out_store.specs.Effects.{Told}
use Rattle.out_store.specs.Kept.{IsBadSlot, IsUnder, Kept}
use Rattle.out_store.specs.declared.slot.Slot.{Slot}
use Rattle.token_cli.specs.Headline.{OfSource, is_refused}
use Rattle.store_cli.specs.declared.status.StoreStatus.{StoreStatus}
use Rattle.store_cli.specs.declared.status.StoreStatus.TheVariants as status

-- what a build from nothing makes of the files after all events
abbrev pub BuildsAfter : List EventData → FilesData → Type 0
BuildsAfter es out = (files : FilesData) × AreFilesAfter es files × Builds files out

-- every event fits, and under `out/` of the store stand exactly the outputs of their files, where the store was kept;
-- `refused` says whether one of them is a refusal
abbrev pub StoredOf : List EventData → Bool → Option FilesData → Option FilesData → Type 0
StoredOf es refused old new =
    EveryFits es × ((out : FilesData) × BuildsAfter es out × (is_refused out ≡ refused) × Told old new (λ m n. Kept m → IsUnder n out))

-- .. of the script that the source had left, which was read to its end
abbrev pub StoredAll : Option (List ℕ) → Option (List ℕ) → Bool → Option FilesData → Option FilesData → Type 0
StoredAll left rest refused old new =
    IsAtEnd rest × OfSource left (λ script. (es : List EventData) × IsScript script es × StoredOf es refused old new)

-- the store had a bad slot, and so was not kept
abbrev pub HadBadSlot : Option FilesData → Type 0
HadBadSlot held = IfSome held (λ m. ((s : Slot) × IsBadSlot m s) × (Kept m → ⊥))

-- the store is said to have the outputs, or memory ran out
abbrev pub IsStored : StoreStatus → Type 0
IsStored s = (s ≡ status.Done) ⊎ ((s ≡ status.Refused) ⊎ (s ≡ status.NoMemory))
