-- What is kept true of a store whatever fails, and what stands under `out/`.
use Rattle.std.specs.Prelude.{◌≡◌, ◌⊎◌, ℕ, Bool, true, false, List, Some}
use Rattle.std.specs.FinMap as map
use Rattle.tk_io.specs.FilesData.{FilesData}
use Rattle.out_store.specs.Manifest.{IsManifest, is_listed, manifest_text}
use Rattle.out_store.specs.Paths.{IsStorePlace, gate_place, manifest_place, out_place}
use Rattle.out_store.specs.declared.slot.Slot.{Slot}
use Rattle.out_store.specs.declared.slot.Slot.TheVariants.{Zero, One}

-- the place is held
abbrev pub has : FilesData → List ℕ → Bool
has m place = map.contains_key m place

abbrev pub has_gate : FilesData → Slot → Bool
has_gate m s = has m (gate_place s)

abbrev pub has_output : FilesData → List ℕ → Bool
has_output m path = has m (out_place path)

-- these paths are output paths in order, and all that stands under `out/` is among them
pub record ListsAll (m : FilesData) (paths : List (List ℕ)) : Type 0 where
  pub fits : IsManifest (manifest_text paths) paths
  pub all : (path : List ℕ) → has_output m path ≡ true → is_listed paths path ≡ true

-- the slot holds a manifest that lists all that stands under `out/`
pub record HoldsManifest (m : FilesData) (s : Slot) : Type 0 where
  pub paths : List (List ℕ)
  pub text : map.get m (manifest_place s) ≡ Some (manifest_text paths)
  pub lists : ListsAll m paths

-- no gate and nothing under `out/`
pub record IsNew (m : FilesData) : Type 0 where
  pub ungated : (s : Slot) → has_gate m s ≡ false
  pub none : (path : List ℕ) → has_output m path ≡ false

-- a gate, and behind each gate a manifest that lists all that stands under `out/`
pub record IsGated (m : FilesData) : Type 0 where
  pub some : (s : Slot) × (has_gate m s ≡ true)
  pub each : (s : Slot) → has_gate m s ≡ true → HoldsManifest m s

-- Nothing stands but outputs, slots and gates; and the store is new, or a manifest that counts lists all that stands under
-- `out/`.
pub record Kept (m : FilesData) : Type 0 where
  pub known : (place : List ℕ) → has m place ≡ true → IsStorePlace place
  pub state : IsNew m ⊎ IsGated m

-- these are the files under `out/`, each by its path without that
abbrev pub IsUnder : FilesData → FilesData → Type 0
IsUnder m under = (path : List ℕ) → map.get under path ≡ map.get m (out_place path)

-- the slot is the lower of those whose gates stand
abbrev pub IsCurrent : FilesData → Slot → Type 0
IsCurrent m Zero = has_gate m Zero ≡ true
IsCurrent m One = (has_gate m Zero ≡ false) × (has_gate m One ≡ true)

-- .. and is empty or holds no manifest
pub record IsBadSlot (m : FilesData) (s : Slot) : Type 0 where
  pub current : IsCurrent m s
  pub unread : (paths : List (List ℕ)) → map.get m (manifest_place s) ≡ Some (manifest_text paths) → IsManifest (manifest_text paths) paths → ⊥
