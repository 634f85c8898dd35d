-- How a store passes from one gate to the other, and what stands between.
use Rattle.std.specs.Prelude.{◌≡◌, ◌⊎◌, ◌&&◌, ◌||◌, ℕ, Bool, true, false, List, Some, if◌then◌else◌}
use Rattle.std.specs.FinMap as map
use Rattle.tk_io.specs.FilesData.{FilesData}
use Rattle.tk_io.specs.Order.{text_cmp}
use Rattle.out_store.specs.Effects.{Elsewhere}
use Rattle.out_store.specs.Kept.{ListsAll, has, has_gate, has_output}
use Rattle.out_store.specs.Manifest.{IsManifest, manifest_text}
use Rattle.out_store.specs.Paths.{IsOutputPath, IsStorePlace, gate_place, manifest_place, other_slot, out_place}
use Rattle.out_store.specs.declared.gates.Gates.{Gates}
use Rattle.out_store.specs.declared.slot.Slot.{Slot}
use Rattle.out_store.specs.declared.slot.Slot.TheVariants.{Zero, One}

-- the flags are those of the gates
pub record AreGates (gates : Gates) (m : FilesData) : Type 0 where
  pub zero : gates.zero ≡ has_gate m Zero
  pub one : gates.one ≡ has_gate m One

-- the lower slot whose gate stands, and without a gate the upper one; the other slot; whether a gate stands, and both do
abbrev pub current : Gates → Slot
current gates = if gates.zero then Zero else One

abbrev pub other_than : Gates → Slot
other_than gates = other_slot (current gates)

abbrev pub gated_by : Gates → Bool
gated_by gates = gates.zero || gates.one

abbrev pub both_gated : Gates → Bool
both_gated gates = gates.zero && gates.one

-- the slot holds the manifest of these paths
abbrev pub IsListedAt : FilesData → Slot → List (List ℕ) → Type 0
IsListedAt m s paths = (map.get m (manifest_place s) ≡ Some (manifest_text paths)) × IsManifest (manifest_text paths) paths

-- the slot holds no manifest
abbrev pub HoldsNone : FilesData → Slot → Type 0
HoldsNone m s = (paths : List (List ℕ)) → map.get m (manifest_place s) ≡ Some (manifest_text paths) → IsManifest (manifest_text paths) paths → ⊥

-- the text is the manifest of these paths, which are all that stands under `out/` and maybe more
pub record Lists (m : FilesData) (text : List ℕ) (paths : List (List ℕ)) : Type 0 where
  pub spelled : text ≡ manifest_text paths
  pub lists : ListsAll m paths

-- .. and the slot's gate does not stand, and the other one as said
pub record IsReady (m : FilesData) (s : Slot) (text : List ℕ) (stands : Bool) (paths : List (List ℕ)) : Type 0 where
  pub listed : Lists m text paths
  pub free : has_gate m s ≡ false
  pub other : has_gate m (other_slot s) ≡ stands

-- the slot alone is gated, and lists these paths, which are all that stands under `out/` and maybe more
pub record Stands (m : FilesData) (s : Slot) (paths : List (List ℕ)) : Type 0 where
  pub text : map.get m (manifest_place s) ≡ Some (manifest_text paths)
  pub lists : ListsAll m paths
  pub gate : has_gate m s ≡ true
  pub other : has_gate m (other_slot s) ≡ false
  pub known : (place : List ℕ) → has m place ≡ true → IsStorePlace place

-- under `out/` stands what stood there
abbrev pub SameOutputs : FilesData → FilesData → Type 0
SameOutputs m n = (path : List ℕ) → map.get n (out_place path) ≡ map.get m (out_place path)

-- each place is that of one of these outputs, or holds what it held
abbrev pub IsWithin : (List ℕ → Bool) → FilesData → FilesData → Type 0
IsWithin among m n = (place : List ℕ) → ((path : List ℕ) × (among path ≡ true) × (place ≡ out_place path)) ⊎ (map.get n place ≡ map.get m place)

-- the slot's gate may be gone, and all else stays
pub record IsDropped (s : Slot) (m n : FilesData) : Type 0 where
  pub elsewhere : Elsewhere (gate_place s) m n
  pub less : has_gate n s ≡ true → has_gate m s ≡ true

-- the outputs at these paths are those that are wanted
abbrev pub IsBrought : (List ℕ → Bool) → FilesData → FilesData → Type 0
IsBrought among outputs n = (path : List ℕ) → among path ≡ true → map.get n (out_place path) ≡ map.get outputs path

-- the flags are those of the gates, and the paths are output paths: those of the outputs, those that the current
-- manifest lists, and no others
pub record IsAnnounced {V : Type 0} (m : FilesData) (gates : Gates) (paths : map.FinMap text_cmp V) (outputs : FilesData) : Type 0 where
  pub flags : AreGates gates m
  pub fits : (path : List ℕ) → map.contains_key paths path ≡ true → IsOutputPath path
  pub standing : (path : List ℕ) → has_output m path ≡ true → map.contains_key paths path ≡ true
  pub wanted : (path : List ℕ) → map.contains_key outputs path ≡ true → map.contains_key paths path ≡ true
