-- Passing from one gate to the other, and bringing the outputs between.
use Rattle.std.proofs.Common.{◌≡◌, ◌≢◌, inl, inr, ℕ, Bool, true, false, List, [], Some, None, is_some, refl, sym, ap, subst, ◌∙◌}
use Rattle.std.specs.FinMap as map
use Rattle.tk_io.specs.FilesData.{FilesData}
use Rattle.out_store.specs.Effects.{Elsewhere}
use Rattle.out_store.specs.Kept.{HoldsManifest, IsUnder, Kept, ListsAll, has, has_gate, has_output}
use Rattle.out_store.specs.Manifest.{is_listed, manifest_text}
use Rattle.out_store.specs.Paths.{IsStorePlace, gate_place, manifest_place, other_slot, out_place}
use Rattle.out_store.specs.inner.Passing.{IsBrought, IsDropped, IsReady, IsWithin, SameOutputs, Stands}
use Rattle.out_store.specs.declared.slot.Slot.{Slot}
use Rattle.out_store.proofs.Places.{other_gate, gate_apart, manifest_apart, output_no_gate, output_no_manifest, same_output, still, no_both, none_of, true_or_false, written_elsewhere, written_there, some_held}
use Rattle.out_store.proofs.Steps.{gate_dropped, gate_made, lists_still, manifest_written, outputs_by_gate, outputs_by_manifest}

pub same_outputs : (m k n : FilesData) → SameOutputs m k → SameOutputs k n → SameOutputs m n
same_outputs m k n first later path = later path ∙ first path

-- The manifest is written: what is kept, and what the gate may be made for.
module _ (x : Slot) (text : List ℕ) (m k : FilesData) (wrote : k ≡ map.insert m (manifest_place x) text) where
  manifest_elsewhere : Elsewhere (manifest_place x) m k
  manifest_elsewhere = written_elsewhere m k (manifest_place x) text wrote

  pub written_outputs : SameOutputs m k
  written_outputs = outputs_by_manifest x m k manifest_elsewhere

  pub written_gate : (s : Slot) → has_gate k s ≡ has_gate m s
  written_gate s = still (manifest_place x) (gate_place s) m k manifest_elsewhere (gate_apart s x)

  module _ (other : Bool) (paths : List (List ℕ)) (ready : IsReady m x text other paths) where
    pub written_holds : HoldsManifest k x
    written_holds = record {
      paths = paths;
      text = written_there m k (manifest_place x) text wrote ∙ ap Some ready.listed.spelled;
      lists = lists_still m k paths written_outputs ready.listed.lists;
    }

    pub written_free : has_gate k x ≡ false
    written_free = written_gate x ∙ ready.free

    pub written_kept : Kept m → Kept k
    written_kept kept = manifest_written x m k manifest_elsewhere ready.free kept

    -- whatever becomes of the gate's write
    pub gate_kept : (l : FilesData) → Elsewhere (gate_place x) k l → Kept m → Kept l
    gate_kept l elsewhere kept = gate_made x k l elsewhere written_holds written_free (written_kept kept)

    -- The gate is made, and the other one may be taken away.
    module _ (l : FilesData) (made : l ≡ map.insert k (gate_place x) []) where
      gate_elsewhere : Elsewhere (gate_place x) k l
      gate_elsewhere = written_elsewhere k l (gate_place x) [] made

      pub made_outputs : SameOutputs m l
      made_outputs = same_outputs m k l written_outputs (outputs_by_gate x k l gate_elsewhere)

      pub made_gate : has_gate l x ≡ true
      made_gate = some_held (map.get l (gate_place x)) [] (written_there k l (gate_place x) [] made)

      pub made_other : has_gate l (other_slot x) ≡ other
      made_other = still (gate_place x) (gate_place (other_slot x)) k l gate_elsewhere (other_gate x) ∙ (written_gate (other_slot x) ∙ ready.other)

      made_text : map.get l (manifest_place x) ≡ Some (manifest_text paths)
      made_text = gate_elsewhere (manifest_place x) (manifest_apart x x) ∙ (written_there m k (manifest_place x) text wrote ∙ ap Some ready.listed.spelled)

      module _ (n : FilesData) (dropped : IsDropped (other_slot x) l n) (kept : Kept m) where
        pub passed_kept : Kept n
        passed_kept = gate_dropped x l n dropped made_gate (gate_kept l gate_elsewhere kept)

        pub passed_outputs : SameOutputs m n
        passed_outputs = same_outputs m l n made_outputs (outputs_by_gate (other_slot x) l n dropped.elsewhere)

        pub passed_stands : has_gate n (other_slot x) ≡ false → Stands n x paths
        passed_stands gone = record {
          text = dropped.elsewhere (manifest_place x) (manifest_apart x (other_slot x)) ∙ made_text;
          lists = lists_still m n paths passed_outputs ready.listed.lists;
          gate = still (gate_place (other_slot x)) (gate_place x) l n dropped.elsewhere (λ e. other_gate x (sym e)) ∙ made_gate;
          other = gone;
          known = passed_kept.known;
        }

-- the outputs need neither the paths nor what is kept
pub passed_same : (x : Slot) (text : List ℕ) (m k l n : FilesData) → k ≡ map.insert m (manifest_place x) text → l ≡ map.insert k (gate_place x) [] → IsDropped (other_slot x) l n → SameOutputs m n
passed_same x text m k l n wrote made dropped =
    same_outputs m k n (outputs_by_manifest x m k (written_elsewhere m k (manifest_place x) text wrote))
    (same_outputs k l n (outputs_by_gate x k l (written_elsewhere k l (gate_place x) [] made)) (outputs_by_gate (other_slot x) l n dropped.elsewhere))

-- Outputs brought within what a gated manifest lists.
module _ (x : Slot) (paths : List (List ℕ)) (among : List ℕ → Bool) (m n : FilesData) (stands : Stands m x paths) (within : IsWithin among m n) (listed : (path : List ℕ) → among path ≡ true → is_listed paths path ≡ true) where
  untouched : (place : List ℕ) → ((path : List ℕ) → place ≢ out_place path) → map.get n place ≡ map.get m place
  untouched place apart =
      elim (within place) [
        | inl (path, here, is) ↦ absurd (apart path is)
        | inr same ↦ same
      ]

  known_within : (place : List ℕ) → has n place ≡ true → IsStorePlace place
  known_within place held =
      elim (within place) [
        | inl (path, here, is) ↦ inl (path, is)
        | inr same ↦ stands.known place (sym (ap is_some same) ∙ held)
      ]

  all_within : (path : List ℕ) → has_output n path ≡ true → is_listed paths path ≡ true
  all_within path held =
      elim (within (out_place path)) [
        | inl (q, here, is) ↦ subst (λ (p : List ℕ). is_listed paths p ≡ true) (sym (same_output path q is)) (listed q here)
        | inr same ↦ stands.lists.all path (sym (ap is_some same) ∙ held)
      ]

  gate_within : (s : Slot) → has_gate n s ≡ has_gate m s
  gate_within s = ap is_some (untouched (gate_place s) (λ path e. output_no_gate path s (sym e)))

  pub stands_within : Stands n x paths
  stands_within = record {
    text = untouched (manifest_place x) (λ path e. output_no_manifest path x (sym e)) ∙ stands.text;
    lists = record { fits = stands.lists.fits; all = all_within };
    gate = gate_within x ∙ stands.gate;
    other = gate_within (other_slot x) ∙ stands.other;
    known = known_within;
  }

-- .. and all of them brought: under `out/` stand the wanted ones
module _ (paths : List (List ℕ)) (among : List ℕ → Bool) (outputs n : FilesData) (lists : ListsAll n paths) (listed : (path : List ℕ) → is_listed paths path ≡ true → among path ≡ true) (wanted : (path : List ℕ) → map.contains_key outputs path ≡ true → among path ≡ true) (brought : IsBrought among outputs n) where
  unwanted : (path : List ℕ) → among path ≡ false → (b : Bool) → map.contains_key outputs path ≡ b → map.get outputs path ≡ None
  unwanted path apart true e = absurd (no_both (among path) (wanted path e) apart)
  unwanted path apart false e = none_of (map.get outputs path) e

  unheld : (path : List ℕ) → among path ≡ false → (b : Bool) → has_output n path ≡ b → map.get n (out_place path) ≡ None
  unheld path apart true e = absurd (no_both (among path) (listed path (lists.all path e)) apart)
  unheld path apart false e = none_of (map.get n (out_place path)) e

  pub all_brought : IsUnder n outputs
  all_brought path =
      elim (true_or_false (among path)) [
        | inl here ↦ sym (brought path here)
        | inr apart ↦ unwanted path apart (map.contains_key outputs path) refl ∙ sym (unheld path apart (has_output n path) refl)
      ]

pub under_still : (m n outputs : FilesData) → SameOutputs m n → IsUnder m outputs → IsUnder n outputs
under_still m n outputs same under path = under path ∙ sym (same path)

pub under_lists : (m outputs : FilesData) (path : List ℕ) → IsUnder m outputs → has_output m path ≡ true → map.contains_key outputs path ≡ true
under_lists m outputs path under held = ap is_some (under path) ∙ held
