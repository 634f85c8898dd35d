-- What is kept over each call on a store.
use Rattle.std.proofs.Common.{◌≡◌, ◌⊎◌, inl, inr, ℕ, true, false, List, is_some, refl, sym, ap, subst, ◌∙◌}
use Rattle.std.specs.FinMap as map
use Rattle.tk_io.specs.FilesData.{FilesData}
use Rattle.out_store.specs.Effects.{Elsewhere}
use Rattle.out_store.specs.Kept.{HoldsManifest, IsGated, IsNew, Kept, ListsAll, has, has_gate, has_output}
use Rattle.out_store.specs.Paths.{IsStorePlace, gate_place, manifest_place, other_slot, out_place}
use Rattle.out_store.specs.inner.Passing.{IsDropped, SameOutputs, Stands}
use Rattle.out_store.specs.declared.slot.Slot.{Slot}
use Rattle.out_store.proofs.Places.{slot_cases, other_gate, other_manifest, gate_apart, manifest_apart, output_no_gate, output_no_manifest, same_or_not, still, no_both, true_or_false}

abbrev IsKnown : FilesData → Type 0
IsKnown m = (place : List ℕ) → has m place ≡ true → IsStorePlace place

known_still : (k : List ℕ) (m n : FilesData) → IsStorePlace k → Elsewhere k m n → IsKnown m → IsKnown n
known_still k m n is elsewhere known place held =
    elim (same_or_not place k) [
      | inl e ↦ subst IsStorePlace (sym e) is
      | inr apart ↦ known place (sym (still k place m n elsewhere apart) ∙ held)
    ]

pub gate_known : (s : Slot) → IsStorePlace (gate_place s)
gate_known s = inr (s, inr refl)

pub manifest_known : (s : Slot) → IsStorePlace (manifest_place s)
manifest_known s = inr (s, inl refl)

-- outputs, and what lists them

pub outputs_by_gate : (s : Slot) (m n : FilesData) → Elsewhere (gate_place s) m n → SameOutputs m n
outputs_by_gate s m n elsewhere path = elsewhere (out_place path) (output_no_gate path s)

pub outputs_by_manifest : (s : Slot) (m n : FilesData) → Elsewhere (manifest_place s) m n → SameOutputs m n
outputs_by_manifest s m n elsewhere path = elsewhere (out_place path) (output_no_manifest path s)

pub lists_still : (m n : FilesData) (paths : List (List ℕ)) → SameOutputs m n → ListsAll m paths → ListsAll n paths
lists_still m n paths same lists = record {
  fits = lists.fits;
  all = λ path held. lists.all path (sym (ap is_some (same path)) ∙ held);
}

manifest_still : (s : Slot) (m n : FilesData) → SameOutputs m n → map.get n (manifest_place s) ≡ map.get m (manifest_place s) → HoldsManifest m s → HoldsManifest n s
manifest_still s m n same at held = record {
  paths = held.paths;
  text = at ∙ held.text;
  lists = lists_still m n held.paths same held.lists;
}

none_still : (m n : FilesData) → SameOutputs m n → ((path : List ℕ) → has_output m path ≡ false) → (path : List ℕ) → has_output n path ≡ false
none_still m n same none path = ap is_some (same path) ∙ none path

-- behind a gate of a store that is kept stands a manifest
behind_by : (m : FilesData) → IsNew m ⊎ IsGated m → (s : Slot) → has_gate m s ≡ true → HoldsManifest m s
behind_by m (inl new) s held = absurd (no_both (has_gate m s) held (new.ungated s))
behind_by m (inr gated) s held = gated.each s held

pub behind : (m : FilesData) → Kept m → (s : Slot) → has_gate m s ≡ true → HoldsManifest m s
behind m kept s held = behind_by m kept.state s held

-- One gate taken away, where the other stands.
pub gate_dropped : (x : Slot) (m n : FilesData) → IsDropped (other_slot x) m n → has_gate m x ≡ true → Kept m → Kept n
gate_dropped x m n dropped gate kept =
    let y = other_slot x in
    let same = outputs_by_gate y m n dropped.elsewhere in
    let stays : has_gate n x ≡ true = still (gate_place y) (gate_place x) m n dropped.elsewhere (λ e. other_gate x (sym e)) ∙ gate in
    let less : (s : Slot) → has_gate n s ≡ true → has_gate m s ≡ true = slot_cases (λ s. has_gate n s ≡ true → has_gate m s ≡ true) x (λ _. gate) dropped.less in
    record {
      known = known_still (gate_place y) m n (gate_known y) dropped.elsewhere kept.known;
      state = inr (record {
        some = (x, stays);
        each = λ s held. manifest_still s m n same (dropped.elsewhere (manifest_place s) (manifest_apart s y)) (behind m kept s (less s held));
      });
    }

-- A gate that does not stand, taken away.
module _ (x : Slot) (m n : FilesData) (dropped : IsDropped x m n) (free : has_gate m x ≡ false) where
  absent_gate : has_gate n x ≡ has_gate m x
  absent_gate =
      elim (true_or_false (has_gate n x)) [
        | inl held ↦ absurd (no_both (has_gate m x) (dropped.less held) free)
        | inr absent ↦ absent ∙ sym free
      ]

  same_gates : (s : Slot) → has_gate n s ≡ has_gate m s
  same_gates = slot_cases (λ s. has_gate n s ≡ has_gate m s) x absent_gate (still (gate_place x) (gate_place (other_slot x)) m n dropped.elsewhere (other_gate x))

  absent_state : IsNew m ⊎ IsGated m → IsNew n ⊎ IsGated n
  absent_state (inl new) =
      inl (record {
        ungated = λ s. same_gates s ∙ new.ungated s;
        none = none_still m n (outputs_by_gate x m n dropped.elsewhere) new.none;
      })
  absent_state (inr gated) =
      inr (record {
        some = (gated.some.0, same_gates gated.some.0 ∙ gated.some.1);
        each = λ s held. manifest_still s m n (outputs_by_gate x m n dropped.elsewhere) (dropped.elsewhere (manifest_place s) (manifest_apart s x)) (gated.each s (sym (same_gates s) ∙ held));
      })

  pub gate_absent : Kept m → Kept n
  gate_absent kept = record {
    known = known_still (gate_place x) m n (gate_known x) dropped.elsewhere kept.known;
    state = absent_state kept.state;
  }

-- A manifest written where its gate does not stand.
written_state : (x : Slot) (m n : FilesData) → Elsewhere (manifest_place x) m n → has_gate m x ≡ false → IsNew m ⊎ IsGated m → IsNew n ⊎ IsGated n
written_state x m n elsewhere free (inl new) =
    inl (record {
      ungated = λ s. still (manifest_place x) (gate_place s) m n elsewhere (gate_apart s x) ∙ new.ungated s;
      none = none_still m n (outputs_by_manifest x m n elsewhere) new.none;
    })
written_state x m n elsewhere free (inr gated) =
    let same = outputs_by_manifest x m n elsewhere in
    let gate : (s : Slot) → has_gate n s ≡ has_gate m s = λ s. still (manifest_place x) (gate_place s) m n elsewhere (gate_apart s x) in
    inr (record {
      some = (gated.some.0, gate gated.some.0 ∙ gated.some.1);
      each = slot_cases (λ s. has_gate n s ≡ true → HoldsManifest n s) x
          (λ held. absurd (no_both (has_gate m x) (sym (gate x) ∙ held) free))
          (λ held. manifest_still (other_slot x) m n same (elsewhere (manifest_place (other_slot x)) (other_manifest x)) (gated.each (other_slot x) (sym (gate (other_slot x)) ∙ held)));
    })

pub manifest_written : (x : Slot) (m n : FilesData) → Elsewhere (manifest_place x) m n → has_gate m x ≡ false → Kept m → Kept n
manifest_written x m n elsewhere free kept = record {
  known = known_still (manifest_place x) m n (manifest_known x) elsewhere kept.known;
  state = written_state x m n elsewhere free kept.state;
}

-- A gate made before a manifest that lists all.
module _ (x : Slot) (m n : FilesData) (elsewhere : Elsewhere (gate_place x) m n) (holds : HoldsManifest m x) (free : has_gate m x ≡ false) where
  other_stays : has_gate n (other_slot x) ≡ has_gate m (other_slot x)
  other_stays = still (gate_place x) (gate_place (other_slot x)) m n elsewhere (other_gate x)

  at_manifest : (s : Slot) → HoldsManifest m s → HoldsManifest n s
  at_manifest s held = manifest_still s m n (outputs_by_gate x m n elsewhere) (elsewhere (manifest_place s) (manifest_apart s x)) held

  each_gate : Kept m → (s : Slot) → has_gate n s ≡ true → HoldsManifest n s
  each_gate kept = slot_cases (λ s. has_gate n s ≡ true → HoldsManifest n s) x (λ _. at_manifest x holds) (λ held. at_manifest (other_slot x) (behind m kept (other_slot x) (sym other_stays ∙ held)))

  ungated_state : Kept m → has_gate n x ≡ false → IsNew m ⊎ IsGated m → IsNew n ⊎ IsGated n
  ungated_state kept absent (inl new) =
      inl (record {
        ungated = slot_cases (λ s. has_gate n s ≡ false) x absent (other_stays ∙ new.ungated (other_slot x));
        none = none_still m n (outputs_by_gate x m n elsewhere) new.none;
      })
  ungated_state kept absent (inr gated) =
      let stays : (s : Slot) → has_gate m s ≡ true → has_gate n s ≡ true = slot_cases (λ s. has_gate m s ≡ true → has_gate n s ≡ true) x (λ held. absurd (no_both (has_gate m x) held free)) (λ held. other_stays ∙ held) in
      inr (record {
        some = (gated.some.0, stays gated.some.0 gated.some.1);
        each = each_gate kept;
      })

  made_state : Kept m → IsNew n ⊎ IsGated n
  made_state kept =
      elim (true_or_false (has_gate n x)) [
        | inl held ↦ inr (record { some = (x, held); each = each_gate kept })
        | inr absent ↦ ungated_state kept absent kept.state
      ]

  pub gate_made : Kept m → Kept n
  gate_made kept = record {
    known = known_still (gate_place x) m n (gate_known x) elsewhere kept.known;
    state = made_state kept;
  }

-- where one slot alone is gated, the store is kept
pub stands_kept : (m : FilesData) (x : Slot) (paths : List (List ℕ)) → Stands m x paths → Kept m
stands_kept m x paths stands = record {
  known = stands.known;
  state = inr (record {
    some = (x, stands.gate);
    each = slot_cases (λ s. has_gate m s ≡ true → HoldsManifest m s) x
        (λ _. record { paths = paths; text = stands.text; lists = stands.lists })
        (λ held. absurd (no_both (has_gate m (other_slot x)) held stands.other));
  });
}
