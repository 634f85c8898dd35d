-- Bringing a store to outputs: what the gates say, and that what is kept is announced.
use Rattle.std.proofs.Common.{◌≡◌, ◌⊎◌, inl, inr, ℕ, Bool, true, false, ◌&&◌, ◌||◌, List, [], refl, sym, ap, subst, ◌∙◌}
use Rattle.std.proofs.lemmas.Option.{same_Some}
use Rattle.std.specs.FinMap as map
use Rattle.std.specs.List.{AllByRecursion}
use Rattle.std.specs.Prelude.{if◌then◌else◌}
use Rattle.tk_io.specs.FilesData.{FilesData}
use Rattle.tk_io.specs.Order.{text_cmp}
use Rattle.out_store.specs.Kept.{IsBadSlot, IsCurrent, IsGated, IsNew, IsUnder, Kept, has_gate, has_output}
use Rattle.out_store.specs.Manifest.{IsManifest, is_listed, manifest_text}
use Rattle.out_store.specs.Paths.{IsOutputPath, gate_place, manifest_place, other_slot}
use Rattle.out_store.specs.inner.Passing.{AreGates, HoldsNone, IsAnnounced, IsBrought, IsDropped, IsListedAt, IsReady, IsWithin, Lists, Stands, both_gated, current, gated_by, other_than}
use Rattle.out_store.specs.declared.gates.Gates.{Gates}
use Rattle.out_store.specs.declared.slot.Slot.{Slot}
use Rattle.out_store.specs.declared.slot.Slot.TheVariants.{Zero, One}
use Rattle.out_store.proofs.Keys.{keys_manifest, listed_fits, listed_key, or_left, or_right, or_split}
use Rattle.out_store.proofs.Lines.{one_manifest}
use Rattle.out_store.proofs.Passed.{all_brought, stands_within, under_lists}
use Rattle.out_store.proofs.Places.{no_both, other_gate, other_twice, still, true_or_false}
use Rattle.out_store.proofs.Steps.{behind, gate_absent, gate_dropped, lists_still, outputs_by_gate}

-- The gates.

next_by : (z o : Bool) (m : FilesData) → z ≡ has_gate m Zero → o ≡ has_gate m One → has_gate m (other_slot (if z then Zero else One)) ≡ (z && o)
next_by true o m p q = sym q
next_by false o m p q = sym p

current_by : (z o : Bool) (m : FilesData) → z ≡ has_gate m Zero → o ≡ has_gate m One → has_gate m (if z then Zero else One) ≡ (z || o)
current_by true o m p q = sym p
current_by false o m p q = sym q

both_any : (z o : Bool) → (z && o) ≡ true → (z || o) ≡ true
both_any true o e = refl
both_any false o e = cc

lowest_by : (z o : Bool) (m : FilesData) → z ≡ has_gate m Zero → o ≡ has_gate m One → (z || o) ≡ true → IsCurrent m (if z then Zero else One)
lowest_by true o m p q e = sym p
lowest_by false o m p q e = (sym p, sym q ∙ e)

same_current : (z o : Bool) (m : FilesData) → z ≡ has_gate m Zero → o ≡ has_gate m One → (s : Slot) → IsCurrent m s → s ≡ (if z then Zero else One)
same_current true o m p q Zero is = refl
same_current true o m p q One is = absurd (no_both (has_gate m Zero) (sym p) is.0)
same_current false o m p q Zero is = absurd (no_both (has_gate m Zero) is (sym p))
same_current false o m p q One is = refl

any_current : (z o : Bool) (m : FilesData) → z ≡ has_gate m Zero → o ≡ has_gate m One → (s : Slot) → IsCurrent m s → (z || o) ≡ true
any_current true o m p q s is = refl
any_current false o m p q Zero is = absurd (no_both (has_gate m Zero) is (sym p))
any_current false o m p q One is = q ∙ is.1

no_gate : (z o : Bool) (m : FilesData) → z ≡ has_gate m Zero → o ≡ has_gate m One → (z || o) ≡ false → (s : Slot) → has_gate m s ≡ false
no_gate true o m p q e s = cc
no_gate false o m p q e Zero = sym p
no_gate false o m p q e One = sym q ∙ e

module _ (gates : Gates) (m : FilesData) (are : AreGates gates m) where
  pub next_gate : has_gate m (other_than gates) ≡ both_gated gates
  next_gate = next_by gates.zero gates.one m are.zero are.one

  pub current_gate : has_gate m (current gates) ≡ gated_by gates
  current_gate = current_by gates.zero gates.one m are.zero are.one

  pub lowest_gate : gated_by gates ≡ true → IsCurrent m (current gates)
  lowest_gate e = lowest_by gates.zero gates.one m are.zero are.one e

  -- The next slot made free.
  module _ (k : FilesData) (dropped : IsDropped (other_than gates) m k) where
    pub freed_kept : Kept m → Kept k
    freed_kept kept =
        elim (true_or_false (both_gated gates)) [
          | inl both ↦ gate_dropped (current gates) m k dropped (current_gate ∙ both_any gates.zero gates.one both) kept
          | inr one ↦ gate_absent (other_than gates) m k dropped (next_gate ∙ one) kept
        ]

    pub freed_ready : (text : List ℕ) (paths : List (List ℕ)) → (has_gate m (other_than gates) ≡ both_gated gates → has_gate k (other_than gates) ≡ false) → Lists m text paths → IsReady k (other_than gates) text (gated_by gates) paths
    freed_ready text paths gone lists =
        let back = other_twice (current gates) in
        record {
          listed = record { spelled = lists.spelled; lists = lists_still m k paths (outputs_by_gate (other_than gates) m k dropped.elsewhere) lists.lists };
          free = gone next_gate;
          other = still (gate_place (other_than gates)) (gate_place (other_slot (other_than gates))) m k dropped.elsewhere (other_gate (other_than gates)) ∙ (ap (has_gate m) back ∙ current_gate);
        }

  -- What stands is listed, where the store is kept.
  standing_new : gated_by gates ≡ false → IsNew m ⊎ IsGated m → (path : List ℕ) → has_output m path ≡ false
  standing_new none (inl new) path = new.none path
  standing_new none (inr gated) path = absurd (no_both (has_gate m gated.some.0) gated.some.1 (no_gate gates.zero gates.one m are.zero are.one none gated.some.0))

  standing_listed : Kept m → gated_by gates ≡ true → (paths : List (List ℕ)) → IsListedAt m (current gates) paths → (path : List ℕ) → has_output m path ≡ true → is_listed paths path ≡ true
  standing_listed kept some paths listed path held =
      let holds = behind m kept (current gates) (current_gate ∙ some) in
      let same_text : manifest_text holds.paths ≡ manifest_text paths = same_Some (manifest_text holds.paths) (manifest_text paths) (sym holds.text ∙ listed.0) in
      let same = one_manifest (manifest_text paths) holds.paths paths (subst (λ (t : List ℕ). IsManifest t holds.paths) same_text holds.lists.fits) listed.1 in
      subst (λ (ps : List (List ℕ)). is_listed ps path ≡ true) same (holds.lists.all path held)

  module _ {V : Type 0} (listed : List (List ℕ)) (paths : map.FinMap text_cmp V) (outputs : FilesData)
      (all : (q : List ℕ) → map.contains_key paths q ≡ (is_listed listed q || map.contains_key outputs q))
      (fit : (q : List ℕ) → map.contains_key outputs q ≡ true → IsOutputPath q) where
    wanted_too : (path : List ℕ) → map.contains_key outputs path ≡ true → map.contains_key paths path ≡ true
    wanted_too path here = all path ∙ or_right (is_listed listed path) (map.contains_key outputs path) here

    pub announced_new : gated_by gates ≡ false → listed ≡ [] → Kept m → IsAnnounced m gates paths outputs
    announced_new none empty kept = record {
      flags = are;
      fits = λ q here. fit q (sym (ap (λ (ps : List (List ℕ)). is_listed ps q || map.contains_key outputs q) empty) ∙ (sym (all q) ∙ here));
      standing = λ path held. absurd (no_both (has_output m path) held (standing_new none kept.state path));
      wanted = wanted_too;
    }

    fits_by : AllByRecursion IsOutputPath listed → (q : List ℕ) → (is_listed listed q ≡ true) ⊎ (map.contains_key outputs q ≡ true) → IsOutputPath q
    fits_by each q (inl here) = listed_fits IsOutputPath listed q each here
    fits_by each q (inr here) = fit q here

    pub announced_gated : gated_by gates ≡ true → IsListedAt m (current gates) listed → Kept m → IsAnnounced m gates paths outputs
    announced_gated some at kept = record {
      flags = are;
      fits = λ q here. fits_by at.1.each q (or_split (is_listed listed q) (map.contains_key outputs q) (sym (all q) ∙ here));
      standing = λ path held. all path ∙ or_left (is_listed listed path) (map.contains_key outputs path) (standing_listed kept some listed at path held);
      wanted = wanted_too;
    }

  pub bad_current : gated_by gates ≡ true → HoldsNone m (current gates) → IsBadSlot m (current gates)
  bad_current some none = record { current = lowest_gate some; unread = none }

  -- a slot that is read is not bad
  pub no_bad : (s : Slot) → IsBadSlot m s → (gated_by gates ≡ true → (paths : List (List ℕ)) × IsListedAt m (current gates) paths) → ⊥
  no_bad s bad listed =
      let (paths, at) = listed (any_current gates.zero gates.one m are.zero are.one s bad.current) in
      let here = same_current gates.zero gates.one m are.zero are.one s bad.current in
      bad.unread paths (ap (λ (x : Slot). map.get m (manifest_place x)) here ∙ at.0) at.1

gate_of : (m : FilesData) (s : Slot) → IsCurrent m s → has_gate m s ≡ true
gate_of m Zero is = is
gate_of m One is = is.1

-- a store that is kept has no bad slot
pub no_bad_slot : (m : FilesData) (s : Slot) → Kept m → IsBadSlot m s → ⊥
no_bad_slot m s kept bad =
    let holds = behind m kept s (gate_of m s bad.current) in
    bad.unread holds.paths holds.text holds.lists.fits

-- The announced paths as the manifest that is written first.
pub announced_lists : {V : Type 0} (m : FilesData) (gates : Gates) (paths : map.FinMap text_cmp V) (outputs : FilesData) (text : List ℕ) → IsAnnounced m gates paths outputs → text ≡ manifest_text (map.keys paths) → Lists m text (map.keys paths)
announced_lists m gates paths outputs text announced e = record {
  spelled = e;
  lists = record {
    fits = keys_manifest paths announced.fits;
    all = λ path held. sym (listed_key paths path) ∙ announced.standing path held;
  };
}

-- .. and the outputs as the one that is written last, after all were brought
module _ {V : Type 0} (m k n : FilesData) (gates : Gates) (paths : map.FinMap text_cmp V) (outputs : FilesData) (announced : IsAnnounced m gates paths outputs) (stands : Stands k (other_than gates) (map.keys paths)) (within : IsWithin (map.contains_key paths) k n) where
  pub brought_stands : Stands n (other_than gates) (map.keys paths)
  brought_stands = stands_within (other_than gates) (map.keys paths) (map.contains_key paths) k n stands within (λ path here. sym (listed_key paths path) ∙ here)

  module _ (brought : IsBrought (map.contains_key paths) outputs n) where
    pub brought_under : IsUnder n outputs
    brought_under = all_brought (map.keys paths) (map.contains_key paths) outputs n brought_stands.lists (λ path here. listed_key paths path ∙ here) announced.wanted brought

    pub brought_ready : (text : List ℕ) → text ≡ manifest_text (map.keys outputs) → IsReady n (current gates) text true (map.keys outputs)
    brought_ready text e =
        let back = other_twice (current gates) in
        record {
          listed = record {
            spelled = e;
            lists = record {
              fits = keys_manifest outputs (λ q here. announced.fits q (announced.wanted q here));
              all = λ path held. sym (listed_key outputs path) ∙ under_lists n outputs path brought_under held;
            };
          };
          free = subst (λ (s : Slot). has_gate n s ≡ false) back brought_stands.other;
          other = brought_stands.gate;
        }
