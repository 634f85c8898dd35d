-- What the calls on a store are told to have done at the gates.
use Rattle.std.proofs.Common.{◌≡◌, ◌∙◌, ℕ, Bool, false, List, Option, Result, Ok, Err, is_some, refl, ap, subst}
use Rattle.std.specs.FinMap as map
use Rattle.std.specs.Prelude.{OnErr, OnOk}
use Rattle.tk_io.specs.FilesData.{FilesData}
use Rattle.out_store.specs.Effects.{IsTakenOrKept, Told}
use Rattle.out_store.specs.Kept.{has_gate}
use Rattle.out_store.specs.Paths.{gate_place}
use Rattle.out_store.specs.declared.slot.Slot.{Slot}
use Rattle.out_store.specs.inner.Passing.{IsDropped}
use Rattle.out_store.proofs.Places.{kept_elsewhere, kept_less, no_both, taken_elsewhere, taken_there}
use Rattle.out_store.proofs.Told.{told_as, told_same}

module _ (s : Slot) (p : List ℕ) (at : p ≡ gate_place s) (a b : Option FilesData) where
  taken_dropped : (m n : FilesData) → n ≡ map.remove m p → IsDropped s m n
  taken_dropped m n e =
      let there = e ∙ ap (λ (z : List ℕ). map.remove m z) at in
      record {
        elsewhere = taken_elsewhere m n (gate_place s) there;
        less = λ held. absurd (no_both (has_gate n s) held (ap is_some (taken_there m n (gate_place s) there)));
      }

  kept_dropped : (m n : FilesData) → IsTakenOrKept p m n → IsDropped s m n
  kept_dropped m n h =
      let there = subst (λ (z : List ℕ). IsTakenOrKept z m n) at h in
      record { elsewhere = kept_elsewhere m n (gate_place s) there; less = kept_less m n (gate_place s) there }

  pub gate_taken : {T E : Type 0} (r : Result T E) → OnOk r (Told a b (λ m n. n ≡ map.remove m p)) → OnErr r (Told a b (IsTakenOrKept p)) → Told a b (IsDropped s)
  gate_taken (Ok x) removed kept = told_as (IsDropped s) a b removed taken_dropped
  gate_taken (Err e) removed kept = told_as (IsDropped s) a b kept kept_dropped

  module _ (stands : Bool) where
    abbrev Gone : FilesData → FilesData → Type 0
    Gone m n = has_gate m s ≡ stands → has_gate n s ≡ false

    pub gate_gone : {T E : Type 0} (r : Result T E) → OnOk r (Told a b (λ m n. n ≡ map.remove m p)) → OnOk r (Told a b (λ m n. has_gate m s ≡ stands → has_gate n s ≡ false))
    gate_gone (Ok x) removed = told_as Gone a b removed (λ m n e _. ap is_some (taken_there m n (gate_place s) (e ∙ ap (λ (z : List ℕ). map.remove m z) at)))
    gate_gone (Err e) removed = tt

pub gate_untouched : (s : Slot) (a : Option FilesData) → Told a a (IsDropped s)
gate_untouched s a = told_same (IsDropped s) a a refl (λ m. record { elsewhere = λ q apart. refl; less = λ held. held })

pub untaken : (s : Slot) (stands : Bool) → stands ≡ false → (a : Option FilesData) → Told a a (λ m n. has_gate m s ≡ stands → has_gate n s ≡ false)
untaken s stands off a = told_same (λ m n. has_gate m s ≡ stands → has_gate n s ≡ false) a a refl (λ m e. e ∙ off)
