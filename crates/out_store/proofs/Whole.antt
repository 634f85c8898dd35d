-- Reading what counts, and then bringing a store to outputs.
use Rattle.std.proofs.Common.{◌≡◌, inl, inr, ◌∙◌, ◌||◌, ℕ, Bool, true, false, List, [], map as map_list, Option, Some, None, Result, Ok, Err, refl, sym, ap, subst}
use Rattle.std.specs.FinMap as map
use Rattle.std.specs.Option.{IfSome}
use Rattle.std.specs.Prelude.{IsErr, IsErrAnd, IsErrOf}
use Rattle.std.specs.String.{string_bytes}
use Rattle.std.specs.declared.string.String.{String}
use Rattle.tk_io.specs.FilesData.{FilesData}
use Rattle.tk_io.specs.Order.{text_cmp}
use Rattle.out_store.specs.Effects.{Told, stop_of}
use Rattle.out_store.specs.Kept.{IsBadSlot, IsUnder, Kept}
use Rattle.out_store.specs.Manifest.{is_listed}
use Rattle.out_store.specs.Paths.{IsOutputPath}
use Rattle.out_store.specs.inner.Passing.{AreGates, HoldsNone, IsAnnounced, IsListedAt, current, gated_by}
use Rattle.out_store.specs.declared.gates.Gates.{Gates}
use Rattle.out_store.specs.declared.slot.Slot.{Slot}
use Rattle.out_store.specs.declared.stop.StoreStop.{StoreStop}
use Rattle.out_store.specs.declared.stop.StoreStop.TheVariants as call
use Rattle.out_store.specs.declared.stop.SyncStop.{SyncStop}
use Rattle.out_store.specs.declared.stop.SyncStop.TheVariants as sync
use Rattle.out_store.proofs.Places.{true_or_false}
use Rattle.out_store.proofs.Synced.{announced_gated, announced_new, bad_current, no_bad, no_bad_slot}
use Rattle.out_store.proofs.Told.{if_as, if_both, told_given, told_same}

-- what was read before anything is changed
pub record IsRead (gates : Gates) (listed : List (List ℕ)) (m : FilesData) : Type 0 where
  pub are : AreGates gates m
  pub ungated : gated_by gates ≡ false → listed ≡ []
  pub gated : gated_by gates ≡ true → IsListedAt m (current gates) listed

-- of a map that is told, from what is said where one is
under_premise : (a : Option FilesData) (P : Type 0) (Q : FilesData → Type 0) (b : Bool) → (b ≡ true → IfSome a Q) → IfSome a (λ m. b ≡ true → Q m)
under_premise None P Q b h = tt
under_premise (Some m) P Q b h = h

pub read_all : (a : Option FilesData) (gates : Gates) (listed : List (List ℕ)) → IfSome a (AreGates gates) → (gated_by gates ≡ false → listed ≡ []) → (gated_by gates ≡ true → IfSome a (λ m. IsListedAt m (current gates) listed)) → IfSome a (IsRead gates listed)
read_all a gates listed are ungated gated =
    if_both (IsRead gates listed) a are (under_premise a (Unit {0}) (λ m. IsListedAt m (current gates) listed) (gated_by gates) gated) (λ m p q. record { are = p; ungated = ungated; gated = q })

module _ {V : Type 0} (gates : Gates) (listed : List (List ℕ)) (paths : map.FinMap text_cmp V) (outputs : FilesData)
    (all : (q : List ℕ) → map.contains_key paths q ≡ (is_listed listed q || map.contains_key outputs q))
    (fit : (q : List ℕ) → map.contains_key outputs q ≡ true → IsOutputPath q) where
  announced : (m : FilesData) → IsRead gates listed m → Kept m → IsAnnounced m gates paths outputs
  announced m read kept =
      elim (true_or_false (gated_by gates)) [
        | inl some ↦ announced_gated gates m read.are listed paths outputs all fit some (read.gated some) kept
        | inr none ↦ announced_new gates m read.are listed paths outputs all fit none (read.ungated none) kept
      ]

  module _ (a b : Option FilesData) (read : IfSome a (IsRead gates listed)) where
    abbrev KeptAll : FilesData → FilesData → Type 0
    KeptAll m n = Kept m → Kept n

    abbrev ExactAll : FilesData → FilesData → Type 0
    ExactAll m n = Kept m → IsUnder n outputs

    pub synced_kept : Told a b (λ m n. IsAnnounced m gates paths outputs → Kept m → Kept n) → Told a b (λ m n. Kept m → Kept n)
    synced_kept h = told_given KeptAll a b read h (λ m n r f kept. f (announced m r kept) kept)

    pub synced_exact : Told a b (λ m n. IsAnnounced m gates paths outputs → Kept m → IsUnder n outputs) → Told a b (λ m n. Kept m → IsUnder n outputs)
    synced_exact h = told_given ExactAll a b read h (λ m n r f kept. f (announced m r kept) kept)

-- before anything is changed
pub kept_same : (a b : Option FilesData) → b ≡ a → Told a b (λ m n. Kept m → Kept n)
kept_same a b e = told_same (λ m n. Kept m → Kept n) a b e (λ m kept. kept)

-- where the manifest was read, there is no bad slot
pub unblocked : (P : Type 0) (a : Option FilesData) (gates : Gates) (listed : List (List ℕ)) → IfSome a (IsRead gates listed) → IfSome a (λ m. (s : Slot) → IsBadSlot m s → P)
unblocked P a gates listed read = if_as (λ m. (s : Slot) → IsBadSlot m s → P) a read (λ m r s bad. absurd (no_bad gates m r.are s bad (λ some. (listed, r.gated some))))

pub blocked_err : {T E : Type 0} (r : Result T E) (e : E) → IsErrAnd r (λ x. x ≡ e) → (a : Option FilesData) → IfSome a (λ m. (s : Slot) → IsBadSlot m s → IsErr r)
blocked_err (Ok x) e h a = absurd h
blocked_err (Err x) e h None = tt
blocked_err (Err x) e h (Some m) = λ s bad. refl

err_is : {T : Type 0} (x y : SyncStop) → IsErrOf {T = T} (Err x) y → x ≡ y
err_is x y e = cc

-- no refused call tells a bad slot
pub no_bad_stop : {T : Type 0} {P : Type 0} (r : Result T SyncStop) (e : StoreStop) (s : Slot) → IsErrAnd r (λ x. x ≡ stop_of e) → r ≡ Err (sync.BadManifest s) → P
no_bad_stop (Ok x) e s h is = absurd h
no_bad_stop {T} (Err x) call.Failed s h is = let k : sync.StoreFault ≡ sync.BadManifest s = sym h ∙ err_is {T = T} x (sync.BadManifest s) is in cc
no_bad_stop {T} (Err x) call.NoMemory s h is = let k : sync.NoMemory ≡ sync.BadManifest s = sym h ∙ err_is {T = T} x (sync.BadManifest s) is in cc

-- what a manifest that is not read tells
pub bad_told : (a : Option FilesData) (gates : Gates) (s : Slot) → IfSome a (AreGates gates) → gated_by gates ≡ true → s ≡ current gates → IfSome a (λ m. HoldsNone m (current gates)) → IfSome a (λ m. IsBadSlot m s × (Kept m → ⊥))
bad_told a gates s are some here none =
    if_both (λ m. IsBadSlot m s × (Kept m → ⊥)) a are none (λ m p q.
    let bad = subst (λ (x : Slot). IsBadSlot m x) (sym here) (bad_current gates m p some q) in
    (bad, λ kept. no_bad_slot m s kept bad))

pub from_start : (R : FilesData → FilesData → Type 0) (a b d : Option FilesData) → b ≡ a → Told b d R → Told a d R
from_start R a b d e h = subst (λ (x : Option FilesData). Told x d R) e h

pub if_start : (P : FilesData → Type 0) (a b : Option FilesData) → b ≡ a → IfSome b P → IfSome a P
if_start P a b e h = subst (λ (x : Option FilesData). IfSome x P) e h

-- the paths of a list by what was lent of it
pub all_by : {Z V : Type 0} (lent items : List (String Z)) → lent ≡ items → (paths : map.FinMap text_cmp V) (outputs : FilesData)
    → ((q : List ℕ) → map.contains_key paths q ≡ (is_listed (map_list string_bytes lent) q || map.contains_key outputs q))
    → (q : List ℕ) → map.contains_key paths q ≡ (is_listed (map_list string_bytes items) q || map.contains_key outputs q)
all_by lent items e paths outputs h q = h q ∙ ap (λ l. is_listed (map_list string_bytes l) q || map.contains_key outputs q) e

pub same_stop : {T : Type 0} (U : Type 0) (r : Result T SyncStop) (e : SyncStop) (s : Slot) → IsErrAnd r (λ x. x ≡ e) → r ≡ Err (sync.BadManifest s) → IsErrOf {T = U} (Err e) (sync.BadManifest s)
same_stop U (Ok x) e s h is = absurd h
same_stop {T} U (Err x) e s h is = ap Err (sym h ∙ err_is {T = T} x (sync.BadManifest s) is)
