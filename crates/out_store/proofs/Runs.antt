-- What is told of a store over the calls of each step.
use Rattle.std.proofs.Common.{◌≡◌, ℕ, Bool, true, false, List, [], Option, Result, Ok, Err, sym, ap, subst, ◌∙◌}
use Rattle.std.specs.FinMap as map
use Rattle.std.specs.Prelude.{IsErrAnd, OnErr, OnOk}
use Rattle.tk_io.specs.FilesData.{FilesData}
use Rattle.tk_io.specs.Order.{text_cmp}
use Rattle.out_store.specs.Effects.{AreCaused, Elsewhere, FaultsBy, IsCaused, Told, stop_of}
use Rattle.out_store.specs.Kept.{IsUnder, Kept, has_gate}
use Rattle.out_store.specs.Manifest.{manifest_text}
use Rattle.out_store.specs.Paths.{gate_place, manifest_place, other_slot}
use Rattle.out_store.specs.inner.Passing.{AreGates, IsAnnounced, IsBrought, IsDropped, IsReady, IsWithin, Lists, SameOutputs, Stands, both_gated, current, gated_by, other_than}
use Rattle.out_store.specs.declared.gates.Gates.{Gates}
use Rattle.out_store.specs.declared.slot.Slot.{Slot}
use Rattle.out_store.specs.declared.stop.StoreStop.{StoreStop}
use Rattle.out_store.specs.declared.stop.StoreStop.TheVariants as call
use Rattle.out_store.specs.declared.stop.SyncStop.{SyncStop}
use Rattle.out_store.proofs.Passed.{gate_kept, made_other, passed_kept, passed_same, passed_stands, under_still}
use Rattle.out_store.proofs.Steps.{manifest_written, stands_kept}
use Rattle.out_store.proofs.Synced.{announced_lists, brought_ready, brought_stands, brought_under, freed_kept, freed_ready}
use Rattle.out_store.proofs.Told.{told_as, told_both, told_then}

-- Causes.

pub caused_err : {T : Type 0} (U : Type 0) (r : Result T StoreStop) (e : StoreStop) (before now : ℕ) → IsErrAnd r (λ x. x ≡ e) → IsCaused {T = U} before now (Err e) → IsCaused before now r
caused_err U (Ok x) e before now h caused = absurd h
caused_err {T} U (Err x) call.Failed before now h caused = subst (λ (s : StoreStop). IsCaused {T = T} before now (Err s)) (sym h) caused
caused_err {T} U (Err x) call.NoMemory before now h caused = subst (λ (s : StoreStop). IsCaused {T = T} before now (Err s)) (sym h) caused

-- .. of another kind of call
pub caused_same : (T U : Type 0) (e : StoreStop) (before now : ℕ) → IsCaused {T = T} before now (Err e) → IsCaused {T = U} before now (Err e)
caused_same T U call.Failed before now caused = caused
caused_same T U call.NoMemory before now caused = caused

-- .. after calls that were answered
pub caused_later : {T : Type 0} (r : Result T StoreStop) (before between now : ℕ) → between ≡ before → IsCaused between now r → IsCaused before now r
caused_later r before between now e caused = subst (λ (n : ℕ). IsCaused n now r) e caused

pub stop_caused : {T : Type 0} (U : Type 0) (r : Result T SyncStop) (e : StoreStop) (before now : ℕ) → IsErrAnd r (λ x. x ≡ stop_of e) → IsCaused {T = U} before now (Err e) → AreCaused before now r
stop_caused U (Ok x) e before now h caused = absurd h
stop_caused U (Err x) call.Failed before now h caused = subst (λ (s : SyncStop). FaultsBy s before now) (sym h) caused
stop_caused U (Err x) call.NoMemory before now h caused = subst (λ (s : SyncStop). FaultsBy s before now) (sym h) caused

pub are_caused_err : {T : Type 0} (r : Result T SyncStop) (e : SyncStop) (before now : ℕ) → IsErrAnd r (λ x. x ≡ e) → FaultsBy e before now → AreCaused before now r
are_caused_err (Ok x) e before now h caused = absurd h
are_caused_err (Err x) e before now h caused = subst (λ (s : SyncStop). FaultsBy s before now) (sym h) caused

pub are_caused_later : {T : Type 0} (r : Result T SyncStop) (before between now : ℕ) → between ≡ before → AreCaused between now r → AreCaused before now r
are_caused_later r before between now e caused = subst (λ (n : ℕ). AreCaused n now r) e caused

-- By an answer.

pub on_ok : {T E P : Type 0} (r : Result T E) → P → OnOk r P
on_ok (Ok x) p = p
on_ok (Err e) p = tt

pub on_ok_then : {T E P Q : Type 0} (r : Result T E) → (P → Q) → OnOk r P → OnOk r Q
on_ok_then (Ok x) f p = f p
on_ok_then (Err e) f p = tt

pub told_either : {T E P Q R : Type 0} (r : Result T E) → (P → R) → (Q → R) → OnOk r P → OnErr r Q → R
told_either (Ok x) f g p q = f p
told_either (Err e) f g p q = g q

-- Passing the gate.

module _ (x : Slot) (text : List ℕ) (stands : Bool) where
  abbrev pub KeptOver : FilesData → FilesData → Type 0
  KeptOver m n = (paths : List (List ℕ)) → IsReady m x text stands paths → Kept m → Kept n

  abbrev pub StandsOver : FilesData → FilesData → Type 0
  StandsOver m n = (paths : List (List ℕ)) → IsReady m x text stands paths → Kept m → Stands n x paths

  module _ (p : List ℕ) (at : p ≡ manifest_place x) (a b : Option FilesData) where
    pub after_torn : Told a b (Elsewhere p) → Told a b KeptOver
    after_torn h = told_as KeptOver a b h (λ m n elsewhere paths ready kept. manifest_written x m n (subst (λ (q : List ℕ). Elsewhere q m n) at elsewhere) ready.free kept)

    module _ (q : List ℕ) (gate : q ≡ gate_place x) (d : Option FilesData) (wrote : Told a b (λ m n. n ≡ map.insert m p text)) where
      wrote_there : (m n : FilesData) → n ≡ map.insert m p text → n ≡ map.insert m (manifest_place x) text
      wrote_there m n e = e ∙ ap (λ (z : List ℕ). map.insert m z text) at

      made_there : (m n : FilesData) → n ≡ map.insert m q [] → n ≡ map.insert m (gate_place x) []
      made_there m n e = e ∙ ap (λ (z : List ℕ). map.insert m z []) gate

      pub after_gate_torn : Told b d (Elsewhere q) → Told a d KeptOver
      after_gate_torn h = told_then KeptOver a b d wrote h (λ m k n is elsewhere paths ready kept. gate_kept x text m k (wrote_there m k is) stands paths ready n (subst (λ (z : List ℕ). Elsewhere z k n) gate elsewhere) kept)

      module _ (made : Told b d (λ m n. n ≡ map.insert m q [])) (y : Slot) (other : y ≡ other_slot x) (e : Option FilesData) (dropped : Told d e (IsDropped y)) where
        dropped_there : (m n : FilesData) → IsDropped y m n → IsDropped (other_slot x) m n
        dropped_there m n h = subst (λ (s : Slot). IsDropped s m n) other h

        -- both writes, from the first map to the last
        abbrev Wrote : FilesData → FilesData → Type 0
        Wrote m l = (k : FilesData) × (k ≡ map.insert m (manifest_place x) text) × (l ≡ map.insert k (gate_place x) [])

        both_writes : Told a d Wrote
        both_writes = told_then Wrote a b d wrote made (λ m k l is then. (k, wrote_there m k is, made_there k l then))

        pub after_passed : Told a e KeptOver
        after_passed = told_then KeptOver a d e both_writes dropped (λ m l n w drop paths ready kept. passed_kept x text m w.0 w.1 stands paths ready l w.2 n (dropped_there l n drop) kept)

        pub after_outputs : Told a e SameOutputs
        after_outputs = told_then SameOutputs a d e both_writes dropped (λ m l n w drop. passed_same x text m w.0 l n w.1 w.2 (dropped_there l n drop))

        abbrev Gone : FilesData → FilesData → Type 0
        Gone m n = has_gate m y ≡ stands → has_gate n y ≡ false

        gone_there : (m n : FilesData) → Gone m n → has_gate m (other_slot x) ≡ stands → has_gate n (other_slot x) ≡ false
        gone_there m n gone e = subst (λ (s : Slot). has_gate n s ≡ false) other (gone (subst (λ (s : Slot). has_gate m s ≡ stands) (sym other) e))

        pub after_stands : Told d e (λ m n. has_gate m y ≡ stands → has_gate n y ≡ false) → Told a e StandsOver
        after_stands gone =
            let both = told_both (λ l n. IsDropped y l n × Gone l n) d e dropped gone (λ l n drop g. (drop, g)) in
            told_then StandsOver a d e both_writes both (λ m l n w h paths ready kept. passed_last m l n w h paths ready kept)
          where
            passed_last : (m l n : FilesData) → Wrote m l → IsDropped y l n × Gone l n → (paths : List (List ℕ)) → IsReady m x text stands paths → Kept m → Stands n x paths
            passed_last m l n w h paths ready kept =
                let drop = dropped_there l n h.0 in
                let other_stands = made_other x text m w.0 w.1 stands paths ready l w.2 in
                passed_stands x text m w.0 w.1 stands paths ready l w.2 n drop kept (gone_there l n h.1 other_stands)

-- Announcing.

module _ (gates : Gates) (text : List ℕ) (next : Slot) (there : next ≡ other_than gates) (both any : Bool) (are_both : both ≡ both_gated gates) (is_any : any ≡ gated_by gates) (a b d : Option FilesData) (dropped : Told a b (IsDropped next)) where
  abbrev pub KeptFrom : FilesData → FilesData → Type 0
  KeptFrom m n = (paths : List (List ℕ)) → Lists m text paths → AreGates gates m → Kept m → Kept n

  abbrev pub StandsFrom : FilesData → FilesData → Type 0
  StandsFrom m n = (paths : List (List ℕ)) → Lists m text paths → AreGates gates m → Kept m → Stands n (other_than gates) paths

  dropped_next : (m n : FilesData) → IsDropped next m n → IsDropped (other_than gates) m n
  dropped_next m n h = subst (λ (s : Slot). IsDropped s m n) there h

  pub after_free : Told a b KeptFrom
  after_free = told_as KeptFrom a b dropped (λ m n h paths lists are kept. freed_kept gates m are n (dropped_next m n h) kept)

  module _ (gone : Told a b (λ m n. has_gate m next ≡ both → has_gate n next ≡ false)) where
    abbrev Freed : FilesData → FilesData → Type 0
    Freed m n = IsDropped next m n × (has_gate m next ≡ both → has_gate n next ≡ false)

    freed : Told a b Freed
    freed = told_both Freed a b dropped gone (λ m n h g. (h, g))

    gone_next : (m n : FilesData) → Freed m n → has_gate m (other_than gates) ≡ both_gated gates → has_gate n (other_than gates) ≡ false
    gone_next m n h e = subst (λ (s : Slot). has_gate n s ≡ false) there (h.1 (subst (λ (s : Slot). has_gate m s ≡ both) (sym there) (e ∙ sym are_both)))

    ready_next : (m k : FilesData) → Freed m k → (paths : List (List ℕ)) → Lists m text paths → AreGates gates m → IsReady k next text any paths
    ready_next m k h paths lists are =
        let ready = freed_ready gates m are k (dropped_next m k h.0) text paths (gone_next m k h) lists in
        subst (λ (s : Slot). IsReady k s text any paths) (sym there) (subst (λ (t : Bool). IsReady k (other_than gates) text t paths) (sym is_any) ready)

    pub after_announced : Told b d (KeptOver next text any) → Told a d KeptFrom
    after_announced h = told_then KeptFrom a b d freed h (λ m k n f pass paths lists are kept. pass paths (ready_next m k f paths lists are) (freed_kept gates m are k (dropped_next m k f.0) kept))

    pub after_announced_stands : Told b d (StandsOver next text any) → Told a d StandsFrom
    after_announced_stands h = told_then StandsFrom a b d freed h (λ m k n f pass paths lists are kept. subst (λ (s : Slot). Stands n s paths) there (pass paths (ready_next m k f paths lists are) (freed_kept gates m are k (dropped_next m k f.0) kept)))

-- Replacing.

module _ {V : Type 0} (gates : Gates) (paths : map.FinMap text_cmp V) (outputs : FilesData) (text : List ℕ) (spelled : text ≡ manifest_text (map.keys paths)) (a b : Option FilesData) where
  abbrev pub KeptWhole : FilesData → FilesData → Type 0
  KeptWhole m n = IsAnnounced m gates paths outputs → Kept m → Kept n

  abbrev pub ExactWhole : FilesData → FilesData → Type 0
  ExactWhole m n = IsAnnounced m gates paths outputs → Kept m → IsUnder n outputs

  abbrev KeptText : FilesData → FilesData → Type 0
  KeptText m n = (ps : List (List ℕ)) → Lists m text ps → AreGates gates m → Kept m → Kept n

  abbrev StandsText : FilesData → FilesData → Type 0
  StandsText m n = (ps : List (List ℕ)) → Lists m text ps → AreGates gates m → Kept m → Stands n (other_than gates) ps

  pub replaced_first : Told a b KeptText → Told a b KeptWhole
  replaced_first h = told_as KeptWhole a b h (λ m n f announced kept. f (map.keys paths) (announced_lists m gates paths outputs text announced spelled) announced.flags kept)

  module _ (d : Option FilesData) (stands : Told a b StandsText) (within : Told b d (IsWithin (map.contains_key paths))) where
    stands_keys : (m k : FilesData) → StandsText m k → IsAnnounced m gates paths outputs → Kept m → Stands k (other_than gates) (map.keys paths)
    stands_keys m k f announced kept = f (map.keys paths) (announced_lists m gates paths outputs text announced spelled) announced.flags kept

    pub replaced_within : Told a d KeptWhole
    replaced_within = told_then KeptWhole a b d stands within (λ m k n f w announced kept. stands_kept n (other_than gates) (map.keys paths) (brought_stands m k n gates paths outputs announced (stands_keys m k f announced kept) w))

    module _ (brought : Told b d (λ m n. IsBrought (map.contains_key paths) outputs n)) (last : List ℕ) (ends : last ≡ manifest_text (map.keys outputs)) (slot : Slot) (here : slot ≡ current gates) (e : Option FilesData) where
      -- from the beginning to where all were brought
      abbrev Brought : FilesData → FilesData → Type 0
      Brought m n = IsAnnounced m gates paths outputs → Kept m → Kept n × (IsUnder n outputs × IsReady n slot last true (map.keys outputs))

      brought_all : (m k n : FilesData) → StandsText m k → IsWithin (map.contains_key paths) k n × IsBrought (map.contains_key paths) outputs n → Brought m n
      brought_all m k n f h announced kept =
          let stands_there = stands_keys m k f announced kept in
          let ready = brought_ready m k n gates paths outputs announced stands_there h.0 h.1 last ends in (
            stands_kept n (other_than gates) (map.keys paths) (brought_stands m k n gates paths outputs announced stands_there h.0),
            (brought_under m k n gates paths outputs announced stands_there h.0 h.1, subst (λ (s : Slot). IsReady n s last true (map.keys outputs)) (sym here) ready),
          )

      all_there : Told a d Brought
      all_there =
          let both = told_both (λ k n. IsWithin (map.contains_key paths) k n × IsBrought (map.contains_key paths) outputs n) b d within brought (λ k n w br. (w, br)) in
          told_then Brought a b d stands both brought_all

      pub replaced_last : Told d e (KeptOver slot last true) → Told a e KeptWhole
      replaced_last h = told_then KeptWhole a d e all_there h (λ m k n f pass announced kept. let (still_kept, (under, ready)) = f announced kept in pass (map.keys outputs) ready still_kept)

      pub replaced_exact : Told d e SameOutputs → Told a e ExactWhole
      replaced_exact h = told_then ExactWhole a d e all_there h (λ m k n f same announced kept. let (still_kept, (under, ready)) = f announced kept in under_still k n outputs same under)
