-- Which places of a store are apart from which, and what stands at a place after a call.
use Rattle.std.proofs.Common.{◌≡◌, ◌≢◌, ◌⊎◌, inl, inr, ℕ, Bool, true, false, cond, List, get_or, drop, Option, Some, None, is_some, Ordering, Less, Equal, Greater, refl, sym, ap, ◌∙◌, arith}
use Rattle.std.specs.FinMap as map
use Rattle.std.specs.Cmp.Lexicographic.{nat_list_cmp_total}
use Rattle.std.specs.Ordering.{is_eq, eq_by_cmp, ordering_reverse}
use Rattle.tk_io.specs.FilesData.{FilesData}
use Rattle.tk_io.specs.Order.{text_cmp}
use Rattle.tk_io.proofs.TextMaps.{text_cmp-IsAntisymmetric}
use Rattle.out_store.specs.Effects.{Elsewhere, IsTakenOrKept}
use Rattle.out_store.specs.Kept.{has}
use Rattle.out_store.specs.Paths.{gate_place, manifest_place, other_slot, out_place}
use Rattle.out_store.specs.declared.slot.Slot.{Slot}
use Rattle.out_store.specs.declared.slot.Slot.TheVariants.{Zero, One}

-- Slots.

pub slot_cases : (P : Slot → Type 0) (x : Slot) → P x → P (other_slot x) → (s : Slot) → P s
slot_cases P Zero here there Zero = here
slot_cases P Zero here there One = there
slot_cases P One here there Zero = there
slot_cases P One here there One = here

pub other_twice : (x : Slot) → other_slot (other_slot x) ≡ x
other_twice Zero = refl
other_twice One = refl

pub other_gate : (x : Slot) → gate_place (other_slot x) ≢ gate_place x
other_gate Zero e = let k : 49 ≡ 48 = ap (λ (l : List ℕ). get_or l 5 0) e in absurd (omega (arith, k))
other_gate One e = let k : 48 ≡ 49 = ap (λ (l : List ℕ). get_or l 5 0) e in absurd (omega (arith, k))

pub other_manifest : (x : Slot) → manifest_place (other_slot x) ≢ manifest_place x
other_manifest Zero e = let k : 49 ≡ 48 = ap (λ (l : List ℕ). get_or l 5 0) e in absurd (omega (arith, k))
other_manifest One e = let k : 48 ≡ 49 = ap (λ (l : List ℕ). get_or l 5 0) e in absurd (omega (arith, k))

-- a gate's seventh byte is a point, and a manifest has none
gate_seventh : (s : Slot) → get_or (gate_place s) 6 0 ≡ 46
gate_seventh Zero = refl
gate_seventh One = refl

manifest_seventh : (s : Slot) → get_or (manifest_place s) 6 0 ≡ 0
manifest_seventh Zero = refl
manifest_seventh One = refl

pub gate_apart : (s t : Slot) → gate_place s ≢ manifest_place t
gate_apart s t e = let k : 46 ≡ 0 = sym (gate_seventh s) ∙ (ap (λ (l : List ℕ). get_or l 6 0) e ∙ manifest_seventh t) in absurd (omega (arith, k))

pub manifest_apart : (s t : Slot) → manifest_place s ≢ gate_place t
manifest_apart s t e = gate_apart t s (sym e)

-- an output's first byte is another than that of gates and manifests
gate_first : (s : Slot) → get_or (gate_place s) 0 0 ≡ 109
gate_first Zero = refl
gate_first One = refl

manifest_first : (s : Slot) → get_or (manifest_place s) 0 0 ≡ 109
manifest_first Zero = refl
manifest_first One = refl

pub output_no_gate : (path : List ℕ) (s : Slot) → out_place path ≢ gate_place s
output_no_gate path s e = let k : 111 ≡ 109 = ap (λ (l : List ℕ). get_or l 0 0) e ∙ gate_first s in absurd (omega (arith, k))

pub output_no_manifest : (path : List ℕ) (s : Slot) → out_place path ≢ manifest_place s
output_no_manifest path s e = let k : 111 ≡ 109 = ap (λ (l : List ℕ). get_or l 0 0) e ∙ manifest_first s in absurd (omega (arith, k))

pub same_output : (p q : List ℕ) → out_place p ≡ out_place q → p ≡ q
same_output p q e = ap (λ (l : List ℕ). drop 4 l) e

-- Keys.

itself : (o : Ordering) → o ≡ ordering_reverse o → o ≡ Equal
itself Less e = cc
itself Equal e = refl
itself Greater e = cc

pub tied : (p : List ℕ) → text_cmp p p ≡ Equal
tied p = itself (text_cmp p p) (nat_list_cmp_total.antisymm p p)

equal : (o : Ordering) → is_eq o ≡ true → o ≡ Equal
equal Less e = cc
equal Equal e = refl
equal Greater e = cc

pub same_key : (a b : List ℕ) → eq_by_cmp text_cmp a b ≡ true → a ≡ b
same_key a b e = text_cmp-IsAntisymmetric a b (equal (text_cmp a b) e)

pub key_itself : (a b : List ℕ) → a ≡ b → eq_by_cmp text_cmp a b ≡ true
key_itself a b e = ap (λ (z : List ℕ). is_eq (text_cmp a z)) (sym e) ∙ ap is_eq (tied a)

by_test : (a b : List ℕ) (t : Bool) → eq_by_cmp text_cmp a b ≡ t → (a ≡ b) ⊎ (a ≢ b)
by_test a b true e = inl (same_key a b e)
by_test a b false e = inr (λ is. let k : true ≡ false = sym (key_itself a b is) ∙ e in cc)

pub same_or_not : (a b : List ℕ) → (a ≡ b) ⊎ (a ≢ b)
same_or_not a b = by_test a b (eq_by_cmp text_cmp a b) refl

apart_test : (a b : List ℕ) (t : Bool) → eq_by_cmp text_cmp a b ≡ t → a ≢ b → eq_by_cmp text_cmp a b ≡ false
apart_test a b true e apart = absurd (apart (same_key a b e))
apart_test a b false e apart = e

pub key_apart : (a b : List ℕ) → a ≢ b → eq_by_cmp text_cmp a b ≡ false
key_apart a b apart = apart_test a b (eq_by_cmp text_cmp a b) refl apart

-- What stands after a call.

pub inserted_there : {X : Type 0} (m : map.FinMap text_cmp X) (k : List ℕ) (v : X) → map.get (map.insert m k v) k ≡ Some v
inserted_there m k v = map.get-insert nat_list_cmp_total m k v k ∙ ap (λ b. cond b (Some v) (map.get m k)) (key_itself k k refl)

pub inserted_elsewhere : {X : Type 0} (m : map.FinMap text_cmp X) (k q : List ℕ) (v : X) → q ≢ k → map.get (map.insert m k v) q ≡ map.get m q
inserted_elsewhere m k q v apart = map.get-insert nat_list_cmp_total m k v q ∙ ap (λ b. cond b (Some v) (map.get m q)) (key_apart q k apart)

pub removed_there : {X : Type 0} (m : map.FinMap text_cmp X) (k : List ℕ) → map.get (map.remove m k) k ≡ None
removed_there m k = map.get-remove nat_list_cmp_total m k k ∙ ap (λ b. cond b None (map.get m k)) (key_itself k k refl)

pub removed_elsewhere : {X : Type 0} (m : map.FinMap text_cmp X) (k q : List ℕ) → q ≢ k → map.get (map.remove m k) q ≡ map.get m q
removed_elsewhere m k q apart = map.get-remove nat_list_cmp_total m k q ∙ ap (λ b. cond b None (map.get m q)) (key_apart q k apart)

pub written_elsewhere : (m n : FilesData) (k v : List ℕ) → n ≡ map.insert m k v → Elsewhere k m n
written_elsewhere m n k v e q apart = ap (λ (x : FilesData). map.get x q) e ∙ inserted_elsewhere m k q v apart

pub written_there : (m n : FilesData) (k v : List ℕ) → n ≡ map.insert m k v → map.get n k ≡ Some v
written_there m n k v e = ap (λ (x : FilesData). map.get x k) e ∙ inserted_there m k v

pub taken_elsewhere : (m n : FilesData) (k : List ℕ) → n ≡ map.remove m k → Elsewhere k m n
taken_elsewhere m n k e q apart = ap (λ (x : FilesData). map.get x q) e ∙ removed_elsewhere m k q apart

pub taken_there : (m n : FilesData) (k : List ℕ) → n ≡ map.remove m k → map.get n k ≡ None
taken_there m n k e = ap (λ (x : FilesData). map.get x k) e ∙ removed_there m k

pub kept_elsewhere : (m n : FilesData) (k : List ℕ) → IsTakenOrKept k m n → Elsewhere k m n
kept_elsewhere m n k (inl e) q apart = ap (λ (x : FilesData). map.get x q) e
kept_elsewhere m n k (inr e) q apart = taken_elsewhere m n k e q apart

pub kept_less : (m n : FilesData) (k : List ℕ) → IsTakenOrKept k m n → has n k ≡ true → has m k ≡ true
kept_less m n k (inl e) h = sym (ap (λ (x : FilesData). has x k) e) ∙ h
kept_less m n k (inr e) h = let none : has n k ≡ false = ap is_some (taken_there m n k e) in cc

pub still : (k q : List ℕ) (m n : FilesData) → Elsewhere k m n → q ≢ k → has n q ≡ has m q
still k q m n elsewhere apart = ap is_some (elsewhere q apart)

pub none_of : {X : Type 0} (o : Option X) → is_some o ≡ false → o ≡ None
none_of None e = refl
none_of (Some x) e = cc

pub some_held : {X : Type 0} (o : Option X) (x : X) → o ≡ Some x → is_some o ≡ true
some_held o x e = ap is_some e

pub no_both : (b : Bool) → b ≡ true → b ≡ false → ⊥
no_both b p q = let k : true ≡ false = sym p ∙ q in cc

pub true_or_false : (b : Bool) → (b ≡ true) ⊎ (b ≡ false)
true_or_false true = inl refl
true_or_false false = inr refl
