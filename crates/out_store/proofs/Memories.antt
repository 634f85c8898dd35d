-- A call on a store in memory: its count of faults, and what stands elsewhere.
use Rattle.std.proofs.Common.{◌≡◌, ◌⊎◌, inl, inr, ◌∙◌, ◌≤◌, ℕ, Bool, true, false, List, if◌then◌else◌, ap, sym, subst, arith}
use Rattle.std.specs.FinMap as map
use Rattle.tk_io.specs.Causes.{Rose, following}
use Rattle.tk_io.specs.FilesData.{FilesData}
use Rattle.out_store.specs.Effects.{Elsewhere}
use Rattle.out_store.specs.Memory.{IsCounted, StoreInMemory}
use Rattle.out_store.proofs.Places.{no_both, taken_elsewhere, written_elsewhere}

rose_by : (b : Bool) (old new : ℕ) → b ≡ true → new ≡ (if b then following old else old) → following old ≤ new
rose_by true old new e h = omega (arith, h)
rose_by false old new e h = absurd (no_both false e refl_false)
  where
    refl_false : false ≡ false
    refl_false = λ i. false

-- a call that fails counts a fault
pub counted_fault : (old new : StoreInMemory) (fails : Bool) → IsCounted old new fails → fails ≡ true → (f : ℕ) → f ≡ new.faults → (old.faults ≤ f) × Rose old.faults f
counted_fault old new fails counted e f is =
    subst (λ (n : ℕ). (old.faults ≤ n) × Rose old.faults n) (sym is) (counted.later, rose_by fails old.faults new.faults e counted.faults)

pub left_elsewhere : (m k n : FilesData) (p t : List ℕ) → k ≡ m → (n ≡ map.insert k p t) ⊎ (n ≡ map.remove k p) → Elsewhere p m n
left_elsewhere m k n p t same (inl e) = written_elsewhere m n p t (e ∙ ap (λ (x : FilesData). map.insert x p t) same)
left_elsewhere m k n p t same (inr e) = taken_elsewhere m n p (e ∙ ap (λ (x : FilesData). map.remove x p) same)
