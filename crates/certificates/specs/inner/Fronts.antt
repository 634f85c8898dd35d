-- What a reader of a text's front finds there.
use Rattle.std.specs.Prelude.{◌≢◌, ℕ, List, [], ◌∷◌, Result, Ok, Err}
use Rattle.certificates.specs.declared.reading.CertStop.{CertStop}
use Rattle.certificates.specs.declared.reading.CertStop.TheVariants as stops

-- the byte is not there
abbrev pub Lacks : ℕ → List ℕ → Type 0
Lacks mark [] = Unit {0}
Lacks mark (b ∷ bs) = (b ≢ mark) × Lacks mark bs

-- the answer is such a one, unless memory ran out
abbrev pub Finds : {X : Type 0} → Result X CertStop → (X → Type 0) → Type 0
Finds (Ok x) P = P x
Finds (Err stops.BadCert) P = ⊥
Finds (Err stops.NoMemory) P = Unit {0}
