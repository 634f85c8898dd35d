-- What readers of fronts find.
use Rattle.std.proofs.Common.{◌≡◌, ◌≤◌, ℕ, Bool, true, false, List, ◌∷◌, ◌++◌, length, Result, Ok, Err, IfOk, sym, ap, ◌∙◌, arith, length-append}
use Rattle.std.proofs.lemmas.List.{append_cancel_left}
use Rattle.certificates.specs.declared.reading.CertStop.{CertStop}
use Rattle.certificates.specs.declared.reading.CertStop.TheVariants as stops
use Rattle.certificates.specs.inner.Fronts.{Finds}

-- what stops one reader stops those that call it
pub passed : {X Y : Type 0} (stop : CertStop) (P : X → Type 0) (Q : Y → Type 0) → Finds {X = X} (Err stop) P → Finds {X = Y} (Err stop) Q
passed stops.BadCert P Q h = absurd h
passed stops.NoMemory P Q h = tt

pub weaker : {X : Type 0} (r : Result X CertStop) (P Q : X → Type 0) → ((x : X) → P x → Q x) → Finds r P → Finds r Q
weaker (Ok x) P Q f h = f x h
weaker (Err stops.BadCert) P Q f h = h
weaker (Err stops.NoMemory) P Q f h = tt

-- of what is found something more is known
pub with_more : {X : Type 0} (r : Result X CertStop) (P Q : X → Type 0) → Finds r P → IfOk r Q → Finds r (λ x. P x × Q x)
with_more (Ok x) P Q h k = (h, k)
with_more (Err stops.BadCert) P Q h k = h
with_more (Err stops.NoMemory) P Q h k = tt

-- a front is no longer than the text
pub behind_le : (text front rest : List ℕ) → text ≡ front ++ rest → length rest ≤ length text
behind_le text front rest e = omega (arith, ap length e, length-append front rest)

pub behind_one : (text front rest : List ℕ) (c : ℕ) → text ≡ front ++ c ∷ rest → length rest ≤ length text
behind_one text front rest c e = omega (arith, ap length e, length-append front (c ∷ rest))

-- what stands behind the words is what follows them
pub past_is : (text words found rest : List ℕ) → text ≡ words ++ found → text ≡ words ++ rest → found ≡ rest
past_is text words found rest e f = append_cancel_left words found rest (sym e ∙ f)

pub clash : (b : Bool) → b ≡ true → b ≡ false → ⊥
clash b p q = (let k : true ≡ false = sym p ∙ q in cc)

-- what finds something does not stop at a text that spells it
pub stopped : {X : Type 0} (stop : CertStop) (P : X → Type 0) → Finds {X = X} (Err stop) P → stop ≡ stops.BadCert → ⊥
stopped stops.BadCert P h e = h
stopped stops.NoMemory P h e = (cc)
