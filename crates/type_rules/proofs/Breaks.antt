-- Checks one after another, and what the code answers of them.
use Rattle.std.proofs.Common.{◌≡◌, ℕ, List, Result, Ok, Err, ap, sym, subst, ◌∙◌}
use Rattle.std.specs.Prelude.{IfOk, IfErr, IsErrAnd}
use Rattle.type_rules.specs.declared.fault.ValueFault.{ValueFault}
use Rattle.type_rules.specs.declared.fault.ValueFault.TheVariants.{Broken, NoMemory}
use Rattle.type_rules.specs.Checked.{Checked, under, ◌>>=◌}
use Rattle.type_rules.specs.Answer.{IsBreak, IsOutside}

-- what the first check breaks, the whole breaks
break_stays : {A B : Type 0} (p : Checked A) (f : A → Checked B) (x : ValueFault) → IsBreak p x → IsBreak (p >>= f) x
break_stays p f (Broken rule trail) e = ap (λ q. q >>= f) e
break_stays p f NoMemory e = tt

pub stays : {A B T : Type 0} (p : Checked A) (f : A → Checked B) (x : ValueFault) (r : Result T ValueFault) → IsErrAnd r (λ e. e ≡ x) → IsBreak p x → IfErr r (IsBreak (p >>= f))
stays p f x (Ok y) h b = tt
stays p f x (Err e) h b = let P : ValueFault → Type 0 = λ z. IsBreak (p >>= f) z in subst P (sym h) (break_stays p f x b)

-- what the check after a sound one finds
pub next_ok : {A B : Type 0} (p : Checked A) (f : A → Checked B) (a : A) (r : Result B ValueFault) → p ≡ Ok a → IfOk r (λ x. f a ≡ Ok x) → IfOk r (λ x. (p >>= f) ≡ Ok x)
next_ok p f a (Ok y) e h = ap (λ q. q >>= f) e ∙ h
next_ok p f a (Err y) e h = tt

pub next_broken : {A B T : Type 0} (p : Checked A) (f : A → Checked B) (a : A) (r : Result T ValueFault) → p ≡ Ok a → IfErr r (IsBreak (f a)) → IfErr r (IsBreak (p >>= f))
next_broken p f a (Ok y) e h = tt
next_broken p f a (Err (Broken rule trail)) e h = ap (λ q. q >>= f) e ∙ h
next_broken p f a (Err NoMemory) e h = tt

-- what is found of a part, seen from outside
outside_is : {A : Type 0} (part : Checked A) (step : List ℕ) (x y : ValueFault) → IsBreak part x → IsOutside step x y → IsBreak (under step part) y
outside_is part step (Broken rule trail) (Broken r t) e (same, longer) = ap (under step) e ∙ (λ i. Err (record { rule = sym same i; trail = sym longer i }))
outside_is part step (Broken rule trail) NoMemory e o = tt
outside_is part step NoMemory (Broken r t) e o = absurd o
outside_is part step NoMemory NoMemory e o = tt

pub under_ok : {A : Type 0} (part : Checked A) (step : List ℕ) (found r : Result A ValueFault) → IfOk found (λ x. part ≡ Ok x) → IfOk found (λ x. r ≡ Ok x) → IfErr found (λ e. IsErrAnd r (IsOutside step e)) → IfOk r (λ x. under step part ≡ Ok x)
under_ok part step (Ok x) r is same err = let P : Result _ ValueFault → Type 0 = λ z. IfOk z (λ x. under step part ≡ Ok x) in subst P (sym same) (ap (under step) is)
under_ok part step (Err e) (Ok y) is same err = absurd err
under_ok part step (Err e) (Err y) is same err = tt

pub under_broken : {A : Type 0} (part : Checked A) (step : List ℕ) (found r : Result A ValueFault) → IfErr found (IsBreak part) → IfOk found (λ x. r ≡ Ok x) → IfErr found (λ e. IsErrAnd r (IsOutside step e)) → IfErr r (IsBreak (under step part))
under_broken part step (Ok x) r is same err = let P : Result _ ValueFault → Type 0 = λ z. IfErr z (IsBreak (under step part)) in subst P (sym same) tt
under_broken part step (Err e) (Ok y) is same err = absurd err
under_broken part step (Err e) (Err y) is same err = outside_is part step e y is err
