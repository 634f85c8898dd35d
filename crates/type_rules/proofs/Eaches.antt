-- Each item of a list, checked by its index.
use Rattle.std.proofs.Common.{◌≡◌, ℕ, ◌+◌, List, [], ◌∷◌, ◌++◌, append_assoc, append-nil, drop, Result, Ok, Err, refl, ap, sym, subst, ◌∙◌}
use Rattle.std.specs.Prelude.{IfErr, IsErrAnd}
use Rattle.std.specs.Fmt.{decimal}
use Rattle.json_span.specs.PlainView.{Value}
use Rattle.type_rules.specs.declared.fault.ValueFault.{ValueFault}
use Rattle.type_rules.specs.declared.fault.ValueFault.TheVariants.{Broken, NoMemory}
use Rattle.type_rules.specs.Checked.{Checked, under, ◌>>=◌}
use Rattle.type_rules.specs.Answer.{IsBreak}
use Rattle.type_rules.specs.Forms.{each}

module _ {A : Type 0} where
  -- these items, and those that are found after them
  abbrev pub behind : List A → Checked (List A) → Checked (List A)
  behind xs r = r >>= λ ys. Ok (xs ++ ys)

  pub nothing_behind : (r : Checked (List A)) → behind [] r ≡ r
  nothing_behind (Ok ys) = refl
  nothing_behind (Err b) = refl

  more : (xs : List A) (x : A) (r : Checked (List A)) → behind xs (r >>= λ ys. Ok (x ∷ ys)) ≡ behind (xs ++ x ∷ []) r
  more xs x (Ok ys) = ap Ok (sym (append_assoc xs (x ∷ []) ys))
  more xs x (Err b) = refl

  module _ (check : Value → Checked A) (vs : List Value) (i : ℕ) where
    -- the item at the index, then those after it
    module _ (v : Value) (first : drop i vs ≡ v ∷ drop (i + 1) vs) where
      step : each check i (drop i vs) ≡ (under (decimal i) (check v) >>= λ x. each check (i + 1) (drop (i + 1) vs) >>= λ xs. Ok (x ∷ xs))
      step = ap (each check i) first

      pub goes_on : (xs ys : List A) (x : A) → under (decimal i) (check v) ≡ Ok x → ys ≡ xs ++ x ∷ [] → behind xs (each check i (drop i vs)) ≡ behind ys (each check (i + 1) (drop (i + 1) vs))
      goes_on xs ys x e k =
          ap (behind xs) (step ∙ ap (λ q. q >>= λ x. each check (i + 1) (drop (i + 1) vs) >>= λ xs. Ok (x ∷ xs)) e)
          ∙ (more xs x (each check (i + 1) (drop (i + 1) vs))
          ∙ ap (λ zs. behind zs (each check (i + 1) (drop (i + 1) vs))) (sym k))

      breaks : (xs : List A) (x : ValueFault) → IsBreak (under (decimal i) (check v)) x → IsBreak (behind xs (each check i (drop i vs))) x
      breaks xs (Broken rule trail) b = ap (behind xs) (step ∙ ap (λ q. q >>= λ x. each check (i + 1) (drop (i + 1) vs) >>= λ xs. Ok (x ∷ xs)) b)
      breaks xs NoMemory b = tt

      pub stops : {T : Type 0} (xs : List A) (x : ValueFault) (r : Result T ValueFault) → IsErrAnd r (λ e. e ≡ x) → IsBreak (under (decimal i) (check v)) x → IfErr r (IsBreak (behind xs (each check i (drop i vs))))
      stops xs x (Ok y) k b = tt
      stops xs x (Err e) k b = let P : ValueFault → Type 0 = λ z. IsBreak (behind xs (each check i (drop i vs))) z in subst P (sym k) (breaks xs x b)

    pub ends : (xs : List A) → drop i vs ≡ [] → behind xs (each check i (drop i vs)) ≡ Ok xs
    ends xs h = ap (λ ws. behind xs (each check i ws)) h ∙ ap Ok (append-nil xs)
