-- Where the predictive reading stops, the longest viable prefix ends.
use Rattle.std.proofs.Common.{◌≡◌, ℕ, suc, ◌+◌, ◌-◌, ◌<◌, ◌≤◌, List, [], ◌∷◌, ◌++◌, length, take, drop, get_or, true, false, refl, sym, ap, ◌∙◌, subst, inl, inr, append_assoc, append-nil, arith, take-append-drop, take-add}
use Rattle.std.proofs.lemmas.List.{append_cancel_right, drop_more}
use Rattle.grammar.specs.Grammar.{Rule, Reads, Derives, IsFront, whole, EachPasses, named}
use Rattle.grammar.specs.Predict.{begins, Ahead, IsHonest, IsSteered, Alike}
use Rattle.grammar.specs.Stop.{Refuses, Stops}
use Rattle.grammar.proofs.Fronts.{goes_on}
use Rattle.grammar.proofs.Predicts.{moves, halts, stuck_not, one_end}

-- the longer prefix is the shorter one and what comes after it
longer : (text : List ℕ) (at n : ℕ) → at ≤ length text → take (at + n) text ≡ take at text ++ take n (drop at text)
longer text at n h = take-add at n text

alike_longer : (text w : List ℕ) (at n : ℕ) → at < length text → Alike (drop at text) (take (suc n) (drop at text) ++ w)
alike_longer text w at n h p =
    let e : drop at text ≡ get_or text at 0 ∷ drop (at + 1) text = drop_more text at 0 h in rw e refl

at_end : (text x : List ℕ) (at : ℕ) → at < length text → x ≡ [] → Alike (drop at text) x → ⊥
at_end text x at h e al =
    let e2 : drop at text ≡ get_or text at 0 ∷ drop (at + 1) text = drop_more text at 0 h in
    let b : begins (λ c. true) (drop at text) ≡ true = rw e2 refl in
    let c : begins (λ c. true) x ≡ false = rw e refl in
    let d : begins (λ c. true) (drop at text) ≡ begins (λ c. true) x = al (λ c. true) in
    cc

module _ {N : Type 0} (grammar : N → Rule N) (a : Ahead N) (honest : IsHonest grammar a)
    (spelled : (n : N) → (w : List ℕ) × Derives grammar (named n) w) (passes : (n : N) → EachPasses (grammar n)) where
  refuse : (r : Rule N) (text f : List ℕ) (at : ℕ) → EachPasses r → at ≤ length text → text ≡ f ++ drop at text → IsFront grammar r f →
      ((x : List ℕ) → Alike (drop at text) x → Derives grammar r (f ++ x) → ⊥) → Refuses grammar r text at
  refuse r text f at each h e fr none =
      let same : f ≡ take at text = append_cancel_right f (take at text) (drop at text) (sym e ∙ sym (take-append-drop at text)) in
      let none2 : (x : List ℕ) → Alike (drop at text) x → Derives grammar r (take at text ++ x) → ⊥ =
      subst (λ z. (x : List ℕ) → Alike (drop at text) x → Derives grammar r (z ++ x) → ⊥) same none in
      record {
        no_reading = λ d. none2 (drop at text) (λ p. refl) (subst (Derives grammar r) (sym (take-append-drop at text)) d);
        stop = record {
          within_text = h;
          front = subst (IsFront grammar r) same fr;
          longest = λ j lt le fj.
              let n : ℕ = j - (at + 1) in
              let ej : j ≡ at + suc n = omega arith in
              let fj2 : IsFront grammar r (take at text ++ take (suc n) (drop at text)) = subst (IsFront grammar r) (ap (λ z. take z text) ej ∙ longer text at (suc n) h) fj in
              let (w, d) = goes_on grammar spelled passes fj2 each in
              none2 (take (suc n) (drop at text) ++ w) (alike_longer text w at n (omega arith)) (subst (Derives grammar r) (append_assoc (take at text) (take (suc n) (drop at text)) w) d);
        };
      }

  pub refuses : (r : Rule N) (text : List ℕ) (at : ℕ) → EachPasses r → IsSteered a r → Stops grammar a r text at → Refuses grammar r text at
  refuses r text at each st (h, how) = elim how as (λ _. Refuses grammar r text at) [
    | inl k ↦ let (f, e, fr, fx) = halts grammar a honest k in
        refuse r text f at each h e fr (λ x al d. stuck_not grammar a honest (fx x al) d st refl)
    | inr (k, lt) ↦ let (f, e, fr, fx) = moves grammar a honest k in
        refuse r text f at each h e (whole (subst (λ z. Reads grammar r z []) (append-nil f) (fr [])))
        (λ x al d. let none : x ≡ [] = one_end grammar a honest (fx x al) d st refl in at_end text x at lt none al)
  ]
