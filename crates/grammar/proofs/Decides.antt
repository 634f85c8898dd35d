-- A predictive reading of any text comes to its end or gets stuck, where no rule comes to itself without a byte.
use Rattle.std.proofs.Common.{◌≡◌, ℕ, zero, suc, ◌<◌, ◌≤◌, List, [], ◌∷◌, length, Bool, true, false, ◌||◌, ◌&&◌, not, refl, inl, inr, arith}
use Rattle.std.specs.Prelude.{◌⊎◌}
use Rattle.grammar.specs.Grammar.{Rule, empty, byte, seq, alt, many, named, within}
use Rattle.grammar.specs.Predict.{begins, Ahead, nullable, first, Apart, IsSteered, IsHonest, Steers, on_empty, on_byte, on_both, on_left, on_right, on_end, on_more, on_name, Stuck, at_byte, at_first, at_second, at_left, at_right, only_left, only_right, at_neither, at_round, at_later, at_named}
use Rattle.grammar.specs.Ranges.{is_guarded, are_guarded}
use Rattle.grammar.proofs.Predicts.{reads}
use Rattle.grammar.proofs.Steps.{shorter, no_longer}

both_ways : (b : Bool) → b ≡ true → b ≡ false → ⊥
both_ways b e f = cc

other_way : (p q : Bool) → (q ≡ true → p ≡ false) → p ≡ true → q ≡ false
other_way p true f e = cc (f refl)
other_way p false f e = refl

not_other : (p q : ℕ → Bool) → Apart p q → (t : List ℕ) → begins p t ≡ true → begins q t ≡ false
not_other p q f [] e = refl
not_other p q f (c ∷ t) e = other_way (p c) (q c) (f c) e

and_true : (a b : Bool) → (a && b) ≡ true → (a ≡ true) × (b ≡ true)
and_true true b e = (refl, e)
and_true false b e = cc

or_not : (a b : Bool) → (not a || b) ≡ true → a ≡ true → b ≡ true
or_not true b e f = e
or_not false b e f = cc

and_false : (a b : Bool) → (a && b) ≡ false → a ≡ true → b ≡ false
and_false true b e f = e
and_false false b e f = cc

two_ways : (b : Bool) → (b ≡ true) ⊎ (b ≡ false)
two_ways true = inl refl
two_ways false = inr refl

module _ {N : Type 0} (grammar : N → Rule N) (a : Ahead N) (honest : IsHonest grammar a) where
  -- the end of the reading, or where it gets stuck
  abbrev pub Walked : Rule N → List ℕ → Type 0
  Walked r t = ((u : List ℕ) × Steers grammar a r t u) ⊎ ((u : List ℕ) × Stuck grammar a r t u)

  less : (r : Rule N) {t u : List ℕ} → Steers grammar a r t u → nullable r ≡ false → length u < length t
  less r x n = shorter honest.visible (reads grammar a honest x) n

  not_more : (r : Rule N) {t u : List ℕ} → Steers grammar a r t u → length u ≤ length t
  not_more r x = no_longer (reads grammar a honest x)

  one_round : (r : Rule N) (t u : List ℕ) → Steers grammar a r t u → Walked (many r) u → Walked (many r) t
  one_round r t u x (inl (v, y)) = inl (v, on_more x y)
  one_round r t u x (inr (v, k)) = inr (v, at_later x k)

  rounds : (r : Rule N) → nullable r ≡ false → (bound : ℕ) → ((u : List ℕ) → length u ≤ bound → Walked r u) → (fuel : ℕ) (t : List ℕ) → length t ≤ fuel → length t ≤ bound → Walked (many r) t
  rounds r n bound w zero [] le lb = inl ([], on_end refl)
  rounds r n bound w zero (c ∷ t) le lb = absurd (omega (arith, le))
  rounds r n bound w (suc fuel) t le lb = elim (two_ways (begins (first a r) t)) as (λ _. Walked (many r) t) [
    | inl e ↦ elim (w t lb) as (λ _. Walked (many r) t) [
      | inl (u, x) ↦ one_round r t u x (rounds r n bound w fuel u (omega (arith, le, less r x n)) (omega (arith, lb, less r x n)))
      | inr (u, k) ↦ inr (u, at_round e k)
    ]
    | inr e ↦ inl (t, on_end e)
  ]

  -- a text is shorter than the bound, or the rule comes to no name but these without a byte
  abbrev Guard : ℕ → (N → Bool) → Rule N → List ℕ → Type 0
  Guard bound low r t = (length t < bound) ⊎ (is_guarded low r ≡ true)

  guard_first : (bound : ℕ) (low : N → Bool) (r s : Rule N) (t : List ℕ) → Guard bound low (seq r s) t → Guard bound low r t
  guard_first bound low r s t (inl lt) = inl lt
  guard_first bound low r s t (inr e) = inr (and_true (is_guarded low r) (not (nullable r) || is_guarded low s) e).0

  guard_second : (bound : ℕ) (low : N → Bool) (r s : Rule N) (t u : List ℕ) → length t ≤ bound → Steers grammar a r t u → Guard bound low (seq r s) t → Guard bound low s u
  guard_second bound low r s t u le x (inl lt) = inl (omega (arith, lt, not_more r x))
  guard_second bound low r s t u le x (inr e) = elim (two_ways (nullable r)) as (λ _. Guard bound low s u) [
    | inl n ↦ inr (or_not (nullable r) (is_guarded low s) (and_true (is_guarded low r) (not (nullable r) || is_guarded low s) e).1 n)
    | inr n ↦ inl (omega (arith, le, less r x n))
  ]

  guard_left : (bound : ℕ) (low : N → Bool) (r s : Rule N) (t : List ℕ) → Guard bound low (alt r s) t → Guard bound low r t
  guard_left bound low r s t (inl lt) = inl lt
  guard_left bound low r s t (inr e) = inr (and_true (is_guarded low r) (is_guarded low s) e).0

  guard_right : (bound : ℕ) (low : N → Bool) (r s : Rule N) (t : List ℕ) → Guard bound low (alt r s) t → Guard bound low s t
  guard_right bound low r s t (inl lt) = inl lt
  guard_right bound low r s t (inr e) = inr (and_true (is_guarded low r) (is_guarded low s) e).1

  guard_round : (bound : ℕ) (low : N → Bool) (r : Rule N) (t u : List ℕ) → length u ≤ length t → Guard bound low (many r) t → Guard bound low r u
  guard_round bound low r t u le (inl lt) = inl (omega (arith, lt, le))
  guard_round bound low r t u le (inr e) = inr e

  then_second : (r s : Rule N) (t u : List ℕ) → Steers grammar a r t u → Walked s u → Walked (seq r s) t
  then_second r s t u x (inl (v, y)) = inl (v, on_both x y)
  then_second r s t u x (inr (v, k)) = inr (v, at_second x k)

  go_left : (r s : Rule N) (t : List ℕ) → Apart (first a r) (first a s) → begins (first a r) t ≡ true → Walked r t → Walked (alt r s) t
  go_left r s t ap_ e (inl (u, x)) = inl (u, on_left (not_other (first a r) (first a s) ap_ t e) x)
  go_left r s t ap_ e (inr (u, k)) = inr (u, at_left e k)

  go_right : (r s : Rule N) (t : List ℕ) → begins (first a r) t ≡ false → begins (first a s) t ≡ true → Walked s t → Walked (alt r s) t
  go_right r s t e f (inl (u, x)) = inl (u, on_right e x)
  go_right r s t e f (inr (u, k)) = inr (u, at_right f k)

  only_first : (r s : Rule N) (t : List ℕ) → begins (first a s) t ≡ false → nullable s ≡ false → Walked r t → Walked (alt r s) t
  only_first r s t f n (inl (u, x)) = inl (u, on_left f x)
  only_first r s t f n (inr (u, k)) = inr (u, only_left f n k)

  only_second : (r s : Rule N) (t : List ℕ) → begins (first a r) t ≡ false → nullable r ≡ false → Walked s t → Walked (alt r s) t
  only_second r s t e n (inl (u, x)) = inl (u, on_right e x)
  only_second r s t e n (inr (u, k)) = inr (u, only_right e n k)

  module _ (bound : ℕ) (low : N → Bool) (names : (m : N) (t : List ℕ) → length t ≤ bound → ((length t < bound) ⊎ (low m ≡ true)) → Walked (named m) t) where
    walk : (r : Rule N) → IsSteered a r → (t : List ℕ) → length t ≤ bound → Guard bound low r t → Walked r t
    walk empty st t le g = inl (t, on_empty)
    walk (byte lo hi) st [] le g = inr ([], at_byte refl)
    walk (byte lo hi) st (c ∷ t) le g = elim (two_ways (within lo hi c)) as (λ _. Walked (byte lo hi) (c ∷ t)) [ inl e ↦ inl (t, on_byte e) | inr e ↦ inr (c ∷ t, at_byte e) ]
    walk (seq r s) (sr, ss, ap_) t le g = elim (walk r sr t le (guard_first bound low r s t g)) as (λ _. Walked (seq r s) t) [
      | inl (u, x) ↦ then_second r s t u x (walk s ss u (omega (arith, le, not_more r x)) (guard_second bound low r s t u le x g))
      | inr (u, k) ↦ inr (u, at_first k)
    ]
    walk (alt r s) (sr, ss, ap_, vis) t le g = elim (two_ways (begins (first a r) t)) as (λ _. Walked (alt r s) t) [
      | inl e ↦ go_left r s t ap_ e (walk r sr t le (guard_left bound low r s t g))
      | inr e ↦ elim (two_ways (begins (first a s) t)) as (λ _. Walked (alt r s) t) [
        | inl f ↦ go_right r s t e f (walk s ss t le (guard_right bound low r s t g))
        | inr f ↦ elim (two_ways (nullable r)) as (λ _. Walked (alt r s) t) [
          | inl n ↦ only_first r s t f (and_false (nullable r) (nullable s) vis n) (walk r sr t le (guard_left bound low r s t g))
          | inr n ↦ elim (two_ways (nullable s)) as (λ _. Walked (alt r s) t) [
            | inl m ↦ only_second r s t e n (walk s ss t le (guard_right bound low r s t g))
            | inr m ↦ inr (t, at_neither e f n m)
          ]
        ]
      ]
    ]
    walk (many r) (sr, ap_, vis) t le g = rounds r vis (length t) (λ u lu. walk r sr u (omega (arith, le, lu)) (guard_round bound low r t u lu g)) (length t) t (omega arith) (omega arith)
    walk (named m) st t le g = names m t le g

  module _ (low : N → Bool) (tests : (n : N) → are_guarded grammar low n ≡ true) where
    by_its_name : (m : N) (t : List ℕ) → Walked (grammar m) t → Walked (named m) t
    by_its_name m t (inl (u, x)) = inl (u, on_name x)
    by_its_name m t (inr (u, k)) = inr (u, at_named k)

    shorter_or_none : (bound : ℕ) → ((m : N) (t : List ℕ) → length t < bound → Walked (named m) t) → (m : N) (t : List ℕ) → length t ≤ bound → ((length t < bound) ⊎ (false ≡ true)) → Walked (named m) t
    shorter_or_none bound less_ m t le (inl lt) = less_ m t lt
    shorter_or_none bound less_ m t le (inr e) = absurd (both_ways false e refl)

    low_one : (bound : ℕ) → ((m : N) (t : List ℕ) → length t < bound → Walked (named m) t) → (m : N) → low m ≡ true → (t : List ℕ) → length t ≤ bound → Walked (named m) t
    low_one bound less_ m e t le = by_its_name m t (walk bound (λ n. false) (shorter_or_none bound less_) (grammar m) (honest.steered m) t le
        (inr (or_not (low m) (is_guarded (λ n. false) (grammar m)) (and_true (is_guarded low (grammar m)) (not (low m) || is_guarded (λ n. false) (grammar m)) (tests m)).1 e)))

    shorter_or_low : (bound : ℕ) → ((m : N) (t : List ℕ) → length t < bound → Walked (named m) t) → (m : N) (t : List ℕ) → length t ≤ bound → ((length t < bound) ⊎ (low m ≡ true)) → Walked (named m) t
    shorter_or_low bound less_ m t le (inl lt) = less_ m t lt
    shorter_or_low bound less_ m t le (inr e) = low_one bound less_ m e t le

    any_one : (bound : ℕ) → ((m : N) (t : List ℕ) → length t < bound → Walked (named m) t) → (m : N) (t : List ℕ) → length t ≤ bound → Walked (named m) t
    any_one bound less_ m t le = by_its_name m t (walk bound low (shorter_or_low bound less_) (grammar m) (honest.steered m) t le
        (inr (and_true (is_guarded low (grammar m)) (not (low m) || is_guarded (λ n. false) (grammar m)) (tests m)).0))

    each_name : (bound : ℕ) (m : N) (t : List ℕ) → length t ≤ bound → Walked (named m) t
    each_name zero m t le = any_one zero (λ n u lt. absurd (omega (arith, lt))) m t le
    each_name (suc bound) m t le = any_one (suc bound) (λ n u lt. each_name bound n u (omega (arith, lt))) m t le

    pub decides : (r : Rule N) → IsSteered a r → (t : List ℕ) → Walked r t
    decides r st t = walk (suc (length t)) low (λ m u le g. each_name (suc (length t)) m u le) r st t (omega arith) (inl (omega arith))
