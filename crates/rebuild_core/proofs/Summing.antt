-- Sums have one value, and have one where each element gives one.
use Rattle.std.proofs.Common.{◌≡◌, inl, inr, ℕ, ◌+◌, ◌≤◌, List, [], ◌∷◌, length, refl, sym, ap₂, subst, ◌∙◌, arith}
use Rattle.ring.specs.Lists.{In}
use Rattle.rebuild_core.specs.Sums.{IsOneIf, IsOneUnless, IsSum}
use Rattle.rebuild_core.proofs.Decided.{Decided}

pub one_if : (claim : Type 0) (m n : ℕ) → IsOneIf claim m → IsOneIf claim n → m ≡ n
one_if claim m n (inl (c, e)) (inl (d, f)) = e ∙ sym f
one_if claim m n (inl (c, e)) (inr (d, f)) = absurd (d c)
one_if claim m n (inr (c, e)) (inl (d, f)) = absurd (c d)
one_if claim m n (inr (c, e)) (inr (d, f)) = e ∙ sym f

pub one_unless : (claim : Type 0) (m n : ℕ) → IsOneUnless claim m → IsOneUnless claim n → m ≡ n
one_unless claim m n (inl (c, e)) (inl (d, f)) = e ∙ sym f
one_unless claim m n (inl (c, e)) (inr (d, f)) = absurd (d c)
one_unless claim m n (inr (c, e)) (inl (d, f)) = absurd (c d)
one_unless claim m n (inr (c, e)) (inr (d, f)) = e ∙ sym f

pub each_if : (claim : Type 0) → Decided claim → (n : ℕ) × IsOneIf claim n
each_if claim (inl c) = (1, inl (c, refl))
each_if claim (inr c) = (0, inr (c, refl))

pub each_unless : (claim : Type 0) → Decided claim → (n : ℕ) × IsOneUnless claim n
each_unless claim (inl c) = (0, inl (c, refl))
each_unless claim (inr c) = (1, inr (c, refl))

pub held : (claim : Type 0) (n : ℕ) → claim → IsOneIf claim n → n ≡ 1
held claim n c (inl (d, e)) = e
held claim n c (inr (d, e)) = absurd (d c)

pub not_held : (claim : Type 0) (n : ℕ) → (claim → ⊥) → IsOneIf claim n → n ≡ 0
not_held claim n c (inl (d, e)) = absurd (c d)
not_held claim n c (inr (d, e)) = e

pub unless_held : (claim : Type 0) (n : ℕ) → claim → IsOneUnless claim n → n ≡ 0
unless_held claim n c (inl (d, e)) = e
unless_held claim n c (inr (d, e)) = absurd (d c)

pub unless_not_held : (claim : Type 0) (n : ℕ) → (claim → ⊥) → IsOneUnless claim n → n ≡ 1
unless_not_held claim n c (inl (d, e)) = absurd (c d)
unless_not_held claim n c (inr (d, e)) = e

module _ {X : Type 0} (gives : X → ℕ → Type 0) where
  pub one_sum : ((x : X) (m n : ℕ) → gives x m → gives x n → m ≡ n)
      → (xs : List X) (m n : ℕ) → IsSum gives xs m → IsSum gives xs n → m ≡ n
  one_sum one [] m n i j = i ∙ sym j
  one_sum one (x ∷ xs) m n (a, as_, i, is, e) (b, bs, j, js, f) =
      e ∙ (ap₂ (λ x y. x + y) (one x a b i j) (one_sum one xs as_ bs is js) ∙ sym f)

  pub each_sum : ((x : X) → (n : ℕ) × gives x n) → (xs : List X) → (n : ℕ) × IsSum gives xs n
  each_sum each [] = (0, refl)
  each_sum each (x ∷ xs) =
      let (a, i) = each x in
      let (b, is) = each_sum each xs in
      (a + b, (a, b, i, is, refl))

  -- where each gives 0, and where each gives 1
  pub sum_none : (xs : List X) (n : ℕ) → ((x : X) (k : ℕ) → In x xs → gives x k → k ≡ 0) → IsSum gives xs n → n ≡ 0
  sum_none [] n none i = i
  sum_none (x ∷ xs) n none (a, b, i, is, e) =
      let here : a ≡ 0 = none x a (inl refl) i in
      let rest : b ≡ 0 = sum_none xs b (λ y k among. none y k (inr among)) is in
      omega (arith, e, here, rest)

  pub sum_all : (xs : List X) (n : ℕ) → ((x : X) (k : ℕ) → gives x k → k ≡ 1) → IsSum gives xs n → n ≡ length xs
  sum_all [] n all i = i
  sum_all (x ∷ xs) n all (a, b, i, is, e) =
      let here : a ≡ 1 = all x a i in
      let rest : b ≡ length xs = sum_all xs b all is in
      omega (arith, e, here, rest)

-- One claim by another.

pub sum_so : {X : Type 0} (gives other : X → ℕ → Type 0) (xs : List X) (n : ℕ) → ((x : X) (k : ℕ) → In x xs → gives x k → other x k) → IsSum gives xs n → IsSum other xs n
sum_so gives other [] n so e = e
sum_so gives other (x ∷ xs) n so (a, b, i, is, e) = (a, b, so x a (inl refl) i, sum_so gives other xs b (λ y k among. so y k (inr among)) is, e)

module _ {X : Type 0} (gives : X → ℕ → Type 0) where
  pub sum_zero : (xs : List X) → ((x : X) → In x xs → gives x 0) → IsSum gives xs 0
  sum_zero [] zeros = refl
  sum_zero (x ∷ xs) zeros = (0, 0, zeros x (inl refl), sum_zero xs (λ y i. zeros y (inr i)), refl)

  pub sum_ones : (xs : List X) → ((x : X) → gives x 1) → IsSum gives xs (length xs)
  sum_ones [] ones = refl
  sum_ones (x ∷ xs) ones = (1, length xs, ones x, sum_ones xs ones, omega arith)

-- Sums that are made one element after another.

module _ {X : Type 0} (gives : X → ℕ → Type 0) (all : List X) where
  -- the rest's sum beside this number is that of all
  abbrev pub SumDone : List X → ℕ → Type 0
  SumDone rest now = (n : ℕ) → IsSum gives rest n → (m : ℕ) × IsSum gives all m × (m ≡ now + n)

  pub sum_start : SumDone all 0
  sum_start n is = (n, is, omega arith)

  pub sum_next : (rest : List X) (x : X) (xs : List X) (now next k : ℕ) → rest ≡ x ∷ xs → SumDone rest now → gives x k → next ≡ now + k → SumDone xs next
  sum_next rest x xs now next k is done here e n i =
      let (m, all_m, same) = done (k + n) (subst (λ (r : List X). IsSum gives r (k + n)) (sym is) (k, n, here, i, refl)) in
      (m, all_m, omega (arith, same, e))

  pub sum_end : (rest : List X) (now : ℕ) → rest ≡ [] → SumDone rest now → IsSum gives all now
  sum_end rest now is done =
      let (m, all_m, same) = done 0 (subst (λ (r : List X). IsSum gives r 0) (sym is) refl) in
      let whole : m ≡ now = omega (arith, same) in
      subst (IsSum gives all) whole all_m

  -- a counter and the rest's sum are within the sum of all
  abbrev pub SumMost : ℕ → List X → ℕ → Type 0
  SumMost start rest now = (m : ℕ) → IsSum gives all m → (n : ℕ) × IsSum gives rest n × (now + n ≤ start + m)

  pub most_start : (start : ℕ) → SumMost start all start
  most_start start m is = (m, is, omega arith)

  pub most_next : (start : ℕ) (rest : List X) (x : X) (xs : List X) (now next : ℕ) → rest ≡ x ∷ xs → SumMost start rest now
      → ((k : ℕ) → gives x k → next ≤ now + k) → SumMost start xs next
  most_next start rest x xs now next is most rise m i =
      let (n, rest_n, within) = most m i in
      let (k, others, here, later, e) = subst (λ (r : List X). IsSum gives r n) is rest_n in
      (others, later, omega (arith, within, e, rise k here))

  pub most_end : (start : ℕ) (rest : List X) (now : ℕ) → SumMost start rest now → (m : ℕ) → IsSum gives all m → now ≤ start + m
  most_end start rest now most m i = let (n, rest_n, within) = most m i in omega (arith, within)
