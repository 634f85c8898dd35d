-- Hops that start at different places: where they lead is decided, and within as many steps as there are hops.
use Rattle.std.proofs.Common.{◌≡◌, ◌≢◌, ℕ, zero, suc, ◌+◌, ◌≤◌, List, [], ◌∷◌, ◌++◌, length, length-append, inl, inr, refl, sym, ap, ◌∙◌, subst, arith}
use Rattle.std.proofs.lemmas.List.{length-map}
use Rattle.name_path.specs.declared.place.Place.{Place}
use Rattle.ring.specs.Lists.{In, AreApart}
use Rattle.ring.proofs.Ends.{in_left, in_right, in_cases, split}
use Rattle.ring.proofs.Renamings.{in_map, map_join}
use Rattle.certificates.specs.declared.certificate.Hop.{Hop}
use Rattle.explain.specs.Following.{starts_of, Reaches, stays, follows}
use Rattle.explain.specs.inner.Ways.{Along, here, onward}

-- lists of which no two are alike
module _ {N : Type 0} where
  pub apart_push : (xs : List N) (x : N) → AreApart xs → (In x xs → ⊥) → AreApart (xs ++ x ∷ [])
  apart_push [] x a n = ((λ i. i), tt)
  apart_push (y ∷ ys) x a n = (
    (λ i. elim (in_cases ys (x ∷ []) y i) [
      | inl j ↦ a.0 j
      | inr j ↦ elim j [ inl p ↦ n (inl (sym p)) | inr z ↦ absurd z ]
    ]),
    apart_push ys x a.1 (λ i. n (inr i)),
  )

  in_others : (before after : List N) (x v : N) → In v (before ++ x ∷ after) → v ≢ x → In v (before ++ after)
  in_others before after x v i n = elim (in_cases before (x ∷ after) v i) [
    | inl j ↦ in_left before after v j
    | inr j ↦ elim j [ inl p ↦ absurd (n p) | inr k ↦ in_right before after v k ]
  ]

  -- one is no longer than a list that has them all
  apart_fit : (xs ys : List N) → AreApart xs → ((v : N) → In v xs → In v ys) → length xs ≤ length ys
  apart_fit [] ys a h = omega arith
  apart_fit (x ∷ xs) ys a h =
      let s = split ys x (h x (inl refl)) in
      let fewer : length xs ≤ length (s.before ++ s.after) = apart_fit xs (s.before ++ s.after) a.1
      (λ v i. in_others s.before s.after x v (subst (λ (zs : List N). In v zs) s.whole (h v (inr i)))
      (λ e. a.0 (subst (λ (z : N). In z xs) e i))) in
      omega (arith, ap length s.whole, length-append s.before s.after, length-append s.before (x ∷ s.after))

abbrev start_of : Hop → Place
start_of h = h.spot.place

-- a hop starts where one of them starts
pub starts_there : (hops : List Hop) (h : Hop) → In h hops → In h.spot.place (starts_of hops)
starts_there hops h i = in_map start_of hops h i

pub starts_at : (hops : List Hop) (h : Hop) (p : Place) → In h hops → h.spot.place ≡ p → In p (starts_of hops)
starts_at hops h p i e = subst (λ x. In x (starts_of hops)) e (starts_there hops h i)

pub starts_joined : (hops more : List Hop) → starts_of (hops ++ more) ≡ starts_of hops ++ starts_of more
starts_joined hops more = map_join start_of hops more

-- one hop starts at a place
pub one_hop : (hops : List Hop) (h k : Hop) → AreApart (starts_of hops) → In h hops → In k hops → h.spot.place ≡ k.spot.place → h ≡ k
one_hop [] h k a i j e = absurd i
one_hop (x ∷ xs) h k a (inl p) (inl q) e = p ∙ sym q
one_hop (x ∷ xs) h k a (inl p) (inr j) e = absurd (a.0 (starts_at xs k x.spot.place j (sym e ∙ ap start_of p)))
one_hop (x ∷ xs) h k a (inr i) (inl q) e = absurd (a.0 (starts_at xs h x.spot.place i (e ∙ ap start_of q)))
one_hop (x ∷ xs) h k a (inr i) (inr j) e = one_hop xs h k a.1 i j e

module _ (hops : List Hop) where
  -- so many hops lead from p to q
  pub record Follows (n : ℕ) (p q : Place) : Type 0 where
    pub steps : ℕ
    pub count : steps ≡ n
    pub along : Along hops steps p q

  pub further : {m n : ℕ} {p q r : Place} → Along hops m p q → Along hops n q r → Follows (m + n) p r
  further {n = n} here more = record { steps = n; count = omega arith; along = more }
  further (onward h i e rest) more =
      let f = further rest more in
      record { steps = suc f.steps; count = omega (arith, f.count); along = onward h i e f.along }

  pub reaches_along : {n : ℕ} {p q : Place} → Along hops n p q → (In q (starts_of hops) → ⊥) → Reaches hops p q
  reaches_along here none = stays none
  reaches_along (onward h i e rest) none = follows h i e (reaches_along rest none)

  -- how many hops are followed
  pub record Counted (p q : Place) : Type 0 where
    pub steps : ℕ
    pub along : Along hops steps p q
    pub none : In q (starts_of hops) → ⊥

  pub counted : {p q : Place} → Reaches hops p q → Counted p q
  counted (stays none) = record { steps = zero; along = here; none = none }
  counted (follows h i e rest) =
      let k = counted rest in
      record { steps = suc k.steps; along = onward h i e k.along; none = k.none }

  -- what is left of a way after its first steps
  pub record Left (n m : ℕ) (r q : Place) : Type 0 where
    pub steps : ℕ
    pub count : m + steps ≡ n
    pub along : Along hops steps r q

  module _ (apart : AreApart (starts_of hops)) where
    pub left_of : {n m : ℕ} {p q r : Place} → Along hops n p q → (In q (starts_of hops) → ⊥) → Along hops m p r → Left n m r q
    left_of {n} way none here = record { steps = n; count = omega arith; along = way }
    left_of {p = x} here none (onward h i e rest) = absurd (none (starts_at hops h x i e))
    left_of {r = z} (onward h i e way) none (onward {n = m} k j f rest) =
        let same = one_hop hops k h apart j i (f ∙ sym e) in
        let l = left_of way none (subst (λ (x : Hop). Along hops m x.target z) same rest) in
        record { steps = l.steps; count = omega (arith, l.count); along = l.along }

    one_count : {n m : ℕ} {p q : Place} → Along hops n p q → (In q (starts_of hops) → ⊥) → Along hops m p q → m ≡ n
    one_count way none other =
        let l = left_of way none other in
        let r = left_of other none way in
        omega (arith, l.count, r.count)

    -- the places that are left on the way
    visited : {n : ℕ} {p q : Place} → Along hops n p q → List Place
    visited here = []
    visited (onward {n} {p} h i e rest) = p ∷ visited rest

    how_many : {n : ℕ} {p q : Place} (way : Along hops n p q) → length (visited way) ≡ n
    unfolding visited
    how_many here = refl
    how_many (onward h i e rest) = ap suc (how_many rest)

    are_starts : {n : ℕ} {p q : Place} (way : Along hops n p q) (v : Place) → In v (visited way) → In v (starts_of hops)
    unfolding visited
    are_starts here v i = absurd i
    are_starts (onward h i e rest) v (inl f) = starts_at hops h v i (e ∙ sym f)
    are_starts (onward h i e rest) v (inr j) = are_starts rest v j

    record Nearer (n : ℕ) (v q : Place) : Type 0 where
      pub steps : ℕ
      pub less : steps ≤ n
      pub along : Along hops steps v q

    nearer : {n : ℕ} {p q : Place} (way : Along hops n p q) (v : Place) → In v (visited way) → Nearer n v q
    unfolding visited
    nearer here v j = absurd j
    nearer (onward {n} h i e rest) v (inl f) = record { steps = suc n; less = omega arith; along = onward h i (e ∙ sym f) rest }
    nearer (onward h i e rest) v (inr j) =
        let k = nearer rest v j in
        record { steps = k.steps; less = omega (arith, k.less); along = k.along }

    differ : {n : ℕ} {p q : Place} (way : Along hops n p q) → (In q (starts_of hops) → ⊥) → AreApart (visited way)
    unfolding visited
    differ here none = tt
    differ (onward {n} {p} h i e rest) none = (
      (λ again.
          let k = nearer rest p again in
          let same = one_count (onward h i e rest) none k.along in
          absurd (omega (arith, k.less, same))),
      differ rest none,
    )

    pub within : {n : ℕ} {p q : Place} → Along hops n p q → (In q (starts_of hops) → ⊥) → n ≤ length hops
    within way none =
        let fits = apart_fit (visited way) (starts_of hops) (differ way none) (are_starts way) in
        omega (arith, fits, how_many way, length-map hops start_of)

    pub one_end : {p q r : Place} → Reaches hops p q → Reaches hops p r → q ≡ r
    one_end (stays none) (stays other) = refl
    one_end {p = x} (stays none) (follows h i e rest) = absurd (none (starts_at hops h x i e))
    one_end {p = x} (follows h i e rest) (stays none) = absurd (none (starts_at hops h x i e))
    one_end {r = z} (follows h i e rest) (follows k j f more) =
        let same = one_hop hops k h apart j i (f ∙ sym e) in
        one_end rest (subst (λ (x : Hop). Reaches hops x.target z) same more)
