-- A text is a viable prefix exactly where some text goes on from it to one that is derived.
use Rattle.std.proofs.Common.{◌≡◌, ℕ, List, [], ◌∷◌, ◌++◌, true, refl, sym, subst, inl, inr, append_assoc, append-nil}
use Rattle.std.specs.Prelude.{◌⊎◌}
use Rattle.grammar.specs.Grammar.{within, Rule, empty, byte, seq, alt, many, named, Reads, no_byte, one_byte, both, left, right, no_more, more, by_name, Derives, IsFront, nothing, whole, in_first, in_second, in_left, in_right, in_next, in_named, EachPasses}

module _ {N : Type 0} (grammar : N → Rule N) where
  -- more text after
  pub widen : {r : Rule N} {t u : List ℕ} → Reads grammar r t u → (x : List ℕ) → Reads grammar r (t ++ x) (u ++ x)
  widen no_byte x = no_byte
  widen (one_byte h) x = one_byte h
  widen (both a b) x = both (widen a x) (widen b x)
  widen (left a) x = left (widen a x)
  widen (right a) x = right (widen a x)
  widen no_more x = no_more
  widen (more a b) x = more (widen a x) (widen b x)
  widen (by_name a) x = by_name (widen a x)

  pub joined : {r s : Rule N} {a b : List ℕ} → Derives grammar r a → Derives grammar s b → Derives grammar (seq r s) (a ++ b)
  joined {b = b} ra rb = both (widen ra b) rb

  front_more : {r : Rule N} {t u : List ℕ} → Reads grammar r t u → IsFront grammar (many r) u → IsFront grammar (many r) t
  front_more a nothing = whole (more a no_more)
  front_more a (whole b) = whole (more a b)
  front_more a (in_next b f) = in_next (more a b) f

  one_more : {r : Rule N} {t u : List ℕ} → Reads grammar (many r) t u → Derives grammar r u → Derives grammar (many r) t
  one_more no_more b = more b no_more
  one_more (more a c) b = more a (one_more c b)

  pub after_all : {r : Rule N} {t u : List ℕ} → Reads grammar (many r) t u → (w : List ℕ) → Derives grammar r (u ++ w) → Derives grammar (many r) (t ++ w)
  after_all a w b = one_more (widen a w) b

  -- the reading r of t ++ u either needs more than t, or ends in t
  abbrev pub Splits : Rule N → List ℕ → List ℕ → List ℕ → Type 0
  Splits r t u y = IsFront grammar r t ⊎ ((v : List ℕ) × Reads grammar r t v × (v ++ u ≡ y))

  split_byte : {low high c : ℕ} {y : List ℕ} → within low high c ≡ true → (t u : List ℕ) → c ∷ y ≡ t ++ u → Splits (byte low high) t u y
  split_byte h [] u e = inl nothing
  split_byte {low} {high} {c} {y} h (d ∷ t) u e = let same : c ≡ d = cc in let h2 : within low high d ≡ true = subst (λ x. within low high x ≡ true) same h in inr (t, one_byte h2, cc)

  pub split : {r : Rule N} {x y : List ℕ} → Reads grammar r x y → (t u : List ℕ) → x ≡ t ++ u → Splits r t u y
  split no_byte t u e = inr (t, no_byte, sym e)
  split (one_byte h) t u e = split_byte h t u e
  split (both {r} {s} {v = y} a b) t u e =
      elim (split a t u e) as (λ _. Splits (seq r s) t u y) [
        | inl f ↦ inl (in_first f)
        | inr (v, rv, ev) ↦ elim (split b v u (sym ev)) as (λ _. Splits (seq r s) t u y) [
          | inl f ↦ inl (in_second rv f)
          | inr (w, rw_, ew) ↦ inr (w, both rv rw_, ew)
        ]
      ]
  split (left {r} {s} {u = y} a) t u e = elim (split a t u e) as (λ _. Splits (alt r s) t u y) [ inl f ↦ inl (in_left f) | inr (v, rv, ev) ↦ inr (v, left rv, ev) ]
  split (right {r} {s} {u = y} a) t u e = elim (split a t u e) as (λ _. Splits (alt r s) t u y) [ inl f ↦ inl (in_right f) | inr (v, rv, ev) ↦ inr (v, right rv, ev) ]
  split no_more t u e = inr (t, no_more, sym e)
  split (more {r} {v = y} a b) t u e =
      elim (split a t u e) as (λ _. Splits (many r) t u y) [
        | inl f ↦ inl (in_next no_more f)
        | inr (v, rv, ev) ↦ elim (split b v u (sym ev)) as (λ _. Splits (many r) t u y) [
          | inl f ↦ inl (front_more rv f)
          | inr (w, rw_, ew) ↦ inr (w, more rv rw_, ew)
        ]
      ]
  split (by_name {n} {u = y} a) t u e = elim (split a t u e) as (λ _. Splits (named n) t u y) [ inl f ↦ inl (in_named f) | inr (v, rv, ev) ↦ inr (v, by_name rv, ev) ]

  empty_front : (v u : List ℕ) → v ++ u ≡ [] → v ≡ []
  empty_front [] u e = refl
  empty_front (c ∷ v) u e = cc

  -- what goes on to a derived text is a viable prefix
  pub is_front : {r : Rule N} (t u : List ℕ) → Derives grammar r (t ++ u) → IsFront grammar r t
  is_front {r} t u d = elim (split d t u refl) as (λ _. IsFront grammar r t) [
    | inl f ↦ f
    | inr (v, rv, ev) ↦ whole (subst (λ x. Reads grammar r t x) (empty_front v u ev) rv)
  ]

  module _ (spelled : (n : N) → (w : List ℕ) × Derives grammar (named n) w) (passes : (n : N) → EachPasses (grammar n)) where
    -- a text that the rule derives
    pub example : (r : Rule N) → EachPasses r → (w : List ℕ) × Derives grammar r w
    example empty h = ([], no_byte)
    example (byte low high) h = (low ∷ [], one_byte h)
    example (seq r s) (h, k) = let a = example r h in let b = example s k in (a.0 ++ b.0, joined a.1 b.1)
    example (alt r s) (h, k) = let a = example r h in (a.0, left a.1)
    example (many r) h = ([], no_more)
    example (named n) h = spelled n

    abbrev pub GoesOn : Rule N → List ℕ → Type 0
    GoesOn r t = (w : List ℕ) × Derives grammar r (t ++ w)

    pub goes_on : {r : Rule N} {t : List ℕ} → IsFront grammar r t → EachPasses r → GoesOn r t
    goes_on {r} nothing h = example r h
    goes_on (whole {t = t} d) h = ([], rw append-nil d)
    goes_on (in_first {r} {s} {t} f) (h, k) = let a = goes_on f h in let b = example s k in (a.0 ++ b.0, rw (← append_assoc t a.0 b.0) (joined a.1 b.1))
    goes_on (in_second {r} {s} {t} {u} a f) (h, k) = let b = goes_on f k in (b.0, both (widen a b.0) b.1)
    goes_on (in_left f) (h, k) = let a = goes_on f h in (a.0, left a.1)
    goes_on (in_right f) (h, k) = let a = goes_on f k in (a.0, right a.1)
    goes_on (in_next {r} {t} {u} a f) h = let b = goes_on f h in (b.0, after_all a b.0 b.1)
    goes_on (in_named {n} f) h = let a = goes_on f (passes n) in (a.0, by_name a.1)
