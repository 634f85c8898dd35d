-- A reading that is steered by the next byte is the only one.
use Rattle.std.proofs.Common.{◌≡◌, ℕ, List, [], ◌∷◌, ◌++◌, Bool, true, false, ◌||◌, ◌&&◌, refl, sym, ap, ◌∙◌, subst, inl, inr, append_assoc}
use Rattle.std.specs.Prelude.{◌⊎◌}
use Rattle.grammar.specs.Grammar.{within, Rule, seq, alt, many, named, Reads, no_byte, one_byte, both, left, right, no_more, more, by_name, IsFront, nothing, whole, in_first, in_second, in_left, in_right, in_next, in_named}
use Rattle.grammar.specs.Predict.{begins, Ahead, nullable, first, more_in, Apart, IsSteered, IsHonest, Alike, Steers, on_empty, on_byte, on_both, on_left, on_right, on_end, on_more, on_name, Stuck, at_byte, at_first, at_second, at_left, at_right, only_left, only_right, at_neither, at_round, at_later, at_named}

both_ways : (b : Bool) → b ≡ true → b ≡ false → ⊥
both_ways b e f = cc

or_left : (a b : Bool) → (a || b) ≡ false → a ≡ false
or_left true b e = e
or_left false b e = refl

or_right : (a b : Bool) → (a || b) ≡ false → b ≡ false
or_right true b e = cc
or_right false b e = e

or_from_left : (a b : Bool) → a ≡ true → (a || b) ≡ true
or_from_left true b e = refl
or_from_left false b e = cc

or_from_right : (a b : Bool) → b ≡ true → (a || b) ≡ true
or_from_right true b e = refl
or_from_right false b e = e

and_from : (a b : Bool) → a ≡ true → b ≡ true → (a && b) ≡ true
and_from true b e f = f
and_from false b e f = cc

under : (b q : Bool) → b ≡ true → (b && q) ≡ false → q ≡ false
under true q e h = h
under false q e h = cc

-- what is not true of the first byte of a text, split over an `or`
misses_left : (p q : ℕ → Bool) (t : List ℕ) → begins (λ c. p c || q c) t ≡ false → begins p t ≡ false
misses_left p q [] h = refl
misses_left p q (c ∷ t) h = or_left (p c) (q c) h

misses_right : (p q : ℕ → Bool) (t : List ℕ) → begins (λ c. p c || q c) t ≡ false → begins q t ≡ false
misses_right p q [] h = refl
misses_right p q (c ∷ t) h = or_right (p c) (q c) h

misses_under : (b : Bool) (q : ℕ → Bool) (t : List ℕ) → b ≡ true → begins (λ c. b && q c) t ≡ false → begins q t ≡ false
misses_under b q [] e h = refl
misses_under b q (c ∷ t) e h = under b (q c) e h

hits_left : (p q : ℕ → Bool) (t : List ℕ) → begins p t ≡ true → begins (λ c. p c || q c) t ≡ true
hits_left p q [] h = cc
hits_left p q (c ∷ t) h = or_from_left (p c) (q c) h

hits_right : (p q : ℕ → Bool) (t : List ℕ) → begins q t ≡ true → begins (λ c. p c || q c) t ≡ true
hits_right p q [] h = cc
hits_right p q (c ∷ t) h = or_from_right (p c) (q c) h

hits_under : (b : Bool) (q : ℕ → Bool) (t : List ℕ) → b ≡ true → begins q t ≡ true → begins (λ c. b && q c) t ≡ true
hits_under b q [] e h = cc
hits_under b q (c ∷ t) e h = and_from b (q c) e h

hits_by : (p q : ℕ → Bool) → ((c : ℕ) → p c ≡ true → q c ≡ true) → (t : List ℕ) → begins p t ≡ true → begins q t ≡ true
hits_by p q f [] h = cc
hits_by p q f (c ∷ t) h = f c h

from_not : (p q : Bool) → (p ≡ true → q ≡ true) → q ≡ false → p ≡ false
from_not true q f h = sym (f refl) ∙ h
from_not false q f h = refl

misses_by : (p q : ℕ → Bool) → ((c : ℕ) → p c ≡ true → q c ≡ true) → (t : List ℕ) → begins q t ≡ false → begins p t ≡ false
misses_by p q f [] h = refl
misses_by p q f (c ∷ t) h = from_not (p c) (q c) (f c) h

apart : (p q : ℕ → Bool) → Apart p q → (t : List ℕ) → begins q t ≡ true → begins p t ≡ false
apart p q f [] h = refl
apart p q f (c ∷ t) h = f c h

by_cases : (b : Bool) → (b ≡ true → ⊥) → b ≡ false
by_cases true f = absurd (f refl)
by_cases false f = refl

module _ {N : Type 0} (grammar : N → Rule N) (a : Ahead N) (honest : IsHonest grammar a) where
  -- what reads something begins with a first byte
  abbrev pub Starts : Rule N → List ℕ → List ℕ → Type 0
  Starts r t u = (begins (first a r) t ≡ true) ⊎ ((t ≡ u) × (nullable r ≡ true))

  pub starts : {r : Rule N} {t u : List ℕ} → Reads grammar r t u → Starts r t u
  starts no_byte = inr (refl, refl)
  starts (one_byte h) = inl h
  starts (both {r} {s} {t} {u} {v} x y) =
      elim (starts x) as (λ _. Starts (seq r s) t v) [
        | inl f ↦ inl (hits_left (first a r) (λ c. nullable r && first a s c) t f)
        | inr (e, n) ↦ elim (starts y) as (λ _. Starts (seq r s) t v) [
          | inl f ↦ inl (hits_right (first a r) (λ c. nullable r && first a s c) t (hits_under (nullable r) (first a s) t n (subst (λ z. begins (first a s) z ≡ true) (sym e) f)))
          | inr (e2, n2) ↦ inr (e ∙ e2, and_from (nullable r) (nullable s) n n2)
        ]
      ]
  starts (left {r} {s} {t} {u} x) =
      elim (starts x) as (λ _. Starts (alt r s) t u) [ inl f ↦ inl (hits_left (first a r) (first a s) t f) | inr (e, n) ↦ inr (e, or_from_left (nullable r) (nullable s) n) ]
  starts (right {r} {s} {t} {u} x) =
      elim (starts x) as (λ _. Starts (alt r s) t u) [ inl f ↦ inl (hits_right (first a r) (first a s) t f) | inr (e, n) ↦ inr (e, or_from_right (nullable r) (nullable s) n) ]
  starts no_more = inr (refl, refl)
  starts (more {r} {t} {u} {v} x y) =
      elim (starts x) as (λ _. Starts (many r) t v) [
        | inl f ↦ inl f
        | inr (e, n) ↦ elim (starts y) as (λ _. Starts (many r) t v) [
          | inl f ↦ inl (subst (λ z. begins (first a r) z ≡ true) (sym e) f)
          | inr (e2, n2) ↦ inr (e ∙ e2, refl)
        ]
      ]
  starts (by_name {n} {t} {u} x) =
      elim (starts x) as (λ _. Starts (named n) t u) [
        | inl f ↦ inl (hits_by (first a (grammar n)) (a.first_of n) (honest.firsts n) t f)
        | inr (e, z) ↦ absurd (both_ways (nullable (grammar n)) z (honest.visible n))
      ]

  -- where the reading of r ends in s's, r can't go on
  pub parted : (r s : Rule N) {t u : List ℕ} → Reads grammar s t u → Apart (more_in a r) (first a s) → begins (more_in a (seq r s)) u ≡ false → begins (more_in a r) t ≡ false
  parted r s {t} {u} y ap_ h = elim (starts y) as (λ _. begins (more_in a r) t ≡ false) [
    | inl f ↦ apart (more_in a r) (first a s) ap_ t f
    | inr (e, n) ↦ subst (λ z. begins (more_in a r) z ≡ false) (sym e)
        (misses_left (more_in a r) (first a s) u (misses_under (nullable s) (λ c. more_in a r c || first a s c) u n (misses_right (more_in a s) (λ c. nullable s && (more_in a r c || first a s c)) u h)))
  ]

  ends_second : (r s : Rule N) (u : List ℕ) → begins (more_in a (seq r s)) u ≡ false → begins (more_in a s) u ≡ false
  ends_second r s u h = misses_left (more_in a s) (λ c. nullable s && (more_in a r c || first a s c)) u h

  ends_left : (r s : Rule N) (u : List ℕ) → begins (more_in a (alt r s)) u ≡ false → begins (more_in a r) u ≡ false
  ends_left r s u h = misses_left (more_in a r) (more_in a s) u (misses_left (λ c. more_in a r c || more_in a s c) (λ c. (nullable s && first a r c) || (nullable r && first a s c)) u h)

  ends_right : (r s : Rule N) (u : List ℕ) → begins (more_in a (alt r s)) u ≡ false → begins (more_in a s) u ≡ false
  ends_right r s u h = misses_right (more_in a r) (more_in a s) u (misses_left (λ c. more_in a r c || more_in a s c) (λ c. (nullable s && first a r c) || (nullable r && first a s c)) u h)

  -- no text is read both ways
  crossed : {r s : Rule N} {t u v : List ℕ} → IsSteered a (alt r s) → Reads grammar r t u → Reads grammar s t v → begins (more_in a (alt r s)) u ≡ false → begins (more_in a (alt r s)) v ≡ false → ⊥
  crossed {r} {s} {t} {u} {v} (_, _, ap_, vis) x y hu hv = elim (starts x) as (λ _. ⊥) [
    | inl f ↦ elim (starts y) as (λ _. ⊥) [
      | inl g ↦ both_ways (begins (first a r) t) f (apart (first a r) (first a s) ap_ t g)
      | inr (e, n) ↦ both_ways (begins (first a r) v) (subst (λ z. begins (first a r) z ≡ true) e f)
          (misses_under (nullable s) (first a r) v n (misses_left (λ c. nullable s && first a r c) (λ c. nullable r && first a s c) v
          (misses_right (λ c. more_in a r c || more_in a s c) (λ c. (nullable s && first a r c) || (nullable r && first a s c)) v hv)))
    ]
    | inr (e, n) ↦ elim (starts y) as (λ _. ⊥) [
      | inl g ↦ both_ways (begins (first a s) u) (subst (λ z. begins (first a s) z ≡ true) e g)
          (misses_under (nullable r) (first a s) u n (misses_right (λ c. nullable s && first a r c) (λ c. nullable r && first a s c) u
          (misses_right (λ c. more_in a r c || more_in a s c) (λ c. (nullable s && first a r c) || (nullable r && first a s c)) u hu)))
      | inr (e2, n2) ↦ both_ways (nullable r && nullable s) (and_from (nullable r) (nullable s) n n2) vis
    ]
  ]

  -- a round of a repetition begins with a first byte
  round_starts : {r : Rule N} {t u : List ℕ} → Reads grammar r t u → nullable r ≡ false → begins (first a r) t ≡ true
  round_starts {r} {t} x vis = elim (starts x) as (λ _. begins (first a r) t ≡ true) [ inl f ↦ f | inr (e, n) ↦ absurd (both_ways (nullable r) n vis) ]

  -- where the next rounds begin, the round before can't go on
  parted_round : (r : Rule N) {t u : List ℕ} → Reads grammar (many r) t u → Apart (more_in a r) (first a r) → begins (more_in a (many r)) u ≡ false → begins (more_in a r) t ≡ false
  parted_round r {t} {u} y ap_ h = elim (starts y) as (λ _. begins (more_in a r) t ≡ false) [
    | inl f ↦ apart (more_in a r) (first a r) ap_ t f
    | inr (e, n) ↦ subst (λ z. begins (more_in a r) z ≡ false) (sym e) (misses_left (more_in a r) (first a r) u h)
  ]

  ends_named : (n : N) (u : List ℕ) → begins (a.more_of n) u ≡ false → begins (more_in a (grammar n)) u ≡ false
  ends_named n u h = misses_by (more_in a (grammar n)) (a.more_of n) (honest.mores n) u h

  pub reads : {rule : Rule N} {t u : List ℕ} → Steers grammar a rule t u → Reads grammar rule t u
  reads on_empty = no_byte
  reads (on_byte h) = one_byte h
  reads (on_both x y) = both (reads x) (reads y)
  reads (on_left h x) = left (reads x)
  reads (on_right h x) = right (reads x)
  reads (on_end h) = no_more
  reads (on_more x y) = more (reads x) (reads y)
  reads (on_name x) = by_name (reads x)

  not_empty_way : (r s : Rule N) (v : List ℕ) → begins (more_in a (alt r s)) v ≡ false → nullable s ≡ true → begins (first a r) v ≡ false
  not_empty_way r s v h n = misses_under (nullable s) (first a r) v n (misses_left (λ c. nullable s && first a r c) (λ c. nullable r && first a s c) v
      (misses_right (λ c. more_in a r c || more_in a s c) (λ c. (nullable s && first a r c) || (nullable r && first a s c)) v h))

  not_empty_way_2 : (r s : Rule N) (v : List ℕ) → begins (more_in a (alt r s)) v ≡ false → nullable r ≡ true → begins (first a s) v ≡ false
  not_empty_way_2 r s v h n = misses_under (nullable r) (first a s) v n (misses_right (λ c. nullable s && first a r c) (λ c. nullable r && first a s c) v
      (misses_right (λ c. more_in a r c || more_in a s c) (λ c. (nullable s && first a r c) || (nullable r && first a s c)) v h))

  empty_both : (r s : Rule N) (t : List ℕ) → Starts r t t → begins (first a r) t ≡ false → nullable s ≡ true → (nullable r && nullable s) ≡ false → ⊥
  empty_both r s t h f n vis = elim h as (λ _. ⊥) [ inl g ↦ both_ways (begins (first a r) t) g f | inr (e, m) ↦ both_ways (nullable r && nullable s) (and_from (nullable r) (nullable s) m n) vis ]

  -- a predictive reading ends where any other ends that can't go on
  pub one_end : {rule : Rule N} {t u v : List ℕ} → Steers grammar a rule t u → Reads grammar rule t v → IsSteered a rule → begins (more_in a rule) v ≡ false → u ≡ v
  one_end on_empty no_byte st hv = refl
  one_end (on_byte h) (one_byte k) st hv = refl
  one_end {rule = seq r s} {v = v} (on_both {u = m} x y) (both {u = m2} x2 y2) (sr, ss, ap_) hv =
      let e : m ≡ m2 = one_end x x2 sr (parted r s y2 ap_ hv) in
      one_end y (subst (λ z. Reads grammar s z v) (sym e) y2) ss (ends_second r s v hv)
  one_end {rule = alt r s} {v = v} (on_left f x) (left x2) st hv = one_end x x2 st.0 (ends_left r s v hv)
  one_end {rule = alt r s} {t = t} {v = v} (on_left {u = u} f x) (right x2) (sr, ss, ap_, vis) hv = elim (starts x2) as (λ _. u ≡ v) [
    | inl g ↦ absurd (both_ways (begins (first a s) t) g f)
    | inr (e, n) ↦ elim (starts (reads x)) as (λ _. u ≡ v) [
      | inl g ↦ absurd (both_ways (begins (first a r) v) (subst (λ z. begins (first a r) z ≡ true) e g) (not_empty_way r s v hv n))
      | inr (e2, m) ↦ absurd (both_ways (nullable r && nullable s) (and_from (nullable r) (nullable s) m n) vis)
    ]
  ]
  one_end {rule = alt r s} {t = t} {v = v} (on_right {u = u} f x) (left x2) (sr, ss, ap_, vis) hv = elim (starts x2) as (λ _. u ≡ v) [
    | inl g ↦ absurd (both_ways (begins (first a r) t) g f)
    | inr (e, n) ↦ elim (starts (reads x)) as (λ _. u ≡ v) [
      | inl g ↦ absurd (both_ways (begins (first a s) v) (subst (λ z. begins (first a s) z ≡ true) e g) (not_empty_way_2 r s v hv n))
      | inr (e2, m) ↦ absurd (both_ways (nullable r && nullable s) (and_from (nullable r) (nullable s) n m) vis)
    ]
  ]
  one_end {rule = alt r s} {v = v} (on_right f x) (right x2) st hv = one_end x x2 st.1 (ends_right r s v hv)
  one_end (on_end f) no_more st hv = refl
  one_end {rule = many r} {t = t} (on_end f) (more x2 y2) (sr, ap_, vis) hv = absurd (both_ways (begins (first a r) t) (round_starts x2 vis) f)
  one_end {rule = many r} {v = v} (on_more x y) no_more (sr, ap_, vis) hv =
      absurd (both_ways (begins (first a r) v) (round_starts (reads x) vis) (misses_right (more_in a r) (first a r) v hv))
  one_end {rule = many r} {v = v} (on_more {u = m} x y) (more {u = m2} x2 y2) (sr, ap_, vis) hv =
      let e : m ≡ m2 = one_end x x2 sr (parted_round r y2 ap_ hv) in
      one_end y (subst (λ z. Reads grammar (many r) z v) (sym e) y2) (sr, ap_, vis) hv
  one_end {rule = named n} {v = v} (on_name x) (by_name x2) st hv = one_end x x2 (honest.steered n) (ends_named n v hv)

  -- where reading gets stuck nothing is read
  pub stuck_not : {rule : Rule N} {t u v : List ℕ} → Stuck grammar a rule t u → Reads grammar rule t v → IsSteered a rule → begins (more_in a rule) v ≡ false → ⊥
  stuck_not (at_byte f) (one_byte {low} {high} {c} h) st hv = both_ways (within low high c) h f
  stuck_not {rule = seq r s} {v = v} (at_first k) (both x y) (sr, ss, ap_) hv = stuck_not k x sr (parted r s y ap_ hv)
  stuck_not {rule = seq r s} {v = v} (at_second {u = m} x k) (both {u = m2} x2 y2) (sr, ss, ap_) hv =
      let e : m ≡ m2 = one_end x x2 sr (parted r s y2 ap_ hv) in
      stuck_not k (subst (λ z. Reads grammar s z v) (sym e) y2) ss (ends_second r s v hv)
  stuck_not {rule = alt r s} {v = v} (at_left f k) (left x) st hv = stuck_not k x st.0 (ends_left r s v hv)
  stuck_not {rule = alt r s} {t = t} {v = v} (at_left f k) (right x) (sr, ss, ap_, vis) hv = elim (starts x) as (λ _. ⊥) [
    | inl g ↦ both_ways (begins (first a r) t) f (apart (first a r) (first a s) ap_ t g)
    | inr (e, n) ↦ both_ways (begins (first a r) v) (subst (λ z. begins (first a r) z ≡ true) e f) (not_empty_way r s v hv n)
  ]
  stuck_not {rule = alt r s} {t = t} {v = v} (at_right f k) (left x) (sr, ss, ap_, vis) hv = elim (starts x) as (λ _. ⊥) [
    | inl g ↦ both_ways (begins (first a r) t) g (apart (first a r) (first a s) ap_ t f)
    | inr (e, n) ↦ both_ways (begins (first a s) v) (subst (λ z. begins (first a s) z ≡ true) e f) (not_empty_way_2 r s v hv n)
  ]
  stuck_not {rule = alt r s} {v = v} (at_right f k) (right x) st hv = stuck_not k x st.1 (ends_right r s v hv)
  stuck_not {rule = alt r s} {v = v} (only_left f n k) (left x) st hv = stuck_not k x st.0 (ends_left r s v hv)
  stuck_not {rule = alt r s} {t = t} (only_left f n k) (right x) st hv = elim (starts x) as (λ _. ⊥) [ inl h ↦ both_ways (begins (first a s) t) h f | inr (e, z) ↦ both_ways (nullable s) z n ]
  stuck_not {rule = alt r s} {v = v} (only_right f n k) (right x) st hv = stuck_not k x st.1 (ends_right r s v hv)
  stuck_not {rule = alt r s} {t = t} (only_right f n k) (left x) st hv = elim (starts x) as (λ _. ⊥) [ inl h ↦ both_ways (begins (first a r) t) h f | inr (e, z) ↦ both_ways (nullable r) z n ]
  stuck_not {rule = alt r s} {t = t} (at_neither f g n m) (left x) st hv = elim (starts x) as (λ _. ⊥) [ inl h ↦ both_ways (begins (first a r) t) h f | inr (e, z) ↦ both_ways (nullable r) z n ]
  stuck_not {rule = alt r s} {t = t} (at_neither f g n m) (right x) st hv = elim (starts x) as (λ _. ⊥) [ inl h ↦ both_ways (begins (first a s) t) h g | inr (e, z) ↦ both_ways (nullable s) z m ]
  stuck_not {rule = many r} {v = v} (at_round f k) no_more st hv = both_ways (begins (first a r) v) f (misses_right (more_in a r) (first a r) v hv)
  stuck_not {rule = many r} {v = v} (at_round f k) (more x y) (sr, ap_, vis) hv = stuck_not k x sr (parted_round r y ap_ hv)
  stuck_not {rule = many r} {v = v} (at_later x k) no_more (sr, ap_, vis) hv = both_ways (begins (first a r) v) (round_starts (reads x) vis) (misses_right (more_in a r) (first a r) v hv)
  stuck_not {rule = many r} {v = v} (at_later {u = m} x k) (more {u = m2} x2 y2) (sr, ap_, vis) hv =
      let e : m ≡ m2 = one_end x x2 sr (parted_round r y2 ap_ hv) in
      stuck_not k (subst (λ z. Reads grammar (many r) z v) (sym e) y2) (sr, ap_, vis) hv
  stuck_not {rule = named n} {v = v} (at_named k) (by_name x) st hv = stuck_not k x (honest.steered n) (ends_named n v hv)

  pub alike_behind : (f u x : List ℕ) → Alike u x → Alike (f ++ u) (f ++ x)
  alike_behind [] u x h = h
  alike_behind (c ∷ f) u x h = λ p. refl

  -- what a test says of the first byte of t ≡ f ++ u it says of that of f ++ x
  still : (t f u x : List ℕ) {b : Bool} (p : ℕ → Bool) → t ≡ f ++ u → Alike u x → begins p t ≡ b → begins p (f ++ x) ≡ b
  still t f u x p e h k = sym (alike_behind f u x h p) ∙ sym (ap (begins p) e) ∙ k

  further : (m g u x : List ℕ) → m ≡ g ++ u → Alike u x → Alike m (g ++ x)
  further m g u x e h p = ap (begins p) e ∙ alike_behind g u x h p

  joined_up : (t m f g u : List ℕ) → t ≡ f ++ m → m ≡ g ++ u → t ≡ (f ++ g) ++ u
  joined_up t m f g u e e2 = e ∙ ap (λ z. f ++ z) e2 ∙ sym (append_assoc f g u)

  -- what was read, that it is read whatever follows, and so steered wherever the same byte follows
  abbrev pub Moves : Rule N → List ℕ → List ℕ → Type 0
  Moves r t u = (f : List ℕ) × (t ≡ f ++ u) × ((x : List ℕ) → Reads grammar r (f ++ x) x) × ((x : List ℕ) → Alike u x → Steers grammar a r (f ++ x) x)

  pub moves : {rule : Rule N} {t u : List ℕ} → Steers grammar a rule t u → Moves rule t u
  moves on_empty = ([], refl, λ x. no_byte, λ x h. on_empty)
  moves (on_byte {c = c} k) = (c ∷ [], refl, λ x. one_byte k, λ x h. on_byte k)
  moves {rule = seq r s} {t = t} {u = v} (on_both {u = m} x y) = let (f, e, fr, fx) = moves x in let (g, e2, gr, gx) = moves y in (
    f ++ g,
    joined_up t m f g v e e2,
    λ z. both (rw append_assoc (fr (g ++ z))) (gr z),
    λ z h. on_both {u = g ++ z} (rw append_assoc (fx (g ++ z) (further m g v z e2 h))) (gx z h),
  )
  moves {rule = alt r s} {t = t} {u = u} (on_left k x) = let (f, e, fr, fx) = moves x in (f, e, λ z. left (fr z), λ z h. on_left (still t f u z (first a s) e h k) (fx z h))
  moves {rule = alt r s} {t = t} {u = u} (on_right k x) = let (f, e, fr, fx) = moves x in (f, e, λ z. right (fr z), λ z h. on_right (still t f u z (first a r) e h k) (fx z h))
  moves {rule = many r} (on_end k) = ([], refl, λ x. no_more, λ x h. on_end (sym (h (first a r)) ∙ k))
  moves {rule = many r} {t = t} {u = v} (on_more {u = m} x y) = let (f, e, fr, fx) = moves x in let (g, e2, gr, gx) = moves y in (
    f ++ g,
    joined_up t m f g v e e2,
    λ z. more (rw append_assoc (fr (g ++ z))) (gr z),
    λ z h. on_more {u = g ++ z} (rw append_assoc (fx (g ++ z) (further m g v z e2 h))) (gx z h),
  )
  moves (on_name x) = let (f, e, fr, fx) = moves x in (f, e, λ z. by_name (fr z), λ z h. on_name (fx z h))

  -- the viable prefix before the place where reading gets stuck, and that it gets stuck wherever the same byte follows
  abbrev pub Halts : Rule N → List ℕ → List ℕ → Type 0
  Halts r t u = (f : List ℕ) × (t ≡ f ++ u) × IsFront grammar r f × ((x : List ℕ) → Alike u x → Stuck grammar a r (f ++ x) x)

  -- a viable prefix of the rounds of a repetition, with a round before
  round_before : {r : Rule N} {t u : List ℕ} → Reads grammar r t u → IsFront grammar (many r) u → IsFront grammar (many r) t
  round_before x nothing = whole (more x no_more)
  round_before x (whole y) = whole (more x y)
  round_before x (in_next y f) = in_next (more x y) f

  pub halts : {rule : Rule N} {t u : List ℕ} → Stuck grammar a rule t u → Halts rule t u
  halts (at_byte {low} {high} f) = ([], refl, nothing, λ x h. at_byte (sym (h (within low high)) ∙ f))
  halts (at_first k) = let (f, e, fr, fx) = halts k in (f, e, in_first fr, λ x h. at_first (fx x h))
  halts {rule = seq r s} {t = t} {u = v} (at_second {u = m} y k) = let (f, e, fr, fx) = moves y in let (g, e2, gr, gx) = halts k in (
    f ++ g,
    joined_up t m f g v e e2,
    in_second (fr g) gr,
    λ z h. at_second {u = g ++ z} (rw append_assoc (fx (g ++ z) (further m g v z e2 h))) (gx z h),
  )
  halts {rule = alt r s} {t = t} {u = u} (at_left b k) = let (f, e, fr, fx) = halts k in (f, e, in_left fr, λ z h. at_left (still t f u z (first a r) e h b) (fx z h))
  halts {rule = alt r s} {t = t} {u = u} (at_right b k) = let (f, e, fr, fx) = halts k in (f, e, in_right fr, λ z h. at_right (still t f u z (first a s) e h b) (fx z h))
  halts {rule = alt r s} {t = t} {u = u} (only_left b n k) = let (f, e, fr, fx) = halts k in (f, e, in_left fr, λ z h. only_left (still t f u z (first a s) e h b) n (fx z h))
  halts {rule = alt r s} {t = t} {u = u} (only_right b n k) = let (f, e, fr, fx) = halts k in (f, e, in_right fr, λ z h. only_right (still t f u z (first a r) e h b) n (fx z h))
  halts {rule = alt r s} (at_neither b c n m) = ([], refl, nothing, λ x h. at_neither (sym (h (first a r)) ∙ b) (sym (h (first a s)) ∙ c) n m)
  halts {rule = many r} {t = t} {u = u} (at_round b k) = let (f, e, fr, fx) = halts k in (f, e, in_next no_more fr, λ z h. at_round (still t f u z (first a r) e h b) (fx z h))
  halts {rule = many r} {t = t} {u = v} (at_later {u = m} y k) = let (f, e, fr, fx) = moves y in let (g, e2, gr, gx) = halts k in (
    f ++ g,
    joined_up t m f g v e e2,
    round_before (fr g) gr,
    λ z h. at_later {u = g ++ z} (rw append_assoc (fx (g ++ z) (further m g v z e2 h))) (gx z h),
  )
  halts (at_named k) = let (f, e, fr, fx) = halts k in (f, e, in_named fr, λ x h. at_named (fx x h))

  -- in a choice, what one way reads doesn't begin the other way
  not_second : (r s : Rule N) (t u : List ℕ) → Reads grammar r t u → Apart (first a r) (first a s) → (nullable r && nullable s) ≡ false → begins (more_in a (alt r s)) u ≡ false → begins (first a s) t ≡ false
  not_second r s t u x ap_ vis h = elim (starts x) as (λ _. begins (first a s) t ≡ false) [
    | inl f ↦ by_cases (begins (first a s) t) (λ g. both_ways (begins (first a r) t) f (apart (first a r) (first a s) ap_ t g))
    | inr (e, n) ↦ subst (λ z. begins (first a s) z ≡ false) (sym e) (not_empty_way_2 r s u h n)
  ]

  not_first : (r s : Rule N) (t u : List ℕ) → Reads grammar s t u → Apart (first a r) (first a s) → begins (more_in a (alt r s)) u ≡ false → begins (first a r) t ≡ false
  not_first r s t u x ap_ h = elim (starts x) as (λ _. begins (first a r) t ≡ false) [
    | inl f ↦ apart (first a r) (first a s) ap_ t f
    | inr (e, n) ↦ subst (λ z. begins (first a r) z ≡ false) (sym e) (not_empty_way r s u h n)
  ]

  -- a reading that can't go on is the predictive one
  pub steered : {rule : Rule N} {t u : List ℕ} → Reads grammar rule t u → IsSteered a rule → begins (more_in a rule) u ≡ false → Steers grammar a rule t u
  steered no_byte st h = on_empty
  steered (one_byte k) st h = on_byte k
  steered {rule = seq r s} {u = u} (both x y) (sr, ss, ap_) h = on_both (steered x sr (parted r s y ap_ h)) (steered y ss (ends_second r s u h))
  steered {rule = alt r s} {t = t} {u = u} (left x) (sr, ss, ap_, vis) h = on_left (not_second r s t u x ap_ vis h) (steered x sr (ends_left r s u h))
  steered {rule = alt r s} {t = t} {u = u} (right x) (sr, ss, ap_, vis) h = on_right (not_first r s t u x ap_ h) (steered x ss (ends_right r s u h))
  steered {rule = many r} {u = u} no_more st h = on_end (misses_right (more_in a r) (first a r) u h)
  steered {rule = many r} {u = u} (more x y) (sr, ap_, vis) h = on_more (steered x sr (parted_round r y ap_ h)) (steered y (sr, ap_, vis) h)
  steered {rule = named n} {u = u} (by_name x) st h = on_name (steered x (honest.steered n) (ends_named n u h))

  -- two readings that can't go on have one end
  pub same_end : {rule : Rule N} {t u v : List ℕ} → Reads grammar rule t u → Reads grammar rule t v → IsSteered a rule → begins (more_in a rule) u ≡ false → begins (more_in a rule) v ≡ false → u ≡ v
  same_end x y st hu hv = one_end (steered x st hu) y st hv
