-- Sets of sources, as a node is added to some and taken away from others.
use Rattle.std.proofs.Common.{◌≡◌, ℕ, zero, suc, ◌+◌, ◌<◌, Bool, true, false, cond, not, ◌||◌, ◌&&◌, List, [], ◌∷◌, ◌++◌, inl, inr, refl, sym, ap, ◌∙◌, subst, length, get_or, set, take, arith, nat_eq}
use Rattle.std.specs.List.{list_any}
use Rattle.std.specs.Ordering.{nat_cmp}
use Rattle.std.specs.BTreeMap.{is_at}
use Rattle.std.specs.BTreeSet.{BTreeSet, contains}
use Rattle.std.proofs.lemmas.Bool.{cases_eq, eq-eqb}
use Rattle.std.proofs.lemmas.Bool.Decides.{nat_tests}
use Rattle.std.proofs.lemmas.List.Folds.{list_any_more}
use Rattle.ref_graph.specs.Edges.{is_in, has_source, IsAdded, IsRemoved}

-- the set at a place that was written
has_same : (ss : List (BTreeSet ℕ)) (w : ℕ) (n : BTreeSet ℕ) (v : ℕ) → w < length ss → has_source (set ss w n) w v ≡ contains nat_cmp n v
has_same [] w n v h = absurd (omega arith)
has_same (s ∷ ss) zero n v h = refl
has_same (s ∷ ss) (suc w) n v h = has_same ss w n v (omega arith)

has_other : (ss : List (BTreeSet ℕ)) (w u : ℕ) (n : BTreeSet ℕ) (v : ℕ) → (u ≡ w → ⊥) → has_source (set ss w n) u v ≡ has_source ss u v
has_other [] w u n v ne = refl
has_other (s ∷ ss) zero zero n v ne = absurd (ne refl)
has_other (s ∷ ss) zero (suc u) n v ne = refl
has_other (s ∷ ss) (suc w) zero n v ne = refl
has_other (s ∷ ss) (suc w) (suc u) n v ne = has_other ss w u n v (λ e. ne (ap suc e))

-- the set that was read
pub has_read : (ss : List (BTreeSet ℕ)) (w : ℕ) (s : BTreeSet ℕ) (v : ℕ) → w < length ss → s ≡ get_or ss w s → has_source ss w v ≡ contains nat_cmp s v
has_read [] w s v h e = absurd (omega arith)
has_read (t ∷ ss) zero s v h e = ap (λ (x : BTreeSet ℕ). contains nat_cmp x v) (sym e)
has_read (t ∷ ss) (suc w) s v h e = has_read ss w s v (omega arith) e

pub has_push : (ss : List (BTreeSet ℕ)) (s : BTreeSet ℕ) → ((w v : ℕ) → has_source ss w v ≡ false) → ((v : ℕ) → contains nat_cmp s v ≡ false) → (w v : ℕ) → has_source (ss ++ s ∷ []) w v ≡ false
has_push [] s h e zero v = e v
has_push [] s h e (suc w) v = refl
has_push (t ∷ ss) s h e zero v = h zero v
has_push (t ∷ ss) s h e (suc w) v = has_push ss s (λ u x. h (suc u) x) e w v

pub at_eq : (a b : ℕ) → is_at (nat_cmp a) b ≡ nat_eq b a
at_eq a b = grind (arith, nat_tests)

pub eq_self : (a : ℕ) → nat_eq a a ≡ true
eq_self a = eq-eqb a a refl

pub neq : (a b : ℕ) → (a ≡ b → ⊥) → nat_eq a b ≡ false
neq a b ne = grind (arith, nat_tests)

-- whether a list has a number, asked the other way round
pub asked : (xs : List ℕ) (x : ℕ) → list_any (λ y. nat_eq y x) xs ≡ is_in xs x
asked [] x = refl
asked (y ∷ xs) x = ap (λ (b : Bool). b || list_any (λ z. nat_eq z x) xs) (turned y x) ∙ ap (λ (b : Bool). nat_eq x y || b) (asked xs x)
  where
    turned : (a b : ℕ) → nat_eq a b ≡ nat_eq b a
    turned a b = grind (arith, nat_tests)

more_in : (xs : List ℕ) (i w : ℕ) → i < length xs → is_in (take (i + 1) xs) w ≡ (is_in (take i xs) w || nat_eq w (get_or xs i 0))
more_in xs i w h = list_any_more (nat_eq w) xs i 0 h

pub in_front : (xs : List ℕ) (k w : ℕ) → is_in (take k xs) w ≡ true → is_in xs w ≡ true
in_front [] zero w e = e
in_front [] (suc k) w e = e
in_front (x ∷ xs) zero w e = absurd (cc)
in_front (x ∷ xs) (suc k) w e = step (nat_eq w x) (is_in (take k xs) w) (is_in xs w) (in_front xs k w) e
  where
    step : (a b c : Bool) → (b ≡ true → c ≡ true) → (a || b) ≡ true → (a || c) ≡ true
    step true b c f h = refl
    step false b c f h = f h

grown : (e h k : Bool) → cond e true (h || (e && k)) ≡ (h || (e && (k || true)))
grown true true true = refl
grown true true false = refl
grown true false true = refl
grown true false false = refl
grown false true true = refl
grown false true false = refl
grown false false true = refl
grown false false false = refl

or_false : (b : Bool) → b ≡ (b || false)
or_false true = refl
or_false false = refl

module _ (old ss : List (BTreeSet ℕ)) (node : ℕ) (targets : List ℕ) (i : ℕ) (s n : BTreeSet ℕ) where
  -- one more target
  pub add_more : i < length targets → get_or targets i 0 < length ss → s ≡ get_or ss (get_or targets i 0) s
      → ((q : ℕ) → contains nat_cmp n q ≡ cond (is_at (nat_cmp node) q) true (contains nat_cmp s q))
      → IsAdded old ss node (take i targets) → IsAdded old (set ss (get_or targets i 0) n) node (take (i + 1) targets)
  add_more less within read update added w v =
      let t = get_or targets i 0 in
      elim (cases_eq w t) [
        | inl p ↦ subst (λ (x : ℕ). has_source (set ss t n) x v ≡ (has_source old x v || (nat_eq v node && is_in (take (i + 1) targets) x))) (sym p)
            (has_same ss t n v within
            ∙ (update v
            ∙ (ap (λ (b : Bool). cond b true (contains nat_cmp s v)) (at_eq node v)
            ∙ (ap (λ (b : Bool). cond (nat_eq v node) true b) (sym (has_read ss t s v within read) ∙ added t v)
            ∙ (grown (nat_eq v node) (has_source old t v) (is_in (take i targets) t)
            ∙ (ap (λ (b : Bool). has_source old t v || (nat_eq v node && (is_in (take i targets) t || b))) (sym (eq_self t))
            ∙ ap (λ (b : Bool). has_source old t v || (nat_eq v node && b)) (sym (more_in targets i t less))))))))
        | inr q ↦ has_other ss t w n v q
            ∙ (added w v
            ∙ (ap (λ (b : Bool). has_source old w v || (nat_eq v node && b)) (or_false (is_in (take i targets) w) ∙ ap (λ (b : Bool). is_in (take i targets) w || b) (sym (neq w t q)))
            ∙ ap (λ (b : Bool). has_source old w v || (nat_eq v node && b)) (sym (more_in targets i w less))))
      ]

-- the set of the first items, and one more
pub set_more : (xs : List ℕ) (i : ℕ) (s n : BTreeSet ℕ) → i < length xs → ((q : ℕ) → contains nat_cmp n q ≡ cond (is_at (nat_cmp (get_or xs i 0)) q) true (contains nat_cmp s q))
    → ((q : ℕ) → contains nat_cmp s q ≡ is_in (take i xs) q) → (q : ℕ) → contains nat_cmp n q ≡ is_in (take (i + 1) xs) q
set_more xs i s n less update so_far q =
    update q
    ∙ (ap (λ (b : Bool). cond b true (contains nat_cmp s q)) (at_eq (get_or xs i 0) q)
    ∙ (ap (λ (b : Bool). cond (nat_eq q (get_or xs i 0)) true b) (so_far q)
    ∙ (turned (nat_eq q (get_or xs i 0)) (is_in (take i xs) q) ∙ sym (more_in xs i q less))))
  where
    turned : (e k : Bool) → cond e true k ≡ (k || e)
    turned true true = refl
    turned true false = refl
    turned false true = refl
    turned false false = refl

-- a target that is not kept
pub taken_away : (ss : List (BTreeSet ℕ)) (node target : ℕ) (is_kept : Bool) (s n : BTreeSet ℕ) → is_kept ≡ false → target < length ss → s ≡ get_or ss target s
    → ((q : ℕ) → contains nat_cmp n q ≡ cond (is_at (nat_cmp node) q) false (contains nat_cmp s q)) → IsRemoved ss (set ss target n) node (target ∷ []) (λ _. is_kept)
taken_away ss node target is_kept s n is within read update w v =
    elim (cases_eq w target) [
      | inl p ↦ subst (λ (x : ℕ). has_source (set ss target n) x v ≡ (has_source ss x v && not (nat_eq v node && ((nat_eq x target || false) && not is_kept)))) (sym p)
          (has_same ss target n v within
          ∙ (update v
          ∙ (ap (λ (b : Bool). cond b false (contains nat_cmp s v)) (at_eq node v)
          ∙ (ap (λ (b : Bool). cond (nat_eq v node) false b) (sym (has_read ss target s v within read))
          ∙ (gone (nat_eq v node) (has_source ss target v)
          ∙ (ap (λ (b : Bool). has_source ss target v && not (nat_eq v node && ((true || false) && not b))) (sym is)
          ∙ ap (λ (b : Bool). has_source ss target v && not (nat_eq v node && ((b || false) && not is_kept))) (sym (eq_self target))))))))
      | inr q ↦ has_other ss target w n v q
          ∙ (other (has_source ss w v) (nat_eq v node) (not is_kept)
          ∙ ap (λ (b : Bool). has_source ss w v && not (nat_eq v node && ((b || false) && not is_kept))) (sym (neq w target q)))
    ]
  where
    gone : (e h : Bool) → cond e false h ≡ (h && not (e && ((true || false) && not false)))
    gone true true = refl
    gone true false = refl
    gone false true = refl
    gone false false = refl

    other : (h e k : Bool) → h ≡ (h && not (e && ((false || false) && k)))
    other true true k = refl
    other true false k = refl
    other false true k = refl
    other false false k = refl

-- whether the one target is kept, as a test of any number
kept_there : (w t : ℕ) (kept : ℕ → Bool) (is_kept : Bool) → is_kept ≡ kept t → ((nat_eq w t || false) && not is_kept) ≡ (nat_eq w t && not (kept w))
kept_there w t kept is_kept is =
    elim (cases_eq w t) [
      | inl p ↦ subst (λ (b : Bool). ((nat_eq w t || false) && not b) ≡ (nat_eq w t && not (kept w))) (ap kept p ∙ sym is) (ap (λ (b : Bool). b && not (kept w)) (sym (or_false (nat_eq w t))))
      | inr q ↦ subst (λ (b : Bool). ((b || false) && not is_kept) ≡ (b && not (kept w))) (sym (neq w t q)) refl
    ]

module _ (old ss new : List (BTreeSet ℕ)) (node : ℕ) (targets : List ℕ) (i : ℕ) (kept : ℕ → Bool) (is_kept : Bool) where
  -- one more target that is not kept
  pub removed_more : i < length targets → is_kept ≡ kept (get_or targets i 0) → IsRemoved old ss node (take i targets) kept
      → IsRemoved ss new node (get_or targets i 0 ∷ []) (λ _. is_kept) → IsRemoved old new node (take (i + 1) targets) kept
  removed_more less is removed last w v =
      let t = get_or targets i 0 in
      last w v
      ∙ (ap (λ (b : Bool). b && not (nat_eq v node && ((nat_eq w t || false) && not is_kept))) (removed w v)
      ∙ (ap (λ (b : Bool). (has_source old w v && not (nat_eq v node && (is_in (take i targets) w && not (kept w)))) && not (nat_eq v node && b)) (kept_there w (get_or targets i 0) kept is_kept is)
      ∙ (joined (has_source old w v) (nat_eq v node) (is_in (take i targets) w) (nat_eq w t) (kept w)
      ∙ ap (λ (b : Bool). has_source old w v && not (nat_eq v node && (b && not (kept w)))) (sym (more_in targets i w less)))))
    where
      joined : (h e m q k : Bool) → ((h && not (e && (m && not k))) && not (e && (q && not k))) ≡ (h && not (e && ((m || q) && not k)))
      joined false e m q k = refl
      joined true false m q k = refl
      joined true true false q k = refl
      joined true true true true true = refl
      joined true true true true false = refl
      joined true true true false true = refl
      joined true true true false false = refl

module _ (old mid new : List (BTreeSet ℕ)) (node : ℕ) (before after : List ℕ) where
  -- the first targets were added, and then those taken away that were not there before
  pub restored : (k : ℕ) → ((w : ℕ) → has_source old w node ≡ is_in before w)
      → IsAdded old mid node (take k after) → IsRemoved mid new node after (is_in before) → (w v : ℕ) → has_source new w v ≡ has_source old w v
  restored k source added removed w v =
      elim (cases_eq v node) [
        | inl p ↦ subst (λ (x : ℕ). has_source new w x ≡ has_source old w x) (sym p)
            (removed w node
            ∙ (ap (λ (b : Bool). b && not (nat_eq node node && (is_in after w && not (is_in before w)))) (added w node ∙ ap (λ (b : Bool). b || (nat_eq node node && is_in (take k after) w)) (source w))
            ∙ (ap (λ (b : Bool). (is_in before w || (b && is_in (take k after) w)) && not (b && (is_in after w && not (is_in before w)))) (eq_self node)
            ∙ (at_node (is_in before w) (is_in (take k after) w) (is_in after w) (in_front after k w) ∙ sym (source w)))))
        | inr q ↦ removed w v
            ∙ (ap (λ (b : Bool). b && not (nat_eq v node && (is_in after w && not (is_in before w)))) (added w v)
            ∙ (ap (λ (b : Bool). (has_source old w v || (b && is_in (take k after) w)) && not (b && (is_in after w && not (is_in before w)))) (neq v node q)
            ∙ elsewhere (has_source old w v)))
      ]
    where
      at_node : (b f t : Bool) → (f ≡ true → t ≡ true) → ((b || (true && f)) && not (true && (t && not b))) ≡ b
      at_node true true true h = refl
      at_node true true false h = refl
      at_node true false true h = refl
      at_node true false false h = refl
      at_node false true true h = refl
      at_node false true false h = absurd (let e : false ≡ true = h refl in cc)
      at_node false false true h = refl
      at_node false false false h = refl

      elsewhere : (h : Bool) → ((h || false) && not false) ≡ h
      elsewhere true = refl
      elsewhere false = refl

-- a set that was written back with the keys that it had
pub unchanged : (ss : List (BTreeSet ℕ)) (t : ℕ) (s n : BTreeSet ℕ) → t < length ss → s ≡ get_or ss t s → n.keys ≡ s.keys → (w v : ℕ) → has_source (set ss t n) w v ≡ has_source ss w v
unchanged ss t s n within read same w v =
    elim (cases_eq w t) [
      | inl p ↦ subst (λ (x : ℕ). has_source (set ss t n) x v ≡ has_source ss x v) (sym p)
          (has_same ss t n v within ∙ (ap (λ (ks : List ℕ). list_any (is_at (nat_cmp v)) ks) same ∙ sym (has_read ss t s v within read)))
      | inr q ↦ has_other ss t w n v q
    ]
