-- Whether a path is reached is decided: the paths from which a change is reached by so many references are more and more,
-- until they stay the same.
use Rattle.std.proofs.Common.{◌≡◌, ◌⊎◌, inl, inr, ℕ, zero, suc, ◌+◌, ◌<◌, ◌≤◌, Bool, true, false, ◌||◌, List, [], ◌∷◌, length, Option, Some, None, refl, sym, ap, subst, ◌∙◌, arith}
use Rattle.std.proofs.lemmas.Cmp.{lists_total}
use Rattle.std.specs.Cmp.Lexicographic.{nat_list_cmp_total}
use Rattle.std.specs.FinMap as finite
use Rattle.std.specs.FinMap.{nat_cmp-IsAntisymmetric, slice_cmp-IsAntisymmetric}
use Rattle.std.specs.List.{list_any}
use Rattle.ring.specs.Lists.{In}
use Rattle.group_inherit.specs.Flattening.{Flattened}
use Rattle.group_inherit.specs.Flattening.{TokenAt}
use Rattle.alias_ref.specs.Laws.{Flat}
use Rattle.alias_ref.specs.Refs.{refs_of}
use Rattle.alias_ref.specs.Unchanged.{Reaches, at_start, by_reference}
use Rattle.token_cells.specs.Cell.{TokenPath}
use Rattle.tree_changes.specs.Reached.{is_changed, IsReached}
use Rattle.rebuild_core.proofs.Decided.{Decided, is_true, by_way}
use Rattle.tree_changes.proofs.MapEntries.{entry_there}
use Rattle.tree_changes.proofs.Walks.{begun}

-- Tests over lists.

or_left : (a b : Bool) → a ≡ true → (a || b) ≡ true
or_left true b e = refl
or_left false b e = cc

or_right : (a b : Bool) → b ≡ true → (a || b) ≡ true
or_right true b e = refl
or_right false b e = e

or_cases : (a b : Bool) → (a || b) ≡ true → (a ≡ true) ⊎ (b ≡ true)
or_cases true b e = inl refl
or_cases false b e = inr e

module _ {X : Type 0} where
  any_of : (test : X → Bool) (xs : List X) (x : X) → In x xs → test x ≡ true → list_any test xs ≡ true
  any_of test [] x i e = absurd i
  any_of test (y ∷ ys) x (inl is) e = or_left (test y) (list_any test ys) (ap test (sym is) ∙ e)
  any_of test (y ∷ ys) x (inr i) e = or_right (test y) (list_any test ys) (any_of test ys x i e)

  of_any : (test : X → Bool) (xs : List X) → list_any test xs ≡ true → (x : X) × In x xs × (test x ≡ true)
  of_any test [] e = absurd (cc)
  of_any test (y ∷ ys) e = go (of_any test ys) (or_cases (test y) (list_any test ys) e)
    where
      go : (list_any test ys ≡ true → (x : X) × In x ys × (test x ≡ true)) → (test y ≡ true) ⊎ (list_any test ys ≡ true)
          → (x : X) × In x (y ∷ ys) × (test x ≡ true)
      go rest (inl here) = (y, inl refl, here)
      go rest (inr later) = let (x, i, t) = rest later in (x, inr i, t)

  how_many : (X → Bool) → List X → ℕ
  how_many test [] = 0
  how_many test (x ∷ xs) = elim (test x) as (λ b. ℕ) [ true ↦ suc (how_many test xs) | false ↦ how_many test xs ]

  -- what one test holds of, the other does too
  Grows : (X → Bool) → (X → Bool) → Type 0
  Grows f g = (x : X) → f x ≡ true → g x ≡ true

  -- both hold of the same
  Agree : (X → Bool) → (X → Bool) → List X → Type 0
  Agree f g xs = (x : X) → In x xs → f x ≡ g x

  counted : (test : X → Bool) (x : X) (xs : List X) (b : Bool) → test x ≡ b
      → how_many test (x ∷ xs) ≡ elim b as (λ c. ℕ) [ true ↦ suc (how_many test xs) | false ↦ how_many test xs ]
  unfolding how_many
  counted test x xs b e = ap (λ c. elim c as (λ d. ℕ) [ true ↦ suc (how_many test xs) | false ↦ how_many test xs ]) e

  within : (test : X → Bool) (xs : List X) → how_many test xs ≤ length xs
  unfolding how_many
  within test [] = omega arith
  within test (x ∷ xs) = go (within test xs) (test x) refl
    where
      go : how_many test xs ≤ length xs → (b : Bool) → test x ≡ b → how_many test (x ∷ xs) ≤ length (x ∷ xs)
      go rest true e = omega (arith, counted test x xs true e, rest)
      go rest false e = omega (arith, counted test x xs false e, rest)

  module _ (f g : X → Bool) (grows : Grows f g) where
    no_fewer : (xs : List X) → how_many f xs ≤ how_many g xs
    unfolding how_many Grows
    no_fewer [] = omega arith
    no_fewer (x ∷ xs) = go (no_fewer xs) (f x) (g x) refl refl
      where
        go : how_many f xs ≤ how_many g xs → (a b : Bool) → f x ≡ a → g x ≡ b → how_many f (x ∷ xs) ≤ how_many g (x ∷ xs)
        go rest true true d e = omega (arith, counted f x xs true d, counted g x xs true e, rest)
        go rest true false d e = let h : true ≡ false = sym (grows x d) ∙ e in absurd (cc)
        go rest false true d e = omega (arith, counted f x xs false d, counted g x xs true e, rest)
        go rest false false d e = omega (arith, counted f x xs false d, counted g x xs false e, rest)

    -- the other holds of the same, or of more
    same_or_more : (xs : List X) → Agree f g xs ⊎ (how_many f xs < how_many g xs)
    unfolding how_many Grows Agree
    same_or_more [] = inl (λ x i. absurd i)
    same_or_more (x ∷ xs) = go (f x) (g x) refl refl (same_or_more xs)
      where
        both : f x ≡ g x → Agree f g xs → Agree f g (x ∷ xs)
        both e rest y (inl is) = subst (λ z. f z ≡ g z) (sym is) e
        both e rest y (inr i) = rest y i

        go : (a b : Bool) → f x ≡ a → g x ≡ b → Agree f g xs ⊎ (how_many f xs < how_many g xs)
            → Agree f g (x ∷ xs) ⊎ (how_many f (x ∷ xs) < how_many g (x ∷ xs))
        go true true d e (inl same) = inl (both (d ∙ sym e) same)
        go true true d e (inr less) = inr (omega (arith, counted f x xs true d, counted g x xs true e, less))
        go true false d e rest = let h : true ≡ false = sym (grows x d) ∙ e in absurd (cc)
        go false true d e rest = inr (omega (arith, counted f x xs false d, counted g x xs true e, no_fewer xs))
        go false false d e (inl same) = inl (both (d ∙ sym e) same)
        go false false d e (inr less) = inr (omega (arith, counted f x xs false d, counted g x xs false e, less))

module _ (old new : Flat) where
  abbrev refs_by : Option Flattened → List TokenPath
  refs_by None = []
  refs_by (Some f) = refs_of f.def

  abbrev refs_at : TokenPath → List TokenPath
  refs_at path = refs_by (finite.get new path)

  -- a change is reached by at most so many references
  unfoldable is_within : ℕ → TokenPath → Bool
  is_within zero path = is_changed old new path
  is_within (suc k) path = is_changed old new path || list_any (is_within k) (refs_at path)

  reached_within : (k : ℕ) (path : TokenPath) → is_within k path ≡ true → IsReached old new path
  unfolding is_within
  reached_within zero path e = record { end = path; walk = at_start; changed = e }
  reached_within (suc k) path e =
      go (reached_within k) (or_cases (is_changed old new path) (list_any (is_within k) (refs_at path)) e)
    where
      by_next : ((q : TokenPath) → is_within k q ≡ true → IsReached old new q) → (o : Option Flattened) → finite.get new path ≡ o
          → (x : TokenPath) × In x (refs_by o) × (is_within k x ≡ true) → IsReached old new path
      by_next reached None there (x, i, t) = absurd i
      by_next reached (Some f) there (x, i, t) =
          let r = reached x t in
          record { end = r.end; walk = begun old new path x r.end f there i r.walk; changed = r.changed }

      go : ((q : TokenPath) → is_within k q ≡ true → IsReached old new q)
          → (is_changed old new path ≡ true) ⊎ (list_any (is_within k) (refs_at path) ≡ true) → IsReached old new path
      go reached (inl here) = record { end = path; walk = at_start; changed = here }
      go reached (inr later) = by_next reached (finite.get new path) refl (of_any (is_within k) (refs_at path) later)

  changed_within : (k : ℕ) (path : TokenPath) → is_changed old new path ≡ true → is_within k path ≡ true
  unfolding is_within
  changed_within zero path e = e
  changed_within (suc k) path e = or_left (is_changed old new path) (list_any (is_within k) (refs_at path)) e

  more : (k : ℕ) (path : TokenPath) → is_within k path ≡ true → is_within (suc k) path ≡ true
  unfolding is_within
  more zero path e = or_left (is_changed old new path) (list_any (is_within zero) (refs_at path)) e
  more (suc k) path e = go (more k) (or_cases (is_changed old new path) (list_any (is_within k) (refs_at path)) e)
    where
      go : ((q : TokenPath) → is_within k q ≡ true → is_within (suc k) q ≡ true) → (is_changed old new path ≡ true) ⊎ (list_any (is_within k) (refs_at path) ≡ true)
          → (is_changed old new path || list_any (is_within (suc k)) (refs_at path)) ≡ true
      go rest (inl here) = or_left (is_changed old new path) (list_any (is_within (suc k)) (refs_at path)) here
      go rest (inr later) =
          let (x, i, t) = of_any (is_within k) (refs_at path) later in
          or_right (is_changed old new path) (list_any (is_within (suc k)) (refs_at path))
          (any_of (is_within (suc k)) (refs_at path) x i (rest x t))

  -- of the tokens of the tree
  token_within : ℕ → TokenAt → Bool
  token_within k token = is_within k token.0

  -- one reference more changes nothing
  Stays : ℕ → Type 0
  Stays k = (path : TokenPath) → is_within (suc k) path ≡ is_within k path

  stays_if : (k : ℕ) → Agree (token_within k) (token_within (suc k)) (finite.entries new) → Stays k
  unfolding Agree Stays token_within is_within
  stays_if k agree path = go (finite.get new path) refl
    where
      bare : (a : Bool) → (a || false) ≡ a
      bare true = refl
      bare false = refl

      none_there : (m : ℕ) → finite.get new path ≡ None → is_within m path ≡ is_changed old new path
      none_there zero e = refl
      none_there (suc m) e =
          ap (λ o. is_changed old new path || list_any (is_within m) (refs_by o)) e ∙ bare (is_changed old new path)

      go : (o : Option Flattened) → finite.get new path ≡ o → is_within (suc k) path ≡ is_within k path
      go None e = none_there (suc k) e ∙ sym (none_there k e)
      go (Some f) e = sym (agree (path, f)
          (entry_there (lists_total nat_list_cmp_total) (slice_cmp-IsAntisymmetric (slice_cmp-IsAntisymmetric nat_cmp-IsAntisymmetric)) new path f e))

  -- with enough references it stays so
  stays_from : (fuel k : ℕ) → length (finite.entries new) < fuel + how_many (token_within k) (finite.entries new) → (m : ℕ) × Stays m
  unfolding Grows token_within
  stays_from zero k room = absurd (omega (arith, room, within (token_within k) (finite.entries new)))
  stays_from (suc fuel) k room =
      go (stays_from fuel (suc k)) (same_or_more (token_within k) (token_within (suc k)) (λ t e. more k t.0 e) (finite.entries new))
    where
      go : (length (finite.entries new) < fuel + how_many (token_within (suc k)) (finite.entries new) → (m : ℕ) × Stays m)
          → Agree (token_within k) (token_within (suc k)) (finite.entries new)
          ⊎ (how_many (token_within k) (finite.entries new) < how_many (token_within (suc k)) (finite.entries new)) → (m : ℕ) × Stays m
      go rest (inl same) = (k, stays_if k same)
      go rest (inr less) = rest (omega (arith, room, less))

  all_within : (k : ℕ) → Stays k → (path end : TokenPath) → Reaches new path end → is_within k end ≡ true → is_within k path ≡ true
  unfolding Stays is_within
  all_within k stays path end at_start e = e
  all_within k stays path end (by_reference {path = middle} {f = f} last walk at i) e =
      all_within k stays path middle walk
      (sym (stays middle) ∙ or_right (is_changed old new middle) (list_any (is_within k) (refs_at middle))
      (ap (λ o. list_any (is_within k) (refs_by o)) at ∙ any_of (is_within k) (refs_of f.def) last i e))

  pub reached_decided : (path : TokenPath) → Decided (IsReached old new path)
  reached_decided path =
      let (k, stays) = stays_from (suc (length (finite.entries new))) 0 (omega arith) in
      by_way (reached_within k path)
      (λ r. all_within k stays path r.end r.walk (changed_within k r.end r.changed)) (is_true (is_within k path))
