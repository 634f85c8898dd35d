-- Maps that are filled along the entries of another.
use Rattle.std.proofs.Common.{◌≡◌, ◌⊎◌, inl, inr, arith, ℕ, zero, suc, ◌+◌, ◌<◌, drop, length, get_or, Bool, true, false, cond, Ordering, Less, Equal, Greater, List, [], ◌∷◌, Option, Some, None, refl, sym, ap, subst, ◌∙◌}
use Rattle.std.proofs.lemmas.List.{drop_more}
use Rattle.std.specs.BTreeMap.{is_at}
use Rattle.std.specs.Cmp.{IsTotalOrder, tied_itself}
use Rattle.std.specs.FinMap as finite
use Rattle.std.specs.FinMap.{IsAntisymmetric}
use Rattle.ring.specs.Lists.{In}
use Rattle.tk_io.specs.Entries.{PutsEntry}
use Rattle.tree_changes.proofs.MapEntries.{entry_there}

tied_is : (r : Ordering) → is_at (λ (x : Ordering). x) r ≡ true → r ≡ Equal
tied_is Less e = cc
tied_is Equal e = refl
tied_is Greater e = cc

module _ {K : Type 0} {R : K → K → Ordering} (o : IsTotalOrder R) (same : IsAntisymmetric R) where
  pub at_key : (k q : K) → is_at (R k) q ≡ true → k ≡ q
  at_key k q e = same k q (tied_is (R k q) e)

  at_itself : (k : K) → is_at (R k) k ≡ true
  at_itself k = ap (is_at (λ (x : Ordering). x)) (tied_itself o k)

  -- what stands at other keys after an entry was put
  pub put_other : {V : Type 0} (old new : finite.FinMap R V) (k : K) (v : V) (q : K) → PutsEntry old new k v → is_at (R k) q ≡ false → finite.get new q ≡ finite.get old q
  put_other old new k v q puts other = puts q ∙ ap (λ b. cond b (Some v) (finite.get old q)) other

  pub put_here : {V : Type 0} (old new : finite.FinMap R V) (k : K) (v : V) → PutsEntry old new k v → finite.get new k ≡ Some v
  put_here old new k v puts = puts k ∙ ap (λ b. cond b (Some v) (finite.get old k)) (at_itself k)

module _ {K X : Type 0} {R : K → K → Ordering} (o : IsTotalOrder R) (same : IsAntisymmetric R) where
  -- at each key this holds, but maybe at those of entries that are still to come
  abbrev pub Filled : (K → Type 0) → List (K × X) → Type 0
  Filled P rest = (q : K) → ((x : X) × In {N = K × X} (q, x) rest) ⊎ P q

  pub filled_start : (m : finite.FinMap R X) (P : K → Type 0) → ((q : K) → finite.get m q ≡ None → P q) → Filled P (finite.entries m)
  filled_start m P empty q = go (finite.get m q) refl
    where
      go : (f : Option X) → finite.get m q ≡ f → ((x : X) × In {N = K × X} (q, x) (finite.entries m)) ⊎ P q
      go None e = inr (empty q e)
      go (Some x) e = inl (x, entry_there o same m q x e)

  pub filled_next : (P Q : K → Type 0) (rest : List (K × X)) (k : K) (x : X) (es : List (K × X)) → rest ≡ (k, x) ∷ es → Filled P rest → Q k
      → ((q : K) → is_at (R k) q ≡ false → P q → Q q) → Filled Q es
  filled_next P Q rest k x es is filled here keep q = go (is_at (R k) q) refl
    where
      by : is_at (R k) q ≡ false → ((y : X) × In {N = K × X} (q, y) ((k, x) ∷ es)) ⊎ P q → ((y : X) × In {N = K × X} (q, y) es) ⊎ Q q
      by other (inl (y, inl this)) =
          let key : q ≡ k = ap (λ (e : K × X). e.0) this in
          let at : true ≡ false = sym (at_itself o same k) ∙ (ap (is_at (R k)) (sym key) ∙ other) in
          absurd (cc)
      by other (inl (y, inr i)) = inl (y, i)
      by other (inr p) = inr (keep q other p)

      go : (b : Bool) → is_at (R k) q ≡ b → ((y : X) × In {N = K × X} (q, y) es) ⊎ Q q
      go true e = inr (subst Q (at_key o same k q e) here)
      go false e = by e (subst (λ (r : List (K × X)). ((y : X) × In {N = K × X} (q, y) r) ⊎ P q) is (filled q))

  pub filled_end : (P : K → Type 0) (rest : List (K × X)) → rest ≡ [] → Filled P rest → (q : K) → P q
  filled_end P rest is filled q = go (subst (λ (r : List (K × X)). ((y : X) × In {N = K × X} (q, y) r) ⊎ P q) is (filled q))
    where
      go : ((y : X) × In {N = K × X} (q, y) []) ⊎ P q → P q
      go (inl (y, i)) = absurd i
      go (inr p) = p

-- the entries from one on
pub entries_next : {E : Type 0} (items : List E) (i : ℕ) (x : E) → i < length items → x ≡ get_or items i x → drop i items ≡ x ∷ drop (i + 1) items
entries_next items i x h is = drop_more items i x h ∙ ap (λ y. y ∷ drop (i + 1) items) (sym is)

pub item_in : {E : Type 0} (items : List E) (i : ℕ) (x : E) → i < length items → x ≡ get_or items i x → In x items
item_in [] i x h is = absurd (omega (arith, h))
item_in (y ∷ items) zero x h is = inl is
item_in (y ∷ items) (suc i) x h is = inr (item_in items i x (omega (arith, h)) is)
