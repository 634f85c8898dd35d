-- Places of tokens that are reached are forgotten, and those that are left are kept.
use Rattle.std.proofs.Common.{◌≡◌, ◌≢◌, inl, inr, ℕ, zero, suc, ◌+◌, ◌<◌, List, [], ◌∷◌, ◌++◌, length, get_or, set, take, Option, Some, None, All, Contains, refl, sym, ap, subst, ◌∙◌, arith, length-set, get_or-set_same}
use Rattle.std.proofs.lemmas.Bool.{cases_eq}
use Rattle.std.proofs.lemmas.List.{take_all, take_more}
use Rattle.std.proofs.lemmas.Option.{slice_get-get_or}
use Rattle.std.specs.FinMap as finite
use Rattle.std.specs.List.{AllZip, slice_get}
use Rattle.ring.specs.Lists.{In}
use Rattle.ring.proofs.Ends.{in_cases, in_last, in_left}
use Rattle.ring.proofs.ListWords.{in_has_place, has_place_in}
use Rattle.ref_graph.specs.Walk.{WalksTo}
use Rattle.group_inherit.specs.Flattening.{TokenAt}
use Rattle.alias_ref.specs.Laws.{Flat}
use Rattle.tree_changes.specs.Named.{AllNameAs, NamesAs}
use Rattle.tree_changes.specs.declared.named.Named.{Named}
use Rattle.tree_changes.specs.Standing.{StandsAt, KeepsAt}
use Rattle.tree_changes.specs.inner.Forgetting.{IsForgotten, AreForgotten}
use Rattle.tree_changes.specs.inner.Links.{AreLinked}
use Rattle.tree_changes.proofs.LinksReach.{linked_reach, some_is}
use Rattle.tree_changes.proofs.Linking.{reached_itself}

none_some : {X : Type 0} {x : X} → None ≡ Some x → ⊥
none_some e = cc

pub none_forgotten : (places : List (Option ℕ)) → AreForgotten [] places places
none_forgotten places = record { long = refl; each = λ i. inr ((λ m. m), refl) }

pub got_other : {X : Type 0} (xs : List X) (i j : ℕ) (x : X) → i ≢ j → slice_get (set xs j x) i ≡ slice_get xs i
got_other [] i j x n = refl
got_other (y ∷ ys) zero zero x n = absurd (n refl)
got_other (y ∷ ys) zero (suc j) x n = refl
got_other (y ∷ ys) (suc i) zero x n = refl
got_other (y ∷ ys) (suc i) (suc j) x n = got_other ys i j x (λ e. n (ap suc e))

module _ (nodes : List ℕ) (node : ℕ) (old now after : List (Option ℕ)) (within : node < length old) (made : after ≡ set now node None) (so_far : AreForgotten nodes old now) where
  inside : node < length now
  inside = omega (arith, within, so_far.long)

  here : slice_get after node ≡ Some None
  here =
      ap (λ (ps : List (Option ℕ)). slice_get ps node) made
      ∙ (slice_get-get_or (set now node None) node None (omega (arith, inside, length-set now node None)) ∙ ap Some (get_or-set_same now node None None inside))

  stays : (i : ℕ) → i ≢ node → slice_get after i ≡ slice_get now i
  stays i n = ap (λ (ps : List (Option ℕ)). slice_get ps i) made ∙ got_other now i node None n

  elsewhere : (i : ℕ) → i ≢ node → IsForgotten nodes old now i → IsForgotten (nodes ++ node ∷ []) old after i
  elsewhere i n (inl (m, e)) = inl (in_left nodes (node ∷ []) i m, stays i n ∙ e)
  elsewhere i n (inr (m, e)) = inr (not_among, stays i n ∙ e)
    where
      not_among : In i (nodes ++ node ∷ []) → ⊥
      not_among k = elim (in_cases nodes (node ∷ []) i k) [ inl a ↦ m a | inr b ↦ last b ]
        where
          last : In i (node ∷ []) → ⊥
          last (inl e) = n e
          last (inr none) = none

  at_it : (i : ℕ) → i ≡ node → IsForgotten (nodes ++ node ∷ []) old after i
  at_it i e = inl (
    subst (λ (k : ℕ). In k (nodes ++ node ∷ [])) (sym e) (in_last nodes node),
    subst (λ (k : ℕ). slice_get after k ≡ Some None) (sym e) here,
  )

  one_more : AreForgotten (nodes ++ node ∷ []) old after
  one_more = record {
    long = ap (λ (ps : List (Option ℕ)). length ps) made ∙ (length-set now node None ∙ so_far.long);
    each = λ i. elim (cases_eq i node) [ inl e ↦ at_it i e | inr n ↦ elsewhere i n (so_far.each i) ];
  }

pub one_forgotten : (nodes : List ℕ) (k node : ℕ) (old now after : List (Option ℕ)) → node < length old → after ≡ set now node None → k < length nodes
    → node ≡ get_or nodes k 0 → AreForgotten (take k nodes) old now → AreForgotten (take (k + 1) nodes) old after
one_forgotten nodes k node old now after within made below is so_far =
    let more : take (k + 1) nodes ≡ take k nodes ++ node ∷ [] = take_more nodes k 0 below ∙ ap (λ x. take k nodes ++ x ∷ []) (sym is) in
    subst (λ (ns : List ℕ). AreForgotten ns old after) (sym more) (one_more (take k nodes) node old now after within made so_far)

-- Of all tokens.

by_places : {A B : Type 0} (R : A → B → Type 0) (xs : List A) (ys : List B) → length ys ≡ length xs
    → ((i : ℕ) (x : A) (y : B) → slice_get xs i ≡ Some x → slice_get ys i ≡ Some y → R x y) → AllZip R xs ys
by_places R [] [] e each = tt
by_places R [] (y ∷ ys) e each = absurd (omega (arith, e))
by_places R (x ∷ xs) [] e each = absurd (omega (arith, e))
by_places R (x ∷ xs) (y ∷ ys) e each = (each 0 x y refl refl, by_places R xs ys (omega (arith, e)) (λ i a b p q. each (suc i) a b p q))

pub at_places : {A B : Type 0} (R : A → B → Type 0) (xs : List A) (ys : List B) (i : ℕ) (x : A) (y : B) → AllZip R xs ys → slice_get xs i ≡ Some x
    → slice_get ys i ≡ Some y → R x y
at_places R [] ys i x y all e f = absurd (none_some e)
at_places R (a ∷ xs) [] i x y all e f = absurd all
at_places R (a ∷ xs) (b ∷ ys) zero x y all e f = subst (λ z. R z y) (some_is e) (subst (λ z. R a z) (some_is f) all.0)
at_places R (a ∷ xs) (b ∷ ys) (suc i) x y all e f = at_places R xs ys i x y all.1 e f

long_zip : {A B : Type 0} (R : A → B → Type 0) (xs : List A) (ys : List B) → AllZip R xs ys → length ys ≡ length xs
long_zip R [] [] all = refl
long_zip R [] (y ∷ ys) all = absurd all
long_zip R (x ∷ xs) [] all = absurd all
long_zip R (x ∷ xs) (y ∷ ys) all = ap suc (long_zip R xs ys all.1)

module _ (old new : Flat) (edges : List (List ℕ)) (begins marks : List ℕ) (places after : List (Option ℕ))
    (are : AreLinked old new (length (finite.entries new)) edges begins) (stand : AllZip (StandsAt old new) (finite.entries new) places)
    (found : (v : ℕ) → WalksTo edges begins v → Contains marks v) (only : (v : ℕ) → Contains marks v → WalksTo edges begins v)
    (forgotten : AreForgotten marks places after) where
  -- a token that is not forgotten
  kept : (i : ℕ) (token : TokenAt) (o : Option ℕ) → slice_get (finite.entries new) i ≡ Some token → (In i marks → ⊥) → StandsAt old new token o → KeepsAt old new token o
  kept i token None at n stands = reached_itself old new token.0 stands
  kept i token (Some k) at n stands =
      ((λ r. n (has_place_in i marks (found i ((linked_reach old new edges begins are i token at).1 r)))), stands)

  each : (i : ℕ) (token : TokenAt) (o : Option ℕ) → slice_get (finite.entries new) i ≡ Some token → slice_get after i ≡ Some o → KeepsAt old new token o
  each i token o at is = go (forgotten.each i)
    where
      go : IsForgotten marks places after i → KeepsAt old new token o
      go (inl (m, e)) =
          subst (KeepsAt old new token) (some_is (sym e ∙ is)) ((linked_reach old new edges begins are i token at).0 (only i (in_has_place i marks m)))
      go (inr (n, e)) = kept i token o at n (at_places (StandsAt old new) (finite.entries new) places i token o stand at (sym e ∙ is))

  pub all_kept : AllZip (KeepsAt old new) (finite.entries new) after
  all_kept = by_places (KeepsAt old new) (finite.entries new) after (forgotten.long ∙ long_zip (StandsAt old new) (finite.entries new) places stand) each

-- tokens that are reached have places
pub marks_within : (n : ℕ) (marks : List ℕ) (places : List (Option ℕ)) (tokens : List TokenAt) (R : TokenAt → Option ℕ → Type 0) → AllZip R tokens places → n ≡ length tokens
    → All (λ v. v < n) marks → All (λ v. v < length places) marks
marks_within n marks places tokens R all is within k d less = omega (arith, within k d less, long_zip R tokens places all, is)

pub places_long : (places : List (Option ℕ)) (tokens : List TokenAt) (R : TokenAt → Option ℕ → Type 0) → AllZip R tokens places → length places ≡ length tokens
places_long places tokens R all = long_zip R tokens places all

-- what is known of all tokens
pub all_known : (tokens : List TokenAt) (named : List Named) → AllZip (NamesAs tokens) (take (length tokens) tokens) named → AllNameAs tokens named
all_known tokens named all i token is at said =
    at_places (NamesAs tokens) tokens named i token is (subst (λ (ts : List TokenAt). AllZip (NamesAs tokens) ts named) (take_all (length tokens) tokens (omega arith)) all) at said
