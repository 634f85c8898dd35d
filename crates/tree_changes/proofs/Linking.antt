-- Tokens are linked to those that they name, one after another.
use Rattle.std.proofs.Common.{◌≡◌, ◌≢◌, ◌⊎◌, inl, inr, ℕ, zero, suc, ◌+◌, ◌<◌, Bool, true, false, List, [], ◌∷◌, ◌++◌, length, get_or, set, take, replicate, is_some, Option, Some, None, option_map, All, refl, sym, ap, subst, ◌∙◌, arith, length-set, get_or-set_same, get_or-set_other}
use Rattle.std.proofs.lemmas.Bool.{cases_eq, cases_lt}
use Rattle.std.proofs.lemmas.Bool.Decides.{Decides-eqb}
use Rattle.std.proofs.lemmas.List.{length-replicate, take_more}
use Rattle.std.proofs.lemmas.Option.{slice_get_within, slice_get-get_or, get_or_from_slice_get}
use Rattle.std.proofs.lemmas.Slice.Zip.{all_zipped_more}
use Rattle.std.specs.FinMap as finite
use Rattle.std.specs.List.{AllZip, slice_get}
use Rattle.std.specs.Prelude.{◌==◌}
use Rattle.ring.specs.Lists.{In}
use Rattle.ring.proofs.Ends.{in_cases, in_last, in_left}
use Rattle.ring.proofs.ListWords.{has_place_in}
use Rattle.ref_graph.specs.Walk.{targets_of}
use Rattle.group_inherit.specs.Flattening.{TokenAt}
use Rattle.alias_ref.specs.Laws.{Flat}
use Rattle.alias_ref.specs.Refs.{refs_of}
use Rattle.alias_ref.specs.Unchanged.{raw_of, raw_in, DifferDecides, at_start}
use Rattle.alias_ref.specs.Written.{Step}
use Rattle.tree_changes.specs.Reached.{is_changed, IsReached}
use Rattle.tree_changes.specs.Named.{NamesAs}
use Rattle.tree_changes.specs.Standing.{StandsAt}
use Rattle.tree_changes.specs.inner.Links.{IsThere, IsCalm, IsListed, IsNameOf, AreNamed, NamesChanged, BeginsAt, IsLinked, AreLinked, AreUnsettled}
use Rattle.tree_changes.specs.inner.Settling.{AreSettled}
use Rattle.tree_changes.specs.declared.named.Named.{Named}
use Rattle.tree_changes.specs.declared.named.Named.TheVariants.{One}
use Rattle.tree_changes.proofs.LinksReach.{got_in, some_is, there_found}
use Rattle.tree_changes.proofs.Walks.{begun}

-- No token was looked at.

no_targets : (n v : ℕ) → targets_of (replicate n []) v ≡ []
no_targets zero v = refl
no_targets (suc n) zero = refl
no_targets (suc n) (suc v) = no_targets n v

pub none_linked : (old new : Flat) (n : ℕ) (edges : List (List ℕ)) (begins : List ℕ) → n ≡ length (finite.entries new)
    → edges ≡ replicate n [] → begins ≡ [] → AreLinked old new 0 edges begins
none_linked old new n edges begins many none no_begins = record {
  long = ap (λ (es : List (List ℕ)). length es) none ∙ (length-replicate n [] ∙ many);
  named = λ place token at next i. absurd (subst (In next) (ap (λ (es : List (List ℕ)). targets_of es place) none ∙ no_targets n place) i);
  begun = λ place i. absurd (subst (In place) no_begins i);
  all = λ place token less at. absurd (omega (arith, less));
}

-- it is reached, since one of its names is changed
pub reached_by_name : (old new : Flat) (i : ℕ) (token : TokenAt) → slice_get (finite.entries new) i ≡ Some token
    → NamesChanged old new (refs_of token.1.def) → IsReached old new token.0
reached_by_name old new i token at n = record {
  end = n.name;
  walk = begun old new token.0 n.name n.name token.1 (there_found new token.0 token.1 i at) n.among at_start;
  changed = n.changed;
}

pub reached_itself : (old new : Flat) (path : List Step) → is_changed old new path ≡ true → IsReached old new path
reached_itself old new path changed = record { end = path; walk = at_start; changed = changed }

-- What is known of a token by its place in the old tree.

pub stands_same : DifferDecides → (old new : Flat) (i : ℕ) (token : TokenAt) (o : Option ℕ) → slice_get (finite.entries new) i ≡ Some token
    → StandsAt old new token o → is_some o ≡ true → is_changed old new token.0 ≡ false
stands_same decides old new i token None at stands e = cc
stands_same decides old new i token (Some k) at (there, place, path, same) e =
    let found : finite.get old token.0 ≡ Some there.1 = subst (λ (p : List Step). finite.get old p ≡ Some there.1) path (there_found old there.0 there.1 k place) in
    let now : finite.get new token.0 ≡ Some token.1 = there_found new token.0 token.1 i at in
    (decides (raw_in old token.0) (raw_in new token.0)).1 (ap (option_map raw_of) found ∙ (ap Some same ∙ sym (ap (option_map raw_of) now)))

pub stands_other : (old new : Flat) (token : TokenAt) (o : Option ℕ) → StandsAt old new token o → is_some o ≡ false → is_changed old new token.0 ≡ true
stands_other old new token None stands e = stands
stands_other old new token (Some k) stands e = cc

-- the places below the next number
below_next : (place i : ℕ) → place < i + 1 → (place < i) ⊎ (place ≡ i)
below_next place i less = elim (cases_lt place i) [ inl h ↦ inl h | inr h ↦ inr (omega (arith, less, h)) ]

module _ (old new : Flat) (i : ℕ) (token : TokenAt) (edges : List (List ℕ)) (begins : List ℕ) (at : slice_get (finite.entries new) i ≡ Some token)
    (so_far : AreLinked old new i edges begins) where
  abbrev tokens : List TokenAt
  tokens = finite.entries new

  the_same : (other : TokenAt) (place : ℕ) → place ≡ i → slice_get tokens place ≡ Some other → token ≡ other
  the_same other place e there = some_is (sym at ∙ subst (λ (k : ℕ). slice_get tokens k ≡ Some other) e there)

  -- A change begins at the token.
  pub begun_more : (after : List ℕ) → after ≡ begins ++ i ∷ [] → IsReached old new token.0 → AreLinked old new (i + 1) edges after
  begun_more after added reached = record { long = so_far.long; named = so_far.named; begun = each; all = all }
    where
      each : (place : ℕ) → In place after → BeginsAt old new place
      each place m = go (in_cases begins (i ∷ []) place (subst (In place) added m))
        where
          go : In place begins ⊎ In place (i ∷ []) → BeginsAt old new place
          go (inl j) = so_far.begun place j
          go (inr (inl e)) = record {
            path = token.0;
            there = (token.1, subst (λ (k : ℕ). slice_get tokens k ≡ Some token) (sym e) at);
            reached = reached;
          }
          go (inr (inr none)) = absurd none

      all : (place : ℕ) (other : TokenAt) → place < i + 1 → slice_get tokens place ≡ Some other → In place after ⊎ IsLinked old new edges place other
      all place other less there = go (below_next place i less)
        where
          kept : In place begins ⊎ IsLinked old new edges place other → In place after ⊎ IsLinked old new edges place other
          kept (inl j) = inl (subst (In place) (sym added) (in_left begins (i ∷ []) place j))
          kept (inr l) = inr l

          go : (place < i) ⊎ (place ≡ i) → In place after ⊎ IsLinked old new edges place other
          go (inl h) = kept (so_far.all place other h there)
          go (inr e) = inl (subst (λ (k : ℕ). In k after) (sym e) (subst (In i) (sym added) (in_last begins i)))

  -- No change is reached from those that it names.
  pub calm_more : is_changed old new token.0 ≡ false → ((name : List Step) → In name (refs_of token.1.def) → IsCalm old new name)
      → AreLinked old new (i + 1) edges begins
  calm_more same calm = record { long = so_far.long; named = so_far.named; begun = so_far.begun; all = all }
    where
      linked : IsLinked old new edges i token
      linked = record { same = same; all = λ name j. inr (calm name j) }

      all : (place : ℕ) (other : TokenAt) → place < i + 1 → slice_get tokens place ≡ Some other → In place begins ⊎ IsLinked old new edges place other
      all place other less there = go (below_next place i less)
        where
          go : (place < i) ⊎ (place ≡ i) → In place begins ⊎ IsLinked old new edges place other
          go (inl h) = so_far.all place other h there
          go (inr e) =
              inr (subst (λ (k : ℕ). IsLinked old new edges k other) (sym e)
              (subst (λ (t : TokenAt). IsLinked old new edges i t) (the_same other place e there) linked))

  pub inside : i < length edges
  inside = omega (arith, slice_get_within tokens i token at, so_far.long)

  -- the edges lead to tokens
  pub row_within : (row : List ℕ) → AreNamed old new (refs_of token.1.def) row → All (λ w. w < length edges) row
  row_within row named k d h =
      let n = named.each (get_or row k d) (has_place_in (get_or row k d) row (k, h, same_at row k h)) in
      omega (arith, slice_get_within tokens (get_or row k d) (n.name, n.there.0) n.there.1, so_far.long)
    where
      same_at : (xs : List ℕ) (k : ℕ) → k < length xs → get_or xs k (get_or xs k d) ≡ get_or xs k d
      same_at [] k h = absurd (omega (arith, h))
      same_at (x ∷ xs) zero h = refl
      same_at (x ∷ xs) (suc k) h = same_at xs k (omega (arith, h))

  -- It is linked to those that it names.
  module _ (row : List ℕ) (after : List (List ℕ)) (made : after ≡ set edges i row) (same : is_changed old new token.0 ≡ false)
      (named : AreNamed old new (refs_of token.1.def) row) where
    at_it : (place : ℕ) → place ≡ i → targets_of after place ≡ row
    at_it place e =
        ap (λ (k : ℕ). targets_of after k) e
        ∙ (ap (λ (es : List (List ℕ)). targets_of es i) made ∙ get_or-set_same edges i row [] inside)

    elsewhere : (place : ℕ) → place ≢ i → targets_of after place ≡ targets_of edges place
    elsewhere place n = ap (λ (es : List (List ℕ)). targets_of es place) made ∙ get_or-set_other edges i place row [] n

    each_named : (place : ℕ) (other : TokenAt) → slice_get tokens place ≡ Some other → (next : ℕ) → In next (targets_of after place)
        → IsNameOf new (refs_of other.1.def) next
    each_named place other there next m = elim (cases_eq place i) [
      | inl e ↦ subst (λ (t : TokenAt). IsNameOf new (refs_of t.1.def) next) (the_same other place e there)
          (named.each next (subst (In next) (at_it place e) m))
      | inr n ↦ so_far.named place other there next (subst (In next) (elsewhere place n) m)
    ]

    linked : IsLinked old new after i token
    linked = record {
      same = same;
      all = λ name j. subst (λ (ps : List ℕ). IsListed new ps name ⊎ IsCalm old new name) (sym (at_it i refl)) (named.all name j);
    }

    moved : (place : ℕ) (other : TokenAt) → place ≢ i → IsLinked old new edges place other → IsLinked old new after place other
    moved place other n l = record {
      same = l.same;
      all = λ name j. subst (λ (ps : List ℕ). IsListed new ps name ⊎ IsCalm old new name) (sym (elsewhere place n)) (l.all name j);
    }

    all_linked : (place : ℕ) (other : TokenAt) → place < i + 1 → slice_get tokens place ≡ Some other → In place begins ⊎ IsLinked old new after place other
    all_linked place other less there = go (below_next place i less)
      where
        kept : place ≢ i → In place begins ⊎ IsLinked old new edges place other → In place begins ⊎ IsLinked old new after place other
        kept n (inl j) = inl j
        kept n (inr l) = inr (moved place other n l)

        go : (place < i) ⊎ (place ≡ i) → In place begins ⊎ IsLinked old new after place other
        go (inl h) = kept (λ e. omega (arith, h, e)) (so_far.all place other h there)
        go (inr e) =
            inr (subst (λ (k : ℕ). IsLinked old new after k other) (sym e)
            (subst (λ (t : TokenAt). IsLinked old new after i t) (the_same other place e there) linked))

    pub linked_more : AreLinked old new (i + 1) after begins
    linked_more = record {
      long = ap (λ (es : List (List ℕ)). length es) made ∙ (length-set edges i row ∙ so_far.long);
      named = each_named;
      begun = so_far.begun;
      all = all_linked;
    }

-- a change begins at tokens
pub begins_within : (old new : Flat) (n : ℕ) (edges : List (List ℕ)) (begins : List ℕ) → AreLinked old new n edges begins
    → All (λ w. w < length edges) begins
begins_within old new n edges begins are k d h =
    let b = are.begun (get_or begins k d) (has_place_in (get_or begins k d) begins (k, h, same_at begins k h)) in
    omega (arith, slice_get_within (finite.entries new) (get_or begins k d) (b.path, b.there.0) b.there.1, are.long)
  where
    same_at : (xs : List ℕ) (k : ℕ) → k < length xs → get_or xs k (get_or xs k d) ≡ get_or xs k d
    same_at [] k h = absurd (omega (arith, h))
    same_at (x ∷ xs) zero h = refl
    same_at (x ∷ xs) (suc k) h = same_at xs k (omega (arith, h))

-- What is known of the names of tokens.

-- one more
pub named_more : (new : Flat) (i : ℕ) (token : TokenAt) (named more : List Named) (known : Named) → slice_get (finite.entries new) i ≡ Some token
    → AllZip (NamesAs (finite.entries new)) (take i (finite.entries new)) named → NamesAs (finite.entries new) token known → more ≡ named ++ known ∷ []
    → AllZip (NamesAs (finite.entries new)) (take (i + 1) (finite.entries new)) more
named_more new i token named more known at so_far knows made =
    let tokens : List TokenAt = finite.entries new in
    let longer : take (i + 1) tokens ≡ take i tokens ++ token ∷ [] =
    take_more tokens i token (slice_get_within tokens i token at) ∙ ap (λ x. take i tokens ++ x ∷ []) (get_or_from_slice_get tokens i token token at) in
    subst (λ (ts : List TokenAt). AllZip (NamesAs tokens) ts more) (sym longer)
    (subst (λ (ns : List Named). AllZip (NamesAs tokens) (take i tokens ++ token ∷ []) ns) (sym made)
    (all_zipped_more (NamesAs tokens) (take i tokens) named token known so_far knows))

-- what is read at a place of a list
pub read_there : {X : Type 0} (xs : List X) (i : ℕ) (x : X) → i < length xs → ((d : X) → x ≡ get_or xs i d) → slice_get xs i ≡ Some x
read_there xs i x within is = slice_get-get_or xs i x within ∙ ap Some (sym (is x))

pub no_items : {X : Type 0} (xs : List X) → length xs ≡ 0 → xs ≡ []
no_items [] h = refl
no_items (x ∷ xs) h = absurd (omega (arith, h))

pub no_names : {X : Type 0} (xs : List X) → (length xs == 0) ≡ true → xs ≡ []
no_names xs e = no_items xs ((Decides-eqb (length xs) 0).0 e)

pub one_item : {X : Type 0} (xs : List X) → length xs ≡ 1 → (x : X) × (xs ≡ x ∷ [])
one_item [] h = absurd (omega (arith, h))
one_item (x ∷ []) h = (x, refl)
one_item (x ∷ y ∷ xs) h = absurd (omega (arith, h))

-- the places of one name alone
pub one_name : (old new : Flat) (token : TokenAt) (names : List (List Step)) (targets : List ℕ) (place : ℕ) → refs_of token.1.def ≡ names
    → length names ≡ 1 → AreNamed old new names targets → slice_get targets 0 ≡ Some place → NamesAs (finite.entries new) token (One place)
one_name old new token names targets place are short named first =
    let (name, one) = one_item names short in
    let n = named.each place (got_in targets 0 place first) in (
      (n.name, n.there.0),
      n.there.1,
      are ∙ (one ∙ ap (λ (p : List Step). p ∷ []) (sym (only name n.name (subst (In n.name) one n.among)))),
    )
  where
    only : (name other : List Step) → In other (name ∷ []) → other ≡ name
    only name other (inl e) = e
    only name other (inr none) = absurd none

-- one token alone is named, and it stands at this place
pub one_named : (old new : Flat) (path : List Step) (place : ℕ) → IsThere new path place → AreNamed old new (path ∷ []) (place ∷ [])
one_named old new path place there = record { each = each; all = all }
  where
    each : (other : ℕ) → In other (place ∷ []) → IsNameOf new (path ∷ []) other
    each other (inl e) = record { name = path; among = inl refl; there = subst (IsThere new path) (sym e) there }
    each other (inr none) = absurd none

    all : (name : List Step) → In name (path ∷ []) → IsListed new (place ∷ []) name ⊎ IsCalm old new name
    all name (inl e) = inl (record { place = place; among = inl refl; there = subst (λ (p : List Step). IsThere new p place) (sym e) there })
    all name (inr none) = absurd none

-- Edges from which a change may be reached.

pub unsettled_named : (old new : Flat) (names : List (List Step)) (settled : List Bool) (targets edges : List ℕ) → AreSettled old new settled
    → AreNamed old new names targets → AreUnsettled settled targets edges → AreNamed old new names edges
unsettled_named old new names settled targets edges calm named left = record { each = λ place m. named.each place (left.among place m); all = all }
  where
    all : (name : List Step) → In name names → IsListed new edges name ⊎ IsCalm old new name
    all name m = go (named.all name m)
      where
        go : IsListed new targets name ⊎ IsCalm old new name → IsListed new edges name ⊎ IsCalm old new name
        go (inr c) = inr c
        go (inl l) = elim (left.others l.place l.among) [
          | inl e ↦ inl (record { place = l.place; among = e; there = l.there })
          | inr s ↦ inr (calm l.place (name, l.there.0) l.there.1 s)
        ]

-- where there are none, no change is reached from any
pub calm_names : (old new : Flat) (names : List (List Step)) (edges : List ℕ) → edges ≡ [] → AreNamed old new names edges
    → (name : List Step) → In name names → IsCalm old new name
calm_names old new names edges none named name m = go (named.all name m)
  where
    go : IsListed new edges name ⊎ IsCalm old new name → IsCalm old new name
    go (inl l) = absurd (subst (In l.place) none l.among)
    go (inr c) = c

pub none_unsettled : (settled : List Bool) (edges : List ℕ) → edges ≡ [] → AreUnsettled settled [] edges
none_unsettled settled edges none = record { among = λ place m. absurd (subst (In place) none m); others = λ place m. absurd m }

module _ (settled : List Bool) (targets edges : List ℕ) (k place : ℕ) (within : k < length targets) (is : place ≡ get_or targets k 0)
    (so_far : AreUnsettled settled (take k targets) edges) where
  more : take (k + 1) targets ≡ take k targets ++ place ∷ []
  more = take_more targets k 0 within ∙ ap (λ x. take k targets ++ x ∷ []) (sym is)

  Went : List ℕ → ℕ → Type 0
  Went after other = In other after ⊎ (slice_get settled other ≡ Some true)

  others : (after : List ℕ) → ((other : ℕ) → In other edges → In other after) → Went after place → (other : ℕ)
      → In other (take (k + 1) targets) → Went after other
  unfolding Went
  others after kept last other m = go (in_cases (take k targets) (place ∷ []) other (subst (In other) more m))
    where
      was : Went edges other → Went after other
      was (inl i) = inl (kept other i)
      was (inr s) = inr s

      go : In other (take k targets) ⊎ In other (place ∷ []) → Went after other
      go (inl i) = was (so_far.others other i)
      go (inr (inl e)) = subst (Went after) (sym e) last
      go (inr (inr none)) = absurd none

  pub one_settled_edge : slice_get settled place ≡ Some true → AreUnsettled settled (take (k + 1) targets) edges
  unfolding Went
  one_settled_edge s = record {
    among = λ other m. subst (In other) (sym more) (in_left (take k targets) (place ∷ []) other (so_far.among other m));
    others = others edges (λ other m. m) (inr s);
  }

  pub one_open_edge : (after : List ℕ) → after ≡ edges ++ place ∷ [] → AreUnsettled settled (take (k + 1) targets) after
  unfolding Went
  one_open_edge after made = record { among = among; others = others after (λ other m. subst (In other) (sym made) (in_left edges (place ∷ []) other m)) (inl (subst (In place) (sym made) (in_last edges place))) }
    where
      among : (other : ℕ) → In other after → In other (take (k + 1) targets)
      among other m = subst (In other) (sym more) (go (in_cases edges (place ∷ []) other (subst (In other) made m)))
        where
          go : In other edges ⊎ In other (place ∷ []) → In other (take k targets ++ place ∷ [])
          go (inl i) = in_left (take k targets) (place ∷ []) other (so_far.among other i)
          go (inr (inl e)) = subst (λ (p : ℕ). In p (take k targets ++ place ∷ [])) (sym e) (in_last (take k targets) place)
          go (inr (inr none)) = absurd none
