-- The places of the tokens that a token names, one after another.
use Rattle.std.proofs.Common.{◌≡◌, ◌⊎◌, inl, inr, ℕ, zero, suc, ◌+◌, ◌<◌, Bool, true, false, List, [], ◌∷◌, ◌++◌, length, get_or, take, is_some, Option, Some, None, option_map, refl, sym, ap, subst, ◌∙◌, arith}
use Rattle.std.proofs.lemmas.List.{take_more}
use Rattle.std.specs.Borrow.{Bor}
use Rattle.std.specs.FinMap as finite
use Rattle.std.specs.FinMap.Entries.{find}
use Rattle.std.specs.List.{slice_get}
use Rattle.std.specs.Option.{option_copied}
use Rattle.ring.specs.Lists.{In}
use Rattle.ring.proofs.Ends.{in_cases, in_last, in_left}
use Rattle.tk_io.specs.Order.{names_cmp}
use Rattle.group_inherit.specs.Flattening.{Flattened, TokenAt}
use Rattle.alias_ref.specs.Laws.{Flat}
use Rattle.alias_ref.specs.Unchanged.{raw_of, raw_in, differ}
use Rattle.alias_ref.specs.Written.{Step}
use Rattle.tree_changes.specs.Laws.{RefersToReached}
use Rattle.tree_changes.specs.Reached.{is_changed}
use Rattle.tree_changes.specs.inner.Links.{IsThere, IsCalm, IsFound, IsMissed, IsNamed, IsListed, IsNameOf, AreNamed, NamesChanged}
use Rattle.tree_changes.specs.inner.Places.{IsPlaceOf}
use Rattle.tree_changes.proofs.Walks.{reached_by_one}

both_ways : {b : Bool} → b ≡ false → b ≡ true → ⊥
both_ways e f = cc

-- A place that was found.

an_item : {X : Type 0} (xs : List X) (i : ℕ) → i < length xs → (Is : X → Type 0) → ((d : X) → Is (get_or xs i d)) → (x : X) × (slice_get xs i ≡ Some x) × Is x
an_item [] i h Is all = absurd (omega (arith, h))
an_item (x ∷ xs) zero h Is all = (x, refl, all x)
an_item (x ∷ xs) (suc i) h Is all = an_item xs i (omega (arith, h)) Is all

pub found_there : (flat : Flat) (tokens : List TokenAt) (path : List Step) (i : ℕ) → tokens ≡ finite.entries flat
    → IsPlaceOf tokens path (Some i) → IsThere flat path i
found_there flat tokens path i are place =
    let (t, at, is) = an_item tokens i place.0 (λ (t : TokenAt). t.0 ≡ path) place.1 in (
      t.1,
      subst (λ (ts : List TokenAt). slice_get ts i ≡ Some (path, t.1)) are (subst (λ (p : List Step). slice_get tokens i ≡ Some (p, t.1)) is at),
    )

pub missed_absent : (flat : Flat) (tokens : List TokenAt) (path : List Step) → tokens ≡ finite.entries flat → IsPlaceOf tokens path None
    → finite.get flat path ≡ None
missed_absent flat tokens path are none = finite.get-entries flat path ∙ (ap (find names_cmp path) (sym are) ∙ none)

some_none : {X : Type 0} {x : X} → None ≡ Some x → ⊥
some_none e = cc

-- no change is reached from a path at which no token stands, unless it is changed
absent_calm : (old new : Flat) (path : List Step) → finite.get new path ≡ None → is_changed old new path ≡ false → IsCalm old new path
absent_calm old new path absent same reached = go ((reached_by_one old new path).0 reached)
  where
    go : (is_changed old new path ≡ true) ⊎ RefersToReached old new path → ⊥
    go (inl e) = both_ways same e
    go (inr r) = some_none (sym absent ∙ r.there)

changed_if : (o : Option Flattened) → is_some o ≡ differ (option_map raw_of o) None
changed_if None = refl
changed_if (Some f) = refl

pub copied_there : {X : Type 0} (o : Option (Bor X)) → is_some o ≡ is_some (option_copied o)
copied_there None = refl
copied_there (Some f) = refl

-- an absent name is changed if there was a token of it
pub absent_changed : (old new : Flat) (path : List Step) (gone : Bool) → gone ≡ is_some (finite.get old path) → finite.get new path ≡ None
    → gone ≡ is_changed old new path
absent_changed old new path gone is absent =
    is ∙ (changed_if (finite.get old path) ∙ ap (λ (o : Option Flattened). differ (raw_in old path) (option_map raw_of o)) (sym absent))

-- Names, one after another.

pub none_named : (old new : Flat) (names : List (List Step)) (row : List ℕ) → names ≡ [] → row ≡ [] → AreNamed old new names row
none_named old new names row no_names no_places = record {
  each = λ place i. absurd (subst (In place) no_places i);
  all = λ name i. absurd (subst (In name) no_names i);
}

module _ (old new : Flat) (names : List (List Step)) (name : List Step) (before after : List ℕ) (gone : Bool) (stands : gone ≡ false) (so_far : AreNamed old new names before) where
  abbrev more : List (List Step)
  more = names ++ name ∷ []

  was_named : (place : ℕ) → In place before → IsNameOf new more place
  was_named place i =
      let n = so_far.each place i in
      record { name = n.name; among = in_left names (name ∷ []) n.name n.among; there = n.there }

  module _ (f : IsFound new name before after gone) where
    listed : (p : ℕ) → In p (before ++ f.place ∷ []) → In p after
    listed p i = subst (In p) (sym f.added) i

    each_found : (place : ℕ) → In place after → IsNameOf new more place
    each_found place i = go (in_cases before (f.place ∷ []) place (subst (In place) f.added i))
      where
        go : In place before ⊎ In place (f.place ∷ []) → IsNameOf new more place
        go (inl j) = was_named place j
        go (inr (inl e)) = record { name = name; among = in_last names name; there = subst (IsThere new name) (sym e) f.there }
        go (inr (inr none)) = absurd none

    all_found : (q : List Step) → In q more → IsListed new after q ⊎ IsCalm old new q
    all_found q i = go (in_cases names (name ∷ []) q i)
      where
        earlier : IsListed new before q ⊎ IsCalm old new q → IsListed new after q ⊎ IsCalm old new q
        earlier (inl l) = inl (record { place = l.place; among = listed l.place (in_left before (f.place ∷ []) l.place l.among); there = l.there })
        earlier (inr still) = inr still

        go : In q names ⊎ In q (name ∷ []) → IsListed new after q ⊎ IsCalm old new q
        go (inl j) = earlier (so_far.all q j)
        go (inr (inl e)) = inl (record {
          place = f.place;
          among = listed f.place (in_last before f.place);
          there = subst (λ (p : List Step). IsThere new p f.place) (sym e) f.there;
        })
        go (inr (inr none)) = absurd none

  module _ (m : IsMissed old new name before after gone) where
    each_missed : (place : ℕ) → In place after → IsNameOf new more place
    each_missed place i = was_named place (subst (In place) m.same_row i)

    all_missed : (q : List Step) → In q more → IsListed new after q ⊎ IsCalm old new q
    all_missed q i = go (in_cases names (name ∷ []) q i)
      where
        earlier : IsListed new before q ⊎ IsCalm old new q → IsListed new after q ⊎ IsCalm old new q
        earlier (inl l) = inl (record { place = l.place; among = subst (In l.place) (sym m.same_row) l.among; there = l.there })
        earlier (inr still) = inr still

        go : In q names ⊎ In q (name ∷ []) → IsListed new after q ⊎ IsCalm old new q
        go (inl j) = earlier (so_far.all q j)
        go (inr (inl e)) = inr (subst (IsCalm old new) (sym e) (absent_calm old new name m.ends (sym m.changed ∙ stands)))
        go (inr (inr none)) = absurd none

  named_more : IsNamed old new name before after gone → AreNamed old new more after
  named_more (inl f) = record { each = each_found f; all = all_found f }
  named_more (inr m) = record { each = each_missed m; all = all_missed m }

pub one_named : (old new : Flat) (names : List (List Step)) (i : ℕ) (name : List Step) (before after : List ℕ) (gone : Bool) → gone ≡ false
    → AreNamed old new (take i names) before → i < length names → name ≡ get_or names i name → IsNamed old new name before after gone
    → AreNamed old new (take (i + 1) names) after
one_named old new names i name before after gone stands so_far within is named =
    let more : take (i + 1) names ≡ take i names ++ name ∷ [] = take_more names i name within ∙ ap (λ x. take i names ++ x ∷ []) (sym is) in
    subst (λ (ns : List (List Step)). AreNamed old new ns after) (sym more) (named_more old new (take i names) name before after gone stands so_far named)

-- a name that is gone is changed
pub one_lost : (old new : Flat) (names : List (List Step)) (name : List Step) (before after : List ℕ) (gone : Bool) → gone ≡ true
    → In name names → IsNamed old new name before after gone → NamesChanged old new names
one_lost old new names name before after gone lost i (inl f) = absurd (both_ways f.stands lost)
one_lost old new names name before after gone lost i (inr m) = record { name = name; among = i; changed = sym m.changed ∙ lost }
