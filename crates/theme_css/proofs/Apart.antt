-- Declarations at places that are apart have names that are apart.
use Rattle.std.proofs.Common.{◌≡◌, ◌⊎◌, ◌<◌, ◌≤◌, ◌+◌, ◌∙◌, ℕ, zero, suc, Bool, true, false, List, [], ◌∷◌, ◌++◌, length, map, take, drop, get_or, slice_set, inl, inr, refl, sym, ap, subst, arith}
use Rattle.std.proofs.lemmas.List.{drop_more, length-set, map-append, take_all, take_more}
use Rattle.ring.specs.Lists.{In, AreApart}
use Rattle.theme_css.specs.Themes.{DeclareOnce}
use Rattle.theme_css.specs.inner.Offers.{AreRanked, AreThemesApart, AreThemesRanked, ranks_of}
use Rattle.theme_css.specs.inner.Pages.{themes_view}
use Rattle.theme_css.specs.inner.Views.{declarations_at}
use Rattle.theme_css.specs.declared.blocks.Theme.{Theme}
use Rattle.theme_css.specs.declared.offers.Declared.{Declared}
use Rattle.theme_css.proofs.Named.{in_at}

-- of names that are apart each stands at one place
one_place : (names : List (List ℕ)) → AreApart names → (i j : ℕ) → i < length names → j < length names → get_or names i [] ≡ get_or names j [] → i ≡ j
one_place [] apart i j h k e = absurd (omega (arith, h))
one_place (n ∷ ns) apart zero zero h k e = refl
one_place (n ∷ ns) apart zero (suc j) h k e = absurd (apart.0 (subst (λ (z : List ℕ). In z ns) (sym e) (in_at ns j [] (omega (arith, k)))))
one_place (n ∷ ns) apart (suc i) zero h k e = absurd (apart.0 (subst (λ (z : List ℕ). In z ns) e (in_at ns i [] (omega (arith, h)))))
one_place (n ∷ ns) apart (suc i) (suc j) h k e = ap suc (one_place ns apart.1 i j (omega (arith, h)) (omega (arith, k)) e)

module _ (names : List (List ℕ)) (apart : AreApart names) where
  rank_in : (r : ℕ) → r < length names → (ds : List Declared) → AreRanked (length names) ds → In (get_or names r []) (map (λ d. d.name) (declarations_at names ds)) → In r (ranks_of ds)
  rank_in r below [] h i = absurd i
  rank_in r below (d ∷ ds) h (inl e) = inl (one_place names apart r d.rank below h.0 e)
  rank_in r below (d ∷ ds) h (inr i) = inr (rank_in r below ds h.1 i)

  names_apart : (ds : List Declared) → AreRanked (length names) ds → AreApart (ranks_of ds) → AreApart (map (λ d. d.name) (declarations_at names ds))
  names_apart [] h once = tt
  names_apart (d ∷ ds) h once = (λ i. once.0 (rank_in d.rank h.0 ds h.1 i), names_apart ds h.1 once.1)

  pub declare_once : (ts : List Theme) → AreThemesRanked (length names) ts → AreThemesApart ts → DeclareOnce (themes_view names ts)
  declare_once [] h once = tt
  declare_once (t ∷ ts) h once = (names_apart t.own.items h.0 once.0, declare_once ts h.1 once.1)

-- Places that are marked.

set_keeps : (seen : List Bool) (r k : ℕ) → get_or seen k false ≡ true → get_or (slice_set seen r true) k false ≡ true
set_keeps [] r k h = cc
set_keeps (b ∷ bs) zero zero h = refl
set_keeps (b ∷ bs) zero (suc k) h = h
set_keeps (b ∷ bs) (suc r) zero h = h
set_keeps (b ∷ bs) (suc r) (suc k) h = set_keeps bs r k h

set_here : (seen : List Bool) (r : ℕ) → r < length seen → get_or (slice_set seen r true) r false ≡ true
set_here [] r h = absurd (omega (arith, h))
set_here (b ∷ bs) zero h = refl
set_here (b ∷ bs) (suc r) h = set_here bs r (omega (arith, h))

in_more : (xs : List ℕ) (x y : ℕ) → In y (xs ++ x ∷ []) → In y xs ⊎ (y ≡ x)
in_more [] x y (inl e) = inr e
in_more [] x y (inr i) = absurd i
in_more (z ∷ xs) x y (inl e) = inl (inl e)
in_more (z ∷ xs) x y (inr i) = elim (in_more xs x y i) as (λ _. In y (z ∷ xs) ⊎ (y ≡ x)) [ inl j ↦ inl (inr j) | inr e ↦ inr e ]

apart_more : (xs : List ℕ) (x : ℕ) → AreApart xs → (In x xs → ⊥) → AreApart (xs ++ x ∷ [])
apart_more [] x h absent = (λ i. i, tt)
apart_more (z ∷ xs) x h absent =
    (λ i. elim (in_more xs x z i) as (λ _. ⊥) [ inl j ↦ h.0 j | inr e ↦ absent (inl (sym e)) ], apart_more xs x h.1 (λ i. absent (inr i)))

-- the places of the first declarations are marked, and are apart
pub record AreSeen (count : ℕ) (ds : List Declared) (seen : List Bool) (i : ℕ) : Type 0 where
  pub len : length seen ≡ count
  pub rest : AreRanked count (drop i ds)
  pub marked : (r : ℕ) → In r (ranks_of (take i ds)) → get_or seen r false ≡ true
  pub apart : AreApart (ranks_of (take i ds))

pub none_seen : (count : ℕ) (ds : List Declared) (seen : List Bool) → length seen ≡ count → AreRanked count ds → AreSeen count ds seen 0
none_seen count ds seen len h = record { len = len; rest = h; marked = λ r i. absurd i; apart = tt }

pub seen_rank : (count : ℕ) (ds : List Declared) (seen : List Bool) (i : ℕ) (d : Declared) → i < length ds → AreSeen count ds seen i → (get_or ds i d).rank < length seen
seen_rank count ds seen i d below s =
    let more : AreRanked count (get_or ds i d ∷ drop (i + 1) ds) = subst (AreRanked count) (drop_more ds i d below) s.rest in
    subst (λ (k : ℕ). (get_or ds i d).rank < k) (sym s.len) more.0

pub one_seen : (count : ℕ) (ds : List Declared) (seen : List Bool) (i : ℕ) (d : Declared) → i < length ds → AreSeen count ds seen i → get_or seen (get_or ds i d).rank false ≡ false
    → AreSeen count ds (slice_set seen (get_or ds i d).rank true) (i + 1)
one_seen count ds seen i d below s new =
    let r = (get_or ds i d).rank in
    let more : AreRanked count (get_or ds i d ∷ drop (i + 1) ds) = subst (AreRanked count) (drop_more ds i d below) s.rest in
    let here : r < length seen = seen_rank count ds seen i d below s in
    let ranks : ranks_of (take (i + 1) ds) ≡ ranks_of (take i ds) ++ r ∷ [] = ap ranks_of (take_more ds i d below) ∙ map-append (λ (x : Declared). x.rank) (take i ds) (get_or ds i d ∷ []) in
    let other : In r (ranks_of (take i ds)) → ⊥ = λ j. two (get_or seen r false) (s.marked r j) new in
    record {
      len = length-set seen r true ∙ s.len;
      rest = more.1;
      marked = λ k j. elim (in_more (ranks_of (take i ds)) r k (subst (λ (l : List ℕ). In k l) ranks j)) as (λ _. get_or (slice_set seen r true) k false ≡ true) [
        | inl m ↦ set_keeps seen r k (s.marked k m)
        | inr e ↦ subst (λ (z : ℕ). get_or (slice_set seen r true) z false ≡ true) (sym e) (set_here seen r here)
      ];
      apart = subst AreApart (sym ranks) (apart_more (ranks_of (take i ds)) r s.apart other);
    }
  where
    two : (b : Bool) → b ≡ true → b ≡ false → ⊥
    two b h i = cc

pub all_seen : (count : ℕ) (ds : List Declared) (seen : List Bool) (i : ℕ) → length ds ≤ i → AreSeen count ds seen i → AreApart (ranks_of ds)
all_seen count ds seen i over s = subst (λ (l : List Declared). AreApart (ranks_of l)) (take_all i ds over) s.apart
