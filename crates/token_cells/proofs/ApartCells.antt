-- Where no name of the cells stands twice on a platform, no clash is told.
use Rattle.std.proofs.Common.{◌≡◌, ℕ, Bool, true, false, cond, List, [], ◌∷◌, ◌++◌, flat_map, Some, None, refl, ap, subst, ◌∙◌, inl, inr}
use Rattle.std.specs.FinMap as finite
use Rattle.std.specs.List.{zip}
use Rattle.std.specs.Option.{option_or}
use Rattle.ring.specs.Lists.{In, AreApart}
use Rattle.ring.proofs.Ends.{in_right}
use Rattle.tk_io.specs.Order.{text_cmp}
use Rattle.group_inherit.specs.Flattening.{TokenAt}
use Rattle.transforms.specs.Clash.{Taken, first_taken, with_names, is_among}
use Rattle.transforms.specs.declared.platform.Platform.{Platform}
use Rattle.transforms.proofs.Taken.{get-with_names}
use Rattle.token_cells.specs.Breaks.{names_on, clash_reports, clashes_from, taken_behind, clashes_on}
use Rattle.token_cells.specs.Cell.{TokenPath}
use Rattle.token_cells.specs.TokenCell.{TokenCell}
use Rattle.token_cells.proofs.RealClashes.{among_in}

-- lists that are apart as one

apart_right : {A : Type 0} (xs ys : List A) → AreApart (xs ++ ys) → AreApart ys
apart_right [] ys apart = apart
apart_right (x ∷ xs) ys apart = apart_right xs ys apart.1

in_one : {A : Type 0} (xs ys : List A) (a : A) → AreApart (xs ++ ys) → In a xs → In a ys → ⊥
in_one [] ys a apart i j = i
in_one (x ∷ xs) ys a apart (inl e) j = apart.0 (subst (λ b. In b (xs ++ ys)) e (in_right xs ys a j))
in_one (x ∷ xs) ys a apart (inr i) j = in_one xs ys a apart.1 i j

-- none of the names is taken
abbrev AreFree : Taken → List (List ℕ) → Type 0
AreFree taken names = (name : List ℕ) → In name names → finite.get taken name ≡ None

first_none : (taken : Taken) (names rest : List (List ℕ)) → AreFree taken (names ++ rest) → first_taken taken names ≡ None
first_none taken [] rest free = refl
first_none taken (n ∷ names) rest free =
    ap (λ o. option_or o (first_taken taken names)) (free n (inl refl)) ∙ first_none taken names rest (λ m i. free m (inr i))

-- .. nor after those before them are
still_free : (taken : Taken) (names rest : List (List ℕ)) (path : TokenPath) → AreApart (names ++ rest) → AreFree taken (names ++ rest)
    → AreFree (with_names taken names path) rest
still_free taken names rest path apart free name i = get-with_names taken names path name ∙ at (is_among name names) refl
  where
    at : (b : Bool) → is_among name names ≡ b → cond b (Some path) (finite.get taken name) ≡ None
    at true e = absurd (in_one names rest name apart (among_in names name e) i)
    at false e = free name (in_right names rest name i)

module _ (platform : Platform) where
  untold : (tokens : List TokenAt) (cells : List TokenCell) (taken : Taken) → AreApart (flat_map (names_on platform) cells)
      → AreFree taken (flat_map (names_on platform) cells) → clashes_from platform (names_on platform) taken (zip tokens cells) ≡ []
  untold [] cells taken apart free = refl
  untold (t ∷ ts) [] taken apart free = refl
  untold (t ∷ ts) (c ∷ cs) taken apart free =
      let names = names_on platform c in
      let rest = flat_map (names_on platform) cs in
      ap (λ o. clash_reports platform t o ++ clashes_from platform (names_on platform) (taken_behind taken names t.0 o) (zip ts cs))
      (first_none taken names rest free)
      ∙ untold ts cs (with_names taken names t.0) (apart_right names rest apart) (still_free taken names rest t.0 apart free)

  pub apart_untold : (tokens : List TokenAt) (cells : List TokenCell) → AreApart (flat_map (names_on platform) cells) → clashes_on platform (zip tokens cells) ≡ []
  apart_untold tokens cells apart = untold tokens cells finite.empty apart (λ name i. finite.get-empty text_cmp name)
