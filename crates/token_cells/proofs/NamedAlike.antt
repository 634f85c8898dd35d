-- Where all names on one platform are those on another, no clash on the one is no clash on the other.
use Rattle.std.proofs.Common.{◌≡◌, ℕ, List, [], ◌∷◌, ◌++◌, map, Option, Some, None, option_map, refl, sym, subst}
use Rattle.std.specs.FinMap as finite
use Rattle.std.specs.List.{zip}
use Rattle.group_inherit.specs.Flattening.{TokenAt}
use Rattle.refusals.specs.Refusal.{Report}
use Rattle.transforms.specs.Clash.{Taken, first_taken, with_names}
use Rattle.transforms.specs.declared.platform.Platform.{Platform}
use Rattle.token_cells.specs.Breaks.{names_on, clash_reports, clashes_from, taken_behind, clashes_on, verdict}
use Rattle.token_cells.specs.Cell.{TokenPath}
use Rattle.token_cells.specs.TokenCell.{TokenCell}

-- nothing is told of no report alone
pub nothing_told : (f : Report → List ℕ) (reports : List Report) → None ≡ option_map f (verdict reports) → reports ≡ []
nothing_told f [] e = refl
nothing_told f (r ∷ rs) e = cc

head_same : {A : Type 0} (x y : A) (xs ys : List A) → x ∷ xs ≡ y ∷ ys → x ≡ y
head_same x y xs ys e = cc

tail_same : {A : Type 0} (x y : A) (xs ys : List A) → x ∷ xs ≡ y ∷ ys → xs ≡ ys
tail_same x y xs ys e = cc

module _ (p q : Platform) where
  untold : (taken : Taken) (tokens : List TokenAt) (cells : List TokenCell) → map (names_on q) cells ≡ map (names_on p) cells
      → clashes_from p (names_on p) taken (zip tokens cells) ≡ [] → clashes_from q (names_on q) taken (zip tokens cells) ≡ []
  untold taken [] cells alike none = refl
  untold taken (t ∷ ts) [] alike none = refl
  untold taken (t ∷ ts) (c ∷ cs) alike none =
      subst (λ ns. clash_reports q t (first_taken taken ns) ++ clashes_from q (names_on q) (taken_behind taken ns t.0 (first_taken taken ns)) (zip ts cs) ≡ [])
      (sym (head_same (names_on q c) (names_on p c) (map (names_on q) cs) (map (names_on p) cs) alike))
      (at (untold (with_names taken (names_on p c) t.0) ts cs (tail_same (names_on q c) (names_on p c) (map (names_on q) cs) (map (names_on p) cs) alike))
      (first_taken taken (names_on p c)) none)
    where
      at : (clashes_from p (names_on p) (with_names taken (names_on p c) t.0) (zip ts cs) ≡ []
          → clashes_from q (names_on q) (with_names taken (names_on p c) t.0) (zip ts cs) ≡ []) → (other : Option TokenPath)
          → clash_reports p t other ++ clashes_from p (names_on p) (taken_behind taken (names_on p c) t.0 other) (zip ts cs) ≡ []
          → clash_reports q t other ++ clashes_from q (names_on q) (taken_behind taken (names_on p c) t.0 other) (zip ts cs) ≡ []
      at rest None none = rest none
      at rest (Some other) none = cc

  pub alike_untold : (tokens : List TokenAt) (cells : List TokenCell) → map (names_on q) cells ≡ map (names_on p) cells
      → clashes_on p (zip tokens cells) ≡ [] → clashes_on q (zip tokens cells) ≡ []
  alike_untold tokens cells alike none = untold finite.empty tokens cells alike none
