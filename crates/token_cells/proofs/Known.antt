-- What is known of a token of an earlier tree.
use Rattle.std.proofs.Common.{◌≡◌, ℕ, zero, suc, ◌<◌, List, [], ◌∷◌, Option, Some, None, IsSomeAnd, MatchOption, sym, ap, ◌∙◌, subst, get_or, length, Equal}
use Rattle.std.specs.Prelude.{IfSome}
use Rattle.std.specs.List.{AllZip, slice_get}
use Rattle.std.specs.FinMap.{slice_cmp-IsAntisymmetric, nat_cmp-IsAntisymmetric}
use Rattle.std.proofs.lemmas.Option.{slice_get-get_or}
use Rattle.std.proofs.lemmas.Slice.Zip.{AllZip-left}
use Rattle.tk_io.specs.Order.{names_cmp}
use Rattle.token_cells.specs.Cell.{TokenPath}
use Rattle.token_cells.specs.declared.row.Row.{Row}
use Rattle.token_cells.specs.inner.Kept.{PageTexts, row_view, rows_view}

-- what holds of the items of two lists at one place
pub at_place : {A B : Type 0} (P : A → B → Type 0) (xs : List A) (ys : List B) (i : ℕ) (x : A) (y : B) → AllZip P xs ys → slice_get xs i ≡ Some x → slice_get ys i ≡ Some y → P x y
at_place P xs ys i x y all e k =
    subst (λ p. IsSomeAnd p (P x)) k (subst (λ o. MatchOption o (Unit {0}) (λ a. IsSomeAnd (slice_get ys i) (P a))) e (AllZip-left P xs ys all i))

-- the item at a place below the length
pub found_at : {A : Type 0} (xs : List A) (i : ℕ) (x : A) → i < length xs → ((d : A) → x ≡ get_or xs i d) → slice_get xs i ≡ Some x
found_at xs i x within is = slice_get-get_or xs i x within ∙ ap Some (sym (is x))

-- what a row at a place shows
pub shown_at : (pages : PageTexts) (rows : List Row) (i : ℕ) (row : Row) → slice_get rows i ≡ Some row → slice_get (rows_view pages rows) i ≡ Some (row_view pages row)
shown_at pages [] i row e = cc
shown_at pages (r ∷ rows) zero row e = let is : r ≡ row = cc in ap (λ x. Some (row_view pages x)) is
shown_at pages (r ∷ rows) (suc i) row e = shown_at pages rows i row e

-- paths between which the order makes no difference
pub same_path : (p q : TokenPath) → names_cmp p q ≡ Equal → p ≡ q
same_path p q = slice_cmp-IsAntisymmetric (slice_cmp-IsAntisymmetric nat_cmp-IsAntisymmetric) p q

-- what is said of one that is there
pub there_is : {A : Type 0} (o : Option A) (x : A) (P : A → Type 0) → o ≡ Some x → IfSome o P → P x
there_is None x P e h = absurd (cc)
there_is (Some y) x P e h = let same : y ≡ x = cc in subst P same h
