-- Rows whose names on one platform are those on another.
use Rattle.std.proofs.Common.{◌≡◌, ℕ, ◌+◌, ◌<◌, ◌≤◌, List, ◌∷◌, length, get_or, drop, map, refl, sym, ap, ap₂, subst, ◌∙◌}
use Rattle.std.proofs.lemmas.List.{drop_all, drop_more}
use Rattle.transforms.specs.declared.platform.Platform.{Platform}
use Rattle.token_cells.specs.Breaks.{names_on}
use Rattle.token_cells.specs.declared.row.Row.{Row}
use Rattle.token_cells.specs.inner.Kept.{PageTexts, row_view, rows_view}

module _ (p q : Platform) (pages : PageTexts) where
  abbrev AreAlike : List Row → Type 0
  AreAlike rows = map (names_on q) (rows_view pages rows) ≡ map (names_on p) (rows_view pages rows)

  -- one row more
  pub alike_more : (rows : List Row) (i : ℕ) (row : Row) → i < length rows → row ≡ get_or rows i row
      → names_on q (row_view pages row) ≡ names_on p (row_view pages row) → AreAlike (drop (i + 1) rows) → AreAlike (drop i rows)
  alike_more rows i row within is here rest =
      let next : drop i rows ≡ row ∷ drop (i + 1) rows = drop_more rows i row within ∙ ap (λ x. x ∷ drop (i + 1) rows) (sym is) in
      subst AreAlike (sym next) (ap₂ (λ x xs. x ∷ xs) here rest)

  -- none is left
  pub alike_past : (rows : List Row) (i : ℕ) → length rows ≤ i → AreAlike (drop i rows)
  alike_past rows i past = subst AreAlike (sym (drop_all i rows past)) refl
