-- Tokens and cells side by side.
use Rattle.std.proofs.Common.{◌≡◌, ℕ, List, [], ◌∷◌, None, option_map, inl, inr, refl, sym, ◌∙◌, ap}
use Rattle.std.specs.List.{zip}
use Rattle.std.specs.Prelude.{◌⊎◌}
use Rattle.group_inherit.specs.Flattening.{TokenAt}
use Rattle.refusals.specs.Refusal.{Report}
use Rattle.token_cells.specs.Breaks.{Celled}
use Rattle.token_cells.specs.Breaks.{verdict}
use Rattle.token_cells.specs.declared.row.Row.{Row}
use Rattle.token_cells.specs.TokenCell.{TokenCell}
use Rattle.token_cells.specs.inner.Kept.{PageTexts, rows_view}

pub no_pairs : (ks : List TokenAt) (vs : List TokenCell) → (ks ≡ []) ⊎ (vs ≡ []) → zip ks vs ≡ []
no_pairs [] vs h = refl
no_pairs (k ∷ ks) [] h = refl
no_pairs (k ∷ ks) (v ∷ vs) (inl h) = cc
no_pairs (k ∷ ks) (v ∷ vs) (inr h) = cc

-- where one side is at its end and nothing was found before, nothing is found
pub none_left : (f : Report → List ℕ) (g : List Celled → List Report) (ks : List TokenAt) (vs : List TokenCell) (all : List Report) → g [] ≡ [] → g (zip ks vs) ≡ all
    → (ks ≡ []) ⊎ (vs ≡ []) → None ≡ option_map f (verdict all)
none_left f g ks vs all none so_far empty = ap (λ rs. option_map f (verdict rs)) (sym none ∙ (ap g (sym (no_pairs ks vs empty)) ∙ so_far))

-- rows that are at their end show nothing
pub none_shown : (pages : PageTexts) (ks : List TokenAt) (rows : List Row) → (ks ≡ []) ⊎ (rows ≡ []) → (ks ≡ []) ⊎ (rows_view pages rows ≡ [])
none_shown pages ks rows (inl h) = inl h
none_shown pages ks rows (inr h) = inr (ap (rows_view pages) h)
