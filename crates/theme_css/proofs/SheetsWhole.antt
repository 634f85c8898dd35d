-- A sheet is its first block and those of the others that declare something.
use Rattle.std.proofs.Common.{◌≡◌, ◌∙◌, ℕ, cond, Bool, true, false, List, [], ◌∷◌, ◌++◌, filter, refl, sym, ap}
use Rattle.std.specs.Prelude.{if◌then◌else◌}
use Rattle.std.specs.List.{flat_map}
use Rattle.theme_css.specs.Cascade.{Block}
use Rattle.theme_css.specs.Sheet.{are_some, block_text, later_text, sheet_text}

one_later : (b : Block) (k : Bool) (bs : List Block) (rest : List ℕ) → flat_map block_text bs ≡ rest → flat_map block_text (cond k (b ∷ bs) bs) ≡ (if k then block_text b else []) ++ rest
one_later b true bs rest e = ap (λ l. block_text b ++ l) e
one_later b false bs rest e = e

later_texts : (bs : List Block) → flat_map block_text (filter (λ each. are_some each.declarations) bs) ≡ flat_map later_text bs
later_texts [] = refl
later_texts (b ∷ bs) = one_later b (are_some b.declarations) (filter (λ each. are_some each.declarations) bs) (flat_map later_text bs) (later_texts bs)

pub sheet_whole : (b : Block) (bs : List Block) (first whole : List ℕ) → first ≡ [] ++ block_text b → whole ≡ first ++ flat_map later_text bs → whole ≡ sheet_text (b ∷ bs)
sheet_whole b bs first whole e f = f ∙ (ap (λ l. l ++ flat_map later_text bs) e ∙ ap (λ l. block_text b ++ l) (sym (later_texts bs)))
