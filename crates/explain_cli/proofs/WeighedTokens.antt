-- What the verdict of the tokens of a tree says.
use Rattle.std.proofs.Common.{◌≡◌, ◌∙◌, ℕ, Bool, true, false, List, [], ◌∷◌, Option, Some, None, refl, sym, ap}
use Rattle.std.specs.FinMap as finite
use Rattle.std.specs.List.{zip}
use Rattle.std.specs.Prelude.{is_some}
use Rattle.tk_io.specs.FilesData.{FilesData}
use Rattle.alias_ref.specs.Laws.{Flat}
use Rattle.transforms.specs.Config.{Settings}
use Rattle.refusals.specs.Refusal.{Report}
use Rattle.token_cells.specs.Breaks.{token_reports, verdict_text}
use Rattle.token_cells.specs.Cell.{AreCells}
use Rattle.token_cells.specs.TokenCell.{TokenCell}
use Rattle.explain_cli.specs.inner.Judging.{IsWeighed}

module _ (files : FilesData) where
  none_printed : (rs : List Report) → is_some (verdict_text files rs) ≡ false → [] ≡ rs
  none_printed [] e = refl
  none_printed (r ∷ rs) e = absurd (cc)

  one_printed : (rs : List Report) → is_some (verdict_text files rs) ≡ true → (first : Report) × (others : List Report) × (first ∷ others ≡ rs)
  one_printed [] e = absurd (cc)
  one_printed (r ∷ rs) e = (r, rs, refl)

module _ (files : FilesData) (settings : Settings) (flat : Flat) (cells : List TokenCell) where
  abbrev told_of : Flat → List TokenCell → List Report
  told_of tokens made = token_reports tokens (zip (finite.entries tokens) made)

  -- the verdict is that of the tree's tokens
  same_told : (tokens : Flat) (made : List TokenCell) (text : Option (List ℕ)) (b told : Bool) → tokens ≡ flat → made ≡ cells → text ≡ verdict_text files (told_of tokens made) → b ≡ is_some text → b ≡ told
      → is_some (verdict_text files (told_of flat cells)) ≡ told
  same_told tokens made text b told same same_cells is is_there e =
      ap (λ t. is_some (verdict_text files (told_of t cells))) (sym same) ∙ ap (λ cs. is_some (verdict_text files (told_of tokens cs))) (sym same_cells)
      ∙ ap is_some (sym is) ∙ sym is_there ∙ e

  -- .. where it is none, the tree is handed on
  pub weighed_whole : (same tokens : Flat) (made : List TokenCell) (text : Option (List ℕ)) (b : Bool) → AreCells flat settings (finite.entries flat) cells → same ≡ flat → tokens ≡ flat → made ≡ cells
      → text ≡ verdict_text files (told_of tokens made) → b ≡ is_some text → b ≡ false → IsWeighed settings flat (Some same)
  weighed_whole same tokens made text b are handed is_flat is_made is is_there e =
      (handed, (cells, (are, none_printed files (told_of flat cells) (same_told tokens made text b false is_flat is_made is is_there e))))

  -- .. else it is not
  pub weighed_broken : (tokens : Flat) (made : List TokenCell) (text : Option (List ℕ)) (b : Bool) → AreCells flat settings (finite.entries flat) cells → tokens ≡ flat → made ≡ cells
      → text ≡ verdict_text files (told_of tokens made) → b ≡ is_some text → b ≡ true → IsWeighed settings flat None
  weighed_broken tokens made text b are is_flat is_made is is_there e =
      let (first, others, told) = one_printed files (told_of flat cells) (same_told tokens made text b true is_flat is_made is is_there e) in
      (cells, first, others, (are, told))
