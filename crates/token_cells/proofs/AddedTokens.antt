-- Tokens that were added to files, one after another.
use Rattle.std.proofs.Common.{◌≡◌, List, [], ◌∷◌, ◌++◌, ap}
use Rattle.std.proofs.lemmas.Slice.Zip.{all_zipped_more}
use Rattle.group_inherit.specs.Flattening.{TokenAt}
use Rattle.alias_ref.specs.Laws.{Flat}
use Rattle.transforms.specs.Config.{Settings}
use Rattle.token_cells.specs.Cell.{IsCell}
use Rattle.token_cells.specs.declared.gathering.Growing.{Growing}
use Rattle.token_cells.specs.declared.row.Row.{Row}
use Rattle.token_cells.specs.inner.AddedToPages.{HoldAll}
use Rattle.token_cells.specs.inner.Kept.{rows_view}
use Rattle.token_cells.specs.inner.Making.{ComesTo}
use Rattle.token_cells.specs.inner.Turns.{HasAdded}
use Rattle.token_cells.specs.inner.Typing.{AreTyped}
use Rattle.token_cells.proofs.PagesGrow.{more_shown}
use Rattle.token_cells.proofs.TypedTokens.{none_typed}

pub none_added : (flat : Flat) (settings : Settings) (g : Growing) → HoldAll g.pages [] → g.rows.items ≡ [] → g.bench.values.known.items ≡ [] → HasAdded flat settings [] g
none_added flat settings g hold rows none = record {
  cells = [];
  are = tt;
  hold = hold;
  shown = λ later grows. ap (rows_view later) rows;
  typed = none_typed flat settings g.bench.values.known.items none;
}

pub added_more : (flat : Flat) (settings : Settings) (tokens : List TokenAt) (token : TokenAt) (before after : Growing) (row : Row) → HasAdded flat settings tokens before
    → ComesTo (IsCell flat settings token.0) before.pages after.pages row → after.rows.items ≡ before.rows.items ++ row ∷ []
    → AreTyped flat settings after.bench.values.known.items → HasAdded flat settings (tokens ++ token ∷ []) after
added_more flat settings tokens token before after row h comes rows typed = record {
  cells = h.cells ++ comes.0 ∷ [];
  are = all_zipped_more (λ t d. IsCell flat settings t.0 d) tokens h.cells token comes.0 h.are comes.1;
  hold = comes.2.holds h.cells h.hold;
  shown = more_shown before.pages after.pages before.rows.items after.rows.items row h.cells comes.0 h.shown comes.2 rows;
  typed = typed;
}
