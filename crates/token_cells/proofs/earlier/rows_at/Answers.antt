use Rattle.std.proofs.Common.{List, sym, subst, ◌∙◌}
use Rattle.std.proofs.lemmas.Result.{IfOk-weaker}
use Rattle.std.specs.FinMap as map
use Rattle.alias_ref.specs.Laws.{Flat}
use Rattle.alias_ref.specs.Unchanged.{AreDefinitions}
use Rattle.token_cells.specs.Cell.{AreCells}
use Rattle.token_cells.specs.TokenCell.{TokenCell}
use Rattle.token_cells.specs.inner.Kept.{texts_of}
use Rattle.token_cells.proofs.KeptRows.{kept_are, within_rows}
use Rattle.token_cells.proofs.earlier.rows_at.Goals as goal

pub kept_rows-requires : goal.kept_rows-requires
kept_rows-requires c =
    let tree = c.args.tree.now in
    let (settings, cells) = c.requires.cells in
    let shown = c.parts.ensures.rows ∙ c.cells.ensures in
    within_rows tree.tokens c.args.flat.now settings (texts_of c.parts.result.1.now) c.parts.result.0.now c.args.places.now
    (subst (λ (cs : List TokenCell). AreCells tree.tokens settings (map.entries tree.tokens) cs) (sym shown) cells) c.requires.places

pub returns : goal.returns
returns c =
    let tree = c.args.tree.now in
    let pages = texts_of c.parts.result.1.now in
    let rows = c.parts.result.0.now in
    let shown = c.parts.ensures.rows ∙ c.cells.ensures in
    record {
      kept = IfOk-weaker c.kept_rows.result _ _
          (λ kepts keeps. λ settings cells. kept_are c.unreached_cells.ensures.alike tree.tokens c.args.flat.now settings pages rows c.args.places.now kepts.items
          (subst (λ (f : Flat). AreDefinitions f) c.tokens.ensures c.definitions_stand.ensures) c.definitions_stand-2.ensures
          (subst (λ (cs : List TokenCell). AreCells tree.tokens settings (map.entries tree.tokens) cs) (sym shown) cells) c.requires.places keeps) c.kept_rows.ensures.kept;
      none = c.kept_rows.ensures.none;
    }
