use Rattle.std.proofs.Common.{sym, ap}
use Rattle.token_cells.specs.Breaks.{verdict_text}
use Rattle.token_cells.specs.inner.Kept.{rows_view, texts_of}
use Rattle.token_cells.proofs.ApartCells.{apart_untold}
use Rattle.token_cells.proofs.verdict.first_clash.Goals as goal

pub returns-then-branch : goal.returns-then-branch
returns-then-branch c =
    ap (verdict_text c.args.files.now) (sym (apart_untold c.args.platform c.args.tokens.now (rows_view (texts_of c.args.pages.now) c.args.rows.now) (c.in_ok-has_apart_names.ensures c.if-branch.true)))
