use Rattle.std.proofs.Common.{◌++◌, ◌∙◌, ap, map, sym}
use Rattle.std.proofs.lemmas.List.{append-nil}
use Rattle.refusals.specs.Refusal.{report_text}
use Rattle.token_cells.specs.inner.Kept.{rows_view, texts_of}
use Rattle.token_cells.proofs.ApartCells.{apart_untold}
use Rattle.token_cells.proofs.telling.add_clashes.Goals as goal

pub returns-then-branch : goal.returns-then-branch
returns-then-branch c =
    let none = apart_untold c.args.platform c.args.tokens.now (rows_view (texts_of c.args.pages.now) c.args.rows.now) (c.in_ok-has_apart_names.ensures c.if-branch.true) in
    sym (append-nil c.args.texts.now) ∙ ap (λ reports. c.args.texts.now ++ map (report_text c.args.files.now) reports) (sym none)
