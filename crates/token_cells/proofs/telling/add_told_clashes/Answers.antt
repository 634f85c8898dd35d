use Rattle.std.proofs.Common.{◌++◌, ap, map}
use Rattle.std.proofs.lemmas.Slice.Zip.{either_empty_from_Zip}
use Rattle.std.specs.Iterator.Adapters.{zip_first, zip_second}
use Rattle.std.specs.List.{zip}
use Rattle.std.specs.Slice.Iter.{iter_rest}
use Rattle.refusals.specs.Refusal.{report_text}
use Rattle.token_cells.specs.Breaks.{clashes_from, clashes_on, names_on}
use Rattle.token_cells.specs.inner.Kept.{rows_view, texts_of}
use Rattle.token_cells.proofs.Sides.{no_pairs, none_shown}
use Rattle.token_cells.proofs.ToldTexts.{all_told}
use Rattle.token_cells.proofs.telling.add_told_clashes.Goals as goal

pub returns : goal.returns
returns c =
    let f = report_text c.args.files.now in
    let platform = c.args.platform in
    let reports = clashes_from platform (names_on platform) c.loop-token.clash in
    let tokens = iter_rest (zip_first c.loop-token.token-iterator) in
    let cells = rows_view (texts_of c.args.pages.now) (iter_rest (zip_second c.loop-token.token-iterator)) in
    all_told f c.loop-token.texts (c.args.texts.now ++ map f (clashes_on platform (zip c.args.tokens.now (rows_view (texts_of c.args.pages.now) c.args.rows.now)))) (reports (zip tokens cells))
    (ap reports (no_pairs tokens cells (none_shown (texts_of c.args.pages.now) _ _ (either_empty_from_Zip _ c.next.new.self _ c.in-None.is c.next.ensures.steps))))
    c.loop-token.invariant
