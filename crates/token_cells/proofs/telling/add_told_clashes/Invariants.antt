-- What is printed of the tokens so far, and of the rest, by the names of those so far.
use Rattle.std.proofs.Common.{◌≡◌, ◌++◌, map}
use Rattle.std.specs.Iterator.Adapters.{zip_first, zip_second}
use Rattle.std.specs.List.{zip}
use Rattle.std.specs.Slice.Iter.{iter_rest}
use Rattle.refusals.specs.Refusal.{report_text}
use Rattle.token_cells.specs.Breaks.{clashes_from, names_on, clashes_on}
use Rattle.token_cells.specs.inner.Kept.{rows_view, texts_of}
use Rattle.token_cells.proofs.telling.add_told_clashes.Given as goal

abbrev pub invariant-loop-token : goal.invariant-loop-token
invariant-loop-token l =
    l.texts ++ map (report_text l.files) (clashes_from l.platform (names_on l.platform) l.clash (zip (iter_rest (zip_first l.token-iterator)) (rows_view (texts_of l.pages) (iter_rest (zip_second l.token-iterator)))))
    ≡ l.initial.texts ++ map (report_text l.files) (clashes_on l.platform (zip l.tokens (rows_view (texts_of l.pages) l.rows)))
