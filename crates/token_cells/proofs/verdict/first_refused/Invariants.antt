-- No token so far breaks a rule.
use Rattle.std.proofs.Common.{◌≡◌, flat_map}
use Rattle.std.specs.Iterator.Adapters.{zip_first, zip_second}
use Rattle.std.specs.List.{zip}
use Rattle.std.specs.Slice.Iter.{iter_rest}
use Rattle.token_cells.specs.Breaks.{cell_reports}
use Rattle.token_cells.specs.inner.Kept.{rows_view, texts_of}
use Rattle.token_cells.proofs.verdict.first_refused.Given as goal

abbrev pub invariant-loop-token : goal.invariant-loop-token
invariant-loop-token l =
    flat_map (cell_reports l.flat) (zip (iter_rest (zip_first l.token-iterator)) (rows_view (texts_of l.pages) (iter_rest (zip_second l.token-iterator)))) ≡ flat_map (cell_reports l.flat) (zip l.tokens (rows_view (texts_of l.pages) l.rows))
