-- With the names of the tokens that are left, all are there.
use Rattle.std.proofs.Common.{◌≡◌, ◌++◌, drop, map, flat_map}
use Rattle.token_cells.specs.Breaks.{names_on}
use Rattle.token_cells.specs.inner.Kept.{rows_view, texts_of}
use Rattle.token_cells.proofs.names.all_names.Given as goal

abbrev pub invariant-loop-row : goal.invariant-loop-row
invariant-loop-row l =
    map (λ name. name.now) l.all.items ++ flat_map (names_on l.platform) (rows_view (texts_of l.pages) (drop l.row-index l.rows)) ≡ flat_map (names_on l.platform) (rows_view (texts_of l.pages) l.rows)
