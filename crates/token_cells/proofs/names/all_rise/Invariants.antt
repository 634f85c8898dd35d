-- With the names of the tokens that are left, all are there.
use Rattle.std.proofs.Common.{◌≡◌, ◌++◌, List, ℕ, drop, flat_map}
use Rattle.transforms.specs.Rising.{RiseTo}
use Rattle.token_cells.specs.Breaks.{names_on}
use Rattle.token_cells.specs.inner.Kept.{rows_view, texts_of}
use Rattle.token_cells.proofs.names.all_rise.Given as goal

abbrev pub invariant-loop-row : goal.invariant-loop-row
invariant-loop-row l =
    (so_far : List (List ℕ)) × RiseTo so_far l.rising
    × (so_far ++ flat_map (names_on l.platform) (rows_view (texts_of l.pages) (drop l.row-index l.rows)) ≡ flat_map (names_on l.platform) (rows_view (texts_of l.pages) l.rows))
