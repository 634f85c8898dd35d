-- All are alike where those that are left are.
use Rattle.std.proofs.Common.{◌≡◌, drop, map}
use Rattle.transforms.specs.declared.platform.Platform.TheVariants.{Android, Swift}
use Rattle.token_cells.specs.Breaks.{names_on}
use Rattle.token_cells.specs.inner.Kept.{PageTexts, rows_view}
use Rattle.token_cells.proofs.names.are_named_alike.Given as goal

abbrev pub invariant-loop-row : goal.invariant-loop-row
invariant-loop-row l =
    (pages : PageTexts) → map (names_on Swift) (rows_view pages (drop l.row-index l.rows)) ≡ map (names_on Android) (rows_view pages (drop l.row-index l.rows))
    → map (names_on Swift) (rows_view pages l.rows) ≡ map (names_on Android) (rows_view pages l.rows)
