-- What is kept for the places so far.
use Rattle.std.proofs.Common.{◌≡◌, take}
use Rattle.std.specs.List.{AllZip}
use Rattle.std.specs.Option.{is_none}
use Rattle.std.specs.Prelude.{map}
use Rattle.token_cells.specs.inner.Earlier.{IsKeptOf}
use Rattle.token_cells.specs.inner.Kept.{texts_of}
use Rattle.token_cells.proofs.earlier.kept_rows.Given as goal

abbrev pub invariant-loop-place : goal.invariant-loop-place
invariant-loop-place l =
    AllZip (IsKeptOf (texts_of l.pages) l.rows) (take l.place-index l.places) l.kepts.items × (map is_none l.kepts.items ≡ map is_none (take l.place-index l.places))
