-- The rows so far were added, and there is room for the others.
use Rattle.std.proofs.Common.{◌≡◌, ◌+◌, ◌-◌, ◌≤◌, ◌++◌, List, length, map, take, vec_len, vec_capacity}
use Rattle.std.specs.List.{AllZip}
use Rattle.token_cells.specs.declared.row.Fragments.{Fragments}
use Rattle.token_cells.specs.declared.row.Row.TheVariants.{Unbroken}
use Rattle.token_cells.specs.inner.Blocks.{Shows, moved_fragments}
use Rattle.token_cells.specs.inner.Kept.{PageTexts}
use Rattle.token_cells.proofs.moving.push_moved.Given as goal

abbrev pub invariant-loop-kept : goal.invariant-loop-kept
invariant-loop-kept l = record {
  room : vec_len l.rows + (length l.kepts - l.kept-index) ≤ vec_capacity l.rows;
  rows : (pages : PageTexts) (fs : List Fragments) → AllZip (Shows pages) fs l.kepts
      → l.rows.items ≡ l.fn.rows.items ++ map (λ f. Unbroken (moved_fragments l.from l.to f)) (take l.kept-index fs);
}
