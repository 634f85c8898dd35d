-- With what is left of the run, all names are there.
use Rattle.std.proofs.Common.{◌≡◌, ◌++◌, List, ℕ}
use Rattle.std.specs.List.{slice_range}
use Rattle.transforms.specs.Rising.{RiseTo}
use Rattle.token_cells.proofs.pages.run_rises.Given as goal

abbrev pub invariant-loop-i : goal.invariant-loop-i
invariant-loop-i l =
    (names : List (List ℕ)) → RiseTo names l.fn.rising
    → (so_far : List (List ℕ)) × RiseTo so_far l.rising × (so_far ++ slice_range l.texts l.i l.fn.run.end ≡ names ++ slice_range l.texts l.fn.run.start l.fn.run.end)
