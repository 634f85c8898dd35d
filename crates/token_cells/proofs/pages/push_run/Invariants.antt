-- With what is left of the run, all names are added.
use Rattle.std.proofs.Common.{◌≡◌, ◌++◌, map}
use Rattle.std.specs.List.{slice_range}
use Rattle.token_cells.proofs.pages.push_run.Given as goal

abbrev pub invariant-loop-i : goal.invariant-loop-i
invariant-loop-i l =
    map (λ name. name.now) l.names.items ++ slice_range l.texts l.i l.fn.run.end
    ≡ map (λ name. name.now) l.fn.names.items ++ slice_range l.texts l.fn.run.start l.fn.run.end
