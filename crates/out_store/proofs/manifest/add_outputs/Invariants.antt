-- The keys are those before and the paths so far.
use Rattle.std.proofs.Common.{◌≡◌, ◌||◌, ℕ, List, take}
use Rattle.std.specs.FinMap as finite
use Rattle.out_store.specs.Manifest.{is_listed}
use Rattle.out_store.proofs.manifest.add_outputs.Given as goal

abbrev pub invariant-loop-path : goal.invariant-loop-path
invariant-loop-path l = (q : List ℕ) → finite.contains_key l.paths q ≡ (finite.contains_key l.initial.paths q || is_listed (take l.path-index (finite.keys l.outputs)) q)
