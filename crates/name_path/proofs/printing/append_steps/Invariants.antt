use Rattle.std.proofs.Common.{◌≡◌, ◌++◌, ◌∷◌, take}
use Rattle.std.specs.List.{flat_map}
use Rattle.name_path.specs.Reference.{escaped_step}
use Rattle.name_path.proofs.printing.append_steps.Given as goal

abbrev pub invariant-loop-step : goal.invariant-loop-step
invariant-loop-step l = l.out ≡ l.initial.out ++ flat_map (λ step. 47 ∷ escaped_step step) (take l.step-index l.steps)
