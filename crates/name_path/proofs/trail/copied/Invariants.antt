use Rattle.std.proofs.Common.{◌≡◌, take}
use Rattle.name_path.proofs.trail.copied.Given as goal

abbrev pub invariant-loop-step : goal.invariant-loop-step
invariant-loop-step l = l.trail ≡ take l.step-index l.steps
