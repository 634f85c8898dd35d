-- The steps so far.
use Rattle.std.proofs.Common.{◌≡◌, ◌∷◌, take}
use Rattle.type_rules.proofs.fault.before.Given as goal

abbrev pub invariant-loop-step : goal.invariant-loop-step
invariant-loop-step l = l.trail ≡ l.fn.step ∷ take l.step-index l.step-items
