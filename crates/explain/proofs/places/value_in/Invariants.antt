use Rattle.std.proofs.Common.{◌≡◌, drop}
use Rattle.json_span.specs.View.{ref_view}
use Rattle.alias_ref.specs.Written.{value_at}
use Rattle.explain.proofs.places.value_in.Given as goal

abbrev pub invariant-loop-step : goal.invariant-loop-step
invariant-loop-step l = value_at (ref_view l.node) (drop l.step-index l.steps) ≡ value_at l.entry.def.value l.steps
