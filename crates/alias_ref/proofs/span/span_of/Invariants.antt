use Rattle.std.proofs.Common.{◌≡◌, Some, drop}
use Rattle.alias_ref.specs.Written.{Role}
use Rattle.alias_ref.specs.Span.{span_below, span_in}
use Rattle.json_span.specs.View.{ref_view}
use Rattle.alias_ref.specs.inner.Spots.{IsFlawless}
use Rattle.alias_ref.proofs.span.span_of.Given as goal

abbrev pub invariant-loop-step : goal.invariant-loop-step
invariant-loop-step l =
    (role : Role) × (Some (span_below role (ref_view l.node) (drop l.step-index l.steps)) ≡ span_in l.flat l.place) × IsFlawless (ref_view l.node)
