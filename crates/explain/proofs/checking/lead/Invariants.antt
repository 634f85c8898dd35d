-- The steps that are left lead where all lead.
use Rattle.std.proofs.Common.{◌≡◌, List, drop, true}
use Rattle.name_path.specs.declared.place.Place.{Place}
use Rattle.alias_ref.specs.Written.{whole, is_written, written_in}
use Rattle.certificates.specs.declared.certificate.Hop.{Hop}
use Rattle.explain.specs.Validity.{GoesBy}
use Rattle.explain.specs.inner.Ways.{Knows}
use Rattle.explain.proofs.checking.lead.Given as goal

abbrev pub invariant-loop-step : goal.invariant-loop-step
invariant-loop-step l =
    (is_written (written_in l.flat (whole l.named.token)) ≡ true)
    × ((hops : List Hop) → Knows hops l.initial.ways → Knows hops l.ways
    × ((q : Place) → GoesBy (written_in l.flat) hops l.place (drop l.step-index l.steps) q → GoesBy (written_in l.flat) hops (whole l.named.token) l.named.trail q)
    × ((q : Place) → GoesBy (written_in l.flat) hops (whole l.named.token) l.named.trail q → GoesBy (written_in l.flat) hops l.place (drop l.step-index l.steps) q))
