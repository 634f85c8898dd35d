-- What was given stays as it was, of which more and more is handed on, and no call failed.
use Rattle.std.proofs.Common.{◌≡◌, ◌≤◌, ◌-◌, length, drop}
use Rattle.std.specs.Io.KnownBytes.{Keeps, append_known}
use Rattle.gathering.specs.Growing.{Grew}
use Rattle.gathering.proofs.gathering.GatheringSink.flush.Given as goal

abbrev pub invariant-loop-self : goal.invariant-loop-self
invariant-loop-self g l =
    (l.self-inside.handed ≤ length l.self-inside.held)
    × (Grew g.B.Start.written (g.K.Sink.written l.self-inside.inner)
    × ((g.B.Start.faults ≤ g.K.Sink.faults l.self-inside.inner)
    × (Keeps (append_known (g.K.Sink.written l.initial.self-inside.inner) (drop l.initial.self-inside.handed l.initial.self-inside.held))
    (append_known (g.K.Sink.written l.self-inside.inner) (drop l.self-inside.handed l.self-inside.held))
    × (g.K.Sink.faults l.self-inside.inner ≡ g.K.Sink.faults l.initial.self-inside.inner))))

abbrev pub decreases-loop-self : goal.decreases-loop-self
decreases-loop-self g l = length l.self-inside.held - l.self-inside.handed
