use Rattle.std.proofs.Common.{◌≡◌, take}
use Rattle.std.specs.Io.KnownBytes.{Appends}
use Rattle.token_cli.specs.inner.Step.{records_of}
use Rattle.token_cli.proofs.workspace.write_changes.Given as goal

abbrev pub invariant-loop-change : goal.invariant-loop-change
invariant-loop-change g l = Appends (g.K.Sink.written l.initial.out) (g.K.Sink.written l.out) (records_of (take l.change-index l.changes)) × (g.K.Sink.faults l.out ≡ g.K.Sink.faults l.initial.out)
