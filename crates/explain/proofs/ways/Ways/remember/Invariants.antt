-- The end is still ahead.
use Rattle.std.proofs.Common.{List}
use Rattle.certificates.specs.declared.certificate.Hop.{Hop}
use Rattle.explain.specs.Following.{Reaches}
use Rattle.explain.specs.inner.Ways.{Knows}
use Rattle.explain.proofs.ways.Ways.remember.Given as goal

abbrev pub invariant-loop : goal.invariant-loop
invariant-loop l = (hops : List Hop) → Knows hops l.initial.self → Reaches hops l.place l.fn.end → Knows hops l.self × Reaches hops l.from l.fn.end
