-- So many hops were followed, or more.
use Rattle.std.proofs.Common.{List}
use Rattle.certificates.specs.declared.certificate.Hop.{Hop}
use Rattle.explain.specs.inner.Ways.{Knows}
use Rattle.explain.proofs.WaysKnown.{Gone}
use Rattle.explain.proofs.ways.Ways.end_of.Given as goal

abbrev pub invariant-loop : goal.invariant-loop
invariant-loop l = (hops : List Hop) → Knows hops l.self → Gone hops l.counter l.place l.at
