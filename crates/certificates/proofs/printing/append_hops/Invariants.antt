use Rattle.std.proofs.Common.{◌≡◌, ◌++◌, take}
use Rattle.std.specs.List.{flat_map}
use Rattle.certificates.specs.Certificate.{hop_line}
use Rattle.certificates.proofs.printing.append_hops.Given as goal

abbrev pub invariant-loop-hop : goal.invariant-loop-hop
invariant-loop-hop l = l.out ≡ l.initial.out ++ flat_map hop_line (take l.hop-index l.hops)
