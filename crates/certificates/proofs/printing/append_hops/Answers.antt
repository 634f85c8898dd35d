use Rattle.std.proofs.Common.{ℕ, List, take, ◌++◌, ap, append_assoc, ◌∙◌}
use Rattle.std.specs.List.{flat_map}
use Rattle.tk_io.proofs.Extending.{extends_on_err}
use Rattle.certificates.specs.Certificate.{hop_line}
use Rattle.certificates.proofs.printing.append_hops.Goals as goal

pub returns-in_err-append_hop-clause-err : goal.returns-in_err-append_hop-clause-err
returns-in_err-append_hop-clause-err c =
    let part = c.in_err-append_hop.ensures.err in
    let read = flat_map hop_line (take c.loop-hop.hop-index c.args.hops.now) in
    extends_on_err c.from_residual.result c.args.out.now c.append_hop.new.out (read ++ part.0) (part.1 ∙ (ap (λ (z : List ℕ). z ++ part.0) c.loop-hop.invariant ∙ append_assoc c.args.out.now read part.0))
