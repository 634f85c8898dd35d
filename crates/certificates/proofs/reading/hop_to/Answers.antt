use Rattle.certificates.proofs.Lines.{hop_is}
use Rattle.certificates.proofs.reading.hop_to.Goals as goal

pub returns-in-Some-clause-found : goal.returns-in-Some-clause-found
returns-in-Some-clause-found c hop rest fits place target e =
    let (same, follows) = c.in-Some.ensures.found hop.spot rest fits.spot place e in
    (hop_is hop c.in-Some.spot c.args.target same target, follows)

pub returns-clause-found : goal.returns-clause-found
returns-clause-found c hop rest fits place target e = absurd (c.in-None.ensures.found hop.spot rest fits.spot place e)
