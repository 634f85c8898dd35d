use Rattle.certificates.proofs.Finding.{passed}
use Rattle.certificates.proofs.Lines.{cert_is}
use Rattle.certificates.proofs.reading.cert_from.Goals as goal

pub returns-in-Ok-clause-found : goal.returns-in-Ok-clause-found
returns-in-Ok-clause-found c cert fits from e =
    let (hops, left) = c.in-Ok.ensures.found cert.hops cert.last fits.hops e in
    cert_is cert c.args.from c.in-Ok.hops c.in_ok-last-in-Ok.last from hops (c.in_ok-last-in-Ok.ensures.found cert.last fits.last left)

pub returns-clause-found : goal.returns-clause-found
returns-clause-found c cert fits from e = passed c.in-Err.stop _ _ (c.in-Err.ensures.found cert.hops cert.last fits.hops e)
