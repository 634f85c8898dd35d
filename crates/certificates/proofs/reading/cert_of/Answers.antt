use Rattle.certificates.specs.Certificate.{way_text}
use Rattle.certificates.proofs.Finding.{passed}
use Rattle.certificates.proofs.reading.cert_of.Goals as goal

pub returns-in-Ok-clause-found : goal.returns-in-Ok-clause-found
returns-in-Ok-clause-found c cert fits e =
    let (place, left) = c.in-Ok.ensures.found cert.from (way_text cert) fits.origin e in
    c.cert_from.ensures.found cert fits place left

pub returns-in-Err-clause-found : goal.returns-in-Err-clause-found
returns-in-Err-clause-found c cert fits e = passed c.in-Err.stop _ _ (c.in-Err.ensures.found cert.from (way_text cert) fits.origin e)
