use Rattle.std.proofs.Common.{◌++◌, codes, ◌∙◌}
use Rattle.certificates.specs.Certificate.{place_string, way_text}
use Rattle.certificates.proofs.Finding.{passed}
use Rattle.certificates.proofs.Lines.{cert_parts}
use Rattle.certificates.proofs.reading.guessed.Goals as goal

pub returns-in-Ok-clause-found : goal.returns-in-Ok-clause-found
returns-in-Ok-clause-found c perm cert is =
    let (same, left) = c.in-Some.ensures.found perm (place_string cert.from ++ (codes "\n" ++ way_text cert)) is.1 (is.0 ∙ cert_parts perm cert) in
    (same, c.in-Ok.ensures.found cert is.2 left)

pub returns-in-Err-clause-found : goal.returns-in-Err-clause-found
returns-in-Err-clause-found c perm cert is =
    let (_, left) = c.in-Some.ensures.found perm (place_string cert.from ++ (codes "\n" ++ way_text cert)) is.1 (is.0 ∙ cert_parts perm cert) in
    passed c.in-Err.stop _ _ (c.in-Err.ensures.found cert is.2 left)

pub returns-in-None-clause-found : goal.returns-in-None-clause-found
returns-in-None-clause-found c perm cert is =
    absurd (c.in-None.ensures.found perm (place_string cert.from ++ (codes "\n" ++ way_text cert)) is.1 (is.0 ∙ cert_parts perm cert))
