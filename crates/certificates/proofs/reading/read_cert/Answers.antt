use Rattle.std.proofs.Common.{◌≡◌, List, ℕ, sym, ap, ◌∙◌}
use Rattle.std.proofs.lemmas.Result.{IfOk-weaker}
use Rattle.certificates.specs.Certificate.{cert_text}
use Rattle.certificates.specs.declared.certificate.Cert.{Cert}
use Rattle.certificates.specs.declared.certificate.Named.{Named}
use Rattle.certificates.specs.declared.reading.CertStop.TheVariants as stops
use Rattle.certificates.proofs.Finding.{stopped}
use Rattle.certificates.proofs.reading.read_cert.Goals as goal

pub returns-in-Ok-clause-alone : goal.returns-in-Ok-clause-alone
returns-in-Ok-clause-alone c =
    IfOk-weaker c.checked.result _ _ (λ n p perm cert is.
    let (name, same) = c.in-Ok.ensures.found perm cert is in
    (ap (λ (m : Named). m.perm.now) p.0 ∙ name, ap (λ (m : Named). m.cert) p.0 ∙ same)) c.checked.ensures.spelled

pub returns-in-Ok-clause-bad : goal.returns-in-Ok-clause-bad
returns-in-Ok-clause-bad c h perm cert is =
    let (name, same) = c.in-Ok.ensures.found perm cert is in
    c.checked.ensures.bad h (is.0 ∙ sym (ap (λ (z : List ℕ). cert_text z c.in-Ok.named.cert) name ∙ ap (λ (z : Cert). cert_text perm z) same))

pub returns-in-Err-clause-bad : goal.returns-in-Err-clause-bad
returns-in-Err-clause-bad c h perm cert is =
    let bad : c.in-Err.stop ≡ stops.BadCert = cc h in
    stopped c.in-Err.stop _ (c.in-Err.ensures.found perm cert is) bad
