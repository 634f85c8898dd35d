use Rattle.std.proofs.Common.{◌++◌, ◌∷◌, arith}
use Rattle.std.proofs.lemmas.Result.{IfOk-weaker}
use Rattle.certificates.specs.Certificate.{span_words}
use Rattle.certificates.proofs.Finding.{passed}
use Rattle.certificates.proofs.reading.hop_from.Goals as goal

pub returns-in-Ok-clause-found : goal.returns-in-Ok-clause-found
returns-in-Ok-clause-found c hop rest fits place e =
    let (target, left) = c.in-Ok.ensures.found hop.target (span_words hop.spot ++ 10 ∷ rest) fits.target e in
    c.hop_to.ensures.found hop rest fits place target left

pub returns-clause-found : goal.returns-clause-found
returns-clause-found c hop rest fits place e = passed c.in-Err.stop _ _ (c.in-Err.ensures.found hop.target (span_words hop.spot ++ 10 ∷ rest) fits.target e)

pub returns-in-Ok-clause-left : goal.returns-in-Ok-clause-left
returns-in-Ok-clause-left c = IfOk-weaker c.hop_to.result _ _ (λ r short. omega (arith, short, c.in-Ok.ensures.left)) c.hop_to.ensures.left
