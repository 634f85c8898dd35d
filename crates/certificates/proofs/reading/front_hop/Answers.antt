use Rattle.std.proofs.Common.{◌++◌, ◌∷◌, arith, ◌∙◌}
use Rattle.std.proofs.lemmas.Result.{IfOk-weaker}
use Rattle.certificates.specs.Certificate.{place_string, span_words}
use Rattle.certificates.proofs.Finding.{passed}
use Rattle.certificates.proofs.Lines.{hop_parts}
use Rattle.certificates.proofs.reading.front_hop.Goals as goal

pub returns-in-Ok-clause-found : goal.returns-in-Ok-clause-found
returns-in-Ok-clause-found c hop rest fits e =
    let (place, left) = c.in-Ok.ensures.found hop.spot.place (place_string hop.target ++ 32 ∷ (span_words hop.spot ++ 10 ∷ rest)) fits.spot.token (e ∙ hop_parts hop rest) in
    c.hop_from.ensures.found hop rest fits place left

pub returns-in-Err-clause-found : goal.returns-in-Err-clause-found
returns-in-Err-clause-found c hop rest fits e =
    passed c.in-Err.stop _ _ (c.in-Err.ensures.found hop.spot.place (place_string hop.target ++ 32 ∷ (span_words hop.spot ++ 10 ∷ rest)) fits.spot.token (e ∙ hop_parts hop rest))

pub returns-in-Ok-clause-left : goal.returns-in-Ok-clause-left
returns-in-Ok-clause-left c = IfOk-weaker c.hop_from.result _ _ (λ r short. omega (arith, short, c.in-Ok.ensures.left)) c.hop_from.ensures.left
