use Rattle.std.proofs.Common.{◌++◌, ◌∷◌, [], ◌∙◌}
use Rattle.certificates.specs.Certificate.{span_words}
use Rattle.certificates.proofs.Finding.{passed}
use Rattle.certificates.proofs.Lines.{end_parts}
use Rattle.certificates.proofs.reading.end_spot.Goals as goal

pub returns-in-Some-clause-found : goal.returns-in-Some-clause-found
returns-in-Some-clause-found c last fits e =
    let (place, left) = c.in-Ok.ensures.found last.place (span_words last ++ 10 ∷ []) fits.token (e ∙ end_parts last) in
    (c.in-Some.ensures.found last [] fits place left).0

pub returns-in-None-clause-found : goal.returns-in-None-clause-found
returns-in-None-clause-found c last fits e =
    let (place, left) = c.in-Ok.ensures.found last.place (span_words last ++ 10 ∷ []) fits.token (e ∙ end_parts last) in
    absurd (c.in-None.ensures.found last [] fits place left)

pub returns-in-Err-clause-found : goal.returns-in-Err-clause-found
returns-in-Err-clause-found c last fits e = passed c.in-Err.stop _ _ (c.in-Err.ensures.found last.place (span_words last ++ 10 ∷ []) fits.token (e ∙ end_parts last))
