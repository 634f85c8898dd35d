use Rattle.std.proofs.Common.{◌≡◌, ◌++◌, ◌∙◌}
use Rattle.name_path.specs.Reference.{place_text}
use Rattle.certificates.proofs.Finding.{passed, past_is, weaker, with_more}
use Rattle.certificates.proofs.front.front_place.Goals as goal

pub returns-in-Some-clause-found : goal.returns-in-Some-clause-found
returns-in-Some-clause-found c place rest token e =
    let (same, left) = c.in-Ok.ensures.found (place_text place) (c.args.behind.now ++ rest) e in
    let after : c.in-Some.rest.now ≡ rest = past_is c.in-Ok.left.now c.args.behind.now c.in-Some.rest.now rest c.in-Some.ensures left in
    weaker c.place_before.result _ _ (λ r p. (p.0, p.1 ∙ after)) (with_more c.place_before.result _ _ (c.place_before.ensures.found place token same) c.place_before.ensures.rest)

pub returns-in-None-clause-found : goal.returns-in-None-clause-found
returns-in-None-clause-found c place rest token e =
    let (same, left) = c.in-Ok.ensures.found (place_text place) (c.args.behind.now ++ rest) e in
    absurd (c.in-None.ensures rest left)

pub returns-in-Err-clause-found : goal.returns-in-Err-clause-found
returns-in-Err-clause-found c place rest token e = passed c.in-Err.stop _ _ (c.in-Err.ensures.found (place_text place) (c.args.behind.now ++ rest) e)
