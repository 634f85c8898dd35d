use Rattle.std.proofs.Common.{◌++◌, ◌∷◌, arith, ◌∙◌}
use Rattle.std.specs.Fmt.{decimal}
use Rattle.certificates.proofs.Lines.{span_parts, spot_is}
use Rattle.certificates.proofs.front.front_span.Goals as goal

pub front_number-requires : goal.front_number-requires
front_number-requires c = (omega arith, omega arith)

pub front_number-requires-2 : goal.front_number-requires-2
front_number-requires-2 c = (omega arith, omega arith)

pub returns-in_err-file-clause-found : goal.returns-in_err-file-clause-found
returns-in_err-file-clause-found c spot rest fits same e =
    absurd (c.in_err-file.ensures.found spot.file (decimal spot.start ++ 32 ∷ (decimal spot.end ++ 10 ∷ rest)) fits.file (e ∙ span_parts spot rest))

pub returns-in_err-start-clause-found : goal.returns-in_err-start-clause-found
returns-in_err-start-clause-found c spot rest fits same e =
    let (_, offsets) = c.in_ok-file.ensures.found spot.file (decimal spot.start ++ 32 ∷ (decimal spot.end ++ 10 ∷ rest)) fits.file (e ∙ span_parts spot rest) in
    absurd (c.in_err-start.ensures.found spot.start (decimal spot.end ++ 10 ∷ rest) fits.start offsets)

pub returns-in_err-end-clause-found : goal.returns-in_err-end-clause-found
returns-in_err-end-clause-found c spot rest fits same e =
    let (_, offsets) = c.in_ok-file.ensures.found spot.file (decimal spot.start ++ 32 ∷ (decimal spot.end ++ 10 ∷ rest)) fits.file (e ∙ span_parts spot rest) in
    let (_, left) = c.in_ok-start.ensures.found spot.start (decimal spot.end ++ 10 ∷ rest) fits.start offsets in
    absurd (c.in_err-end.ensures.found spot.end rest fits.end left)

pub returns-clause-found : goal.returns-clause-found
returns-clause-found c spot rest fits same e =
    let (file, offsets) = c.in_ok-file.ensures.found spot.file (decimal spot.start ++ 32 ∷ (decimal spot.end ++ 10 ∷ rest)) fits.file (e ∙ span_parts spot rest) in
    let (start, left) = c.in_ok-start.ensures.found spot.start (decimal spot.end ++ 10 ∷ rest) fits.start offsets in
    let (end, follows) = c.in_ok-end.ensures.found spot.end rest fits.end left in
    (spot_is spot c.args.place c.of-file.result c.in_ok-start.start c.in_ok-end.end same (c.of-file.ensures ∙ file) start end, follows)

pub returns-clause-left : goal.returns-clause-left
returns-clause-left c = omega (arith, c.in_ok-file.ensures.left, c.in_ok-start.ensures.left, c.in_ok-end.ensures.left)
