use Rattle.std.proofs.Common.{◌≡◌, arith}
use Rattle.std.proofs.lemmas.Fmt.{parse-decimal}
use Rattle.certificates.proofs.front.number_of.Goals as goal

pub returns-in-Ok-clause-found : goal.returns-in-Ok-clause-found
returns-in-Ok-clause-found c n small e =
    let is = parse-decimal 32 n c.args.text.now c.parse.result small (omega (arith, small)) e c.parse.ensures.value.0 in
    let same : c.in-Ok.number ≡ n = cc (is, c.in-Ok.is) in
    same

pub returns-in-Err-clause-found : goal.returns-in-Err-clause-found
returns-in-Err-clause-found c n small e =
    let is = parse-decimal 32 n c.args.text.now c.parse.result small (omega (arith, small)) e c.parse.ensures.value.0 in
    cc (is, c.in-Err.is)
