use Rattle.std.proofs.Common.{◌∷◌, length, arith, ◌++◌, ◌∙◌, ap}
use Rattle.std.proofs.lemmas.Result.{IfOk-weaker}
use Rattle.json_span.specs.Spelling.{inside_text}
use Rattle.certificates.proofs.Strings.{behind_quote, quoted}
use Rattle.certificates.proofs.string.front_string.Goals as goal

pub returns-in-Some-clause-found : goal.returns-in-Some-clause-found
returns-in-Some-clause-found c s rest e = c.inside_string.ensures.found s rest (behind_quote c.args.text.now c.in-Some.inside.now s rest c.in-Some.ensures e)

pub returns-in-None-clause-found : goal.returns-in-None-clause-found
returns-in-None-clause-found c s rest e = absurd (c.in-None.ensures (inside_text s ++ 34 ∷ rest) (e ∙ quoted s rest))

pub returns-in-Some-clause-left : goal.returns-in-Some-clause-left
returns-in-Some-clause-left c = IfOk-weaker c.inside_string.result _ _ (λ r short. omega (arith, short, ap length c.in-Some.ensures)) c.inside_string.ensures.left
