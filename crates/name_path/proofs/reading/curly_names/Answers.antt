use Rattle.std.proofs.Common.{◌≡◌, ◌∷◌, ◌++◌, [], ◌∙◌, subst, IfSome}
use Rattle.name_path.proofs.Steps.{curly_found, curly_one}
use Rattle.name_path.proofs.reading.curly_names.Goals as goal

pub returns-clause-some : goal.returns-clause-some
returns-clause-some c =
    curly_found c.args.text.now c.in-Some.inside c.in_ok-path.path
    (subst (λ o. IfSome o (λ t. c.args.text.now ≡ 123 ∷ (t ++ 125 ∷ []))) c.in-Some.is c.in_ok-inside.ensures.some)
    (c.in_ok-path.ensures ∙ (c.as_slice.ensures.value ∙ c.in_ok-names.ensures))

pub returns-clause-one : goal.returns-clause-one
returns-clause-one c =
    curly_one c.args.text.now c.in-Some.inside c.in_ok-path.path
    (subst (λ o. IfSome o (λ t. c.args.text.now ≡ 123 ∷ (t ++ 125 ∷ []))) c.in-Some.is c.in_ok-inside.ensures.some)
    (c.in_ok-path.ensures ∙ (c.as_slice.ensures.value ∙ c.in_ok-names.ensures))
