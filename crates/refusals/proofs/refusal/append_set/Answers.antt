use Rattle.std.proofs.Common.{◌++◌, ◌∷◌, [], List, ℕ, codes, ap, ◌∙◌, refl}
use Rattle.name_path.specs.Reference.{pointer_text}
use Rattle.refusals.specs.Refusal.{quoted_line}
use Rattle.refusals.proofs.Parts.{nothing_more}
use Rattle.refusals.proofs.refusal.append_set.Goals as goal

pub returns-clause-ok : goal.returns-clause-ok
returns-clause-ok c =
    c.in_ok-append_group.ensures.ok
    ∙ ap (λ (path : List (List ℕ)). c.args.out.now ++ quoted_line (codes "ring ") (pointer_text path))
    (c.in_ok-path.ensures ∙ ap (λ (name : List ℕ). codes "sets" ∷ name ∷ []) c.as_str.ensures)

pub returns-in_err-path-clause-err : goal.returns-in_err-path-clause-err
returns-in_err-path-clause-err c = nothing_more c.from_residual.result c.args.out.now c.args.out.now refl
