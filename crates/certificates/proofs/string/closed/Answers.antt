use Rattle.std.proofs.Common.{◌++◌, ℕ, List, sym, ap, subst, ◌∙◌}
use Rattle.std.specs.String.{string_bytes}
use Rattle.certificates.specs.inner.Fronts.{Lacks}
use Rattle.certificates.proofs.Cutting.{cut_once, has}
use Rattle.certificates.proofs.Finding.{behind_one}
use Rattle.certificates.proofs.string.closed.Goals as goal

pub returns-in_default-clause-found : goal.returns-in_default-clause-found
returns-in_default-clause-found c inside rest e lacks = absurd (has 34 inside rest (subst (Lacks 34) e c.in_default.ensures))

pub returns-clause-found : goal.returns-clause-found
returns-clause-found c inside rest e lacks =
    let (same, follows) = cut_once 34 c.in-Some.plain.now inside c.in-Some.rest.now rest c.in-Some.ensures.1 lacks (sym c.in-Some.ensures.0 ∙ e) in
    (c.in_ok-add.ensures ∙ ap (λ (z : List ℕ). string_bytes c.args.characters ++ z) same, follows)

pub returns-clause-left : goal.returns-clause-left
returns-clause-left c = behind_one c.args.text.now c.in-Some.plain.now c.in-Some.rest.now 34 c.in-Some.ensures.0
