use Rattle.std.proofs.Common.{◌∙◌, ap, ◌+◌, ◌==◌, not}
use Rattle.std.specs.List.{suffix_len}
use Rattle.refusals.proofs.Refusals.{column_some, column_none}
use Rattle.refusals.proofs.refusal.column_of.Goals as goal

pub returns-in-Some : goal.returns-in-Some
returns-in-Some c =
    column_some c.before-front.result.now c.in-Some.i c.in-Some.ensures.within c.in-Some.ensures.found c.in-Some.ensures.last
    ∙ ap (λ f. suffix_len (λ b. not (b == 10)) f + 1) c.before-front.ensures

pub returns-in-None : goal.returns-in-None
returns-in-None c =
    column_none c.before-front.result.now c.in-None.ensures.none
    ∙ ap (λ f. suffix_len (λ b. not (b == 10)) f + 1) c.before-front.ensures
