use Rattle.std.proofs.Common.{List, ℕ, Option, subst}
use Rattle.std.specs.Option.{option_copied}
use Rattle.std.specs.Result.{IfOk, IfErr}
use Rattle.file_plan.specs.Plan.{planned, Plans}
use Rattle.file_plan.specs.Trees.{IsRead}
use Rattle.file_plan.specs.View.{plan_view, IsPlanRefusal}
use Rattle.file_plan.proofs.FoundPlans.{read_by}
use Rattle.file_plan.proofs.plan.plan_of.Goals as goal

pub returns-in-Some-clause-plan : goal.returns-in-Some-clause-plan
returns-in-Some-clause-plan c = λ text is.
    read_by (λ (t : Option (List ℕ)). IfOk c.plan_of_tree.result (λ plan. Plans t (planned (plan_view plan)))) c.in-Some.tree.now c.plan_of_tree.ensures.plan text
    (subst (λ r. IsRead text (option_copied r)) c.in-Some.is is)

pub returns-in-Some-clause-refused : goal.returns-in-Some-clause-refused
returns-in-Some-clause-refused c = λ text is.
    read_by (λ (t : Option (List ℕ)). IfErr c.plan_of_tree.result (IsPlanRefusal (Plans t))) c.in-Some.tree.now c.plan_of_tree.ensures.refused text
    (subst (λ r. IsRead text (option_copied r)) c.in-Some.is is)
