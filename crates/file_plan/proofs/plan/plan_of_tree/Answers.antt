use Rattle.std.proofs.Common.{Some, subst}
use Rattle.std.proofs.lemmas.Result.{IfOk-weaker}
use Rattle.json_span.specs.Answer.{shows}
use Rattle.json_span.specs.View.{node_view}
use Rattle.file_plan.specs.Plan.{planned, OfDocument, Plans}
use Rattle.file_plan.specs.Trees.{IsTreeOf}
use Rattle.file_plan.specs.View.{plan_view}
use Rattle.file_plan.proofs.FoundPlans.{if_refused_so, is_unread}
use Rattle.file_plan.proofs.plan.plan_of_tree.Goals as goal

pub returns-in-Read-clause-plan : goal.returns-in-Read-clause-plan
returns-in-Read-clause-plan c = λ text is.
    let root = node_view c.in-Read.root in
    IfOk-weaker c.plan_of_document.result (λ plan. OfDocument root (planned (plan_view plan))) (λ plan. Plans (Some text) (planned (plan_view plan)))
    (λ plan of. (shows root, subst (IsTreeOf text) c.in-Read.is is, of)) c.plan_of_document.ensures.plan

pub returns-in-Read-clause-refused : goal.returns-in-Read-clause-refused
returns-in-Read-clause-refused c = λ text is.
    let root = node_view c.in-Read.root in
    if_refused_so (OfDocument root) (Plans (Some text)) (λ p of. (shows root, subst (IsTreeOf text) c.in-Read.is is, of)) c.plan_of_document.result c.plan_of_document.ensures.refused

pub returns-in-Flawed-clause-refused : goal.returns-in-Flawed-clause-refused
returns-in-Flawed-clause-refused c = λ text is.
    c.unread.ensures text (is_unread text c.in-Flawed.fault (subst (IsTreeOf text) c.in-Flawed.is is))
