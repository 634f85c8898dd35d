use Rattle.std.proofs.Common.{◌≡◌, List, ap, sym, ◌∙◌, subst}
use Rattle.json_span.specs.View.{node_view}
use Rattle.resolver_doc.specs.Document.{ResolverData, resolver_of}
use Rattle.permutations.specs.Answer.{IsWithin, IsListFault}
use Rattle.permutations.specs.Permutation.{Permutation, permutations}
use Rattle.permutations.specs.View.{perms_view}
use Rattle.file_plan.specs.Plan.{planned, OfDocument, listed}
use Rattle.file_plan.specs.View.{plan_view}
use Rattle.file_plan.proofs.plan.plan_of_resolver.Goals as goal

pub returns-in_ok-kept_plan-in-Ok-clause-plan : goal.returns-in_ok-kept_plan-in-Ok-clause-plan
returns-in_ok-kept_plan-in-Ok-clause-plan c =
    let root = node_view c.args.root.now in
    let same : plan_view c.in_ok-kept_plan-in-Ok.field-0 ≡ permutations (resolver_of root) =
    c.in_ok-kept_plan-in-Ok.ensures ∙ (ap perms_view c.as_slice.ensures ∙ (c.in-Ok.ensures.perms ∙ ap permutations c.requires.says)) in
    subst (λ (perms : List Permutation). OfDocument root (planned perms)) (sym same)
    (listed c.requires.sound (subst (λ (plan : ResolverData). IsWithin plan) c.requires.says c.in-Ok.ensures.within))

pub returns-in-Err-clause-refused : goal.returns-in-Err-clause-refused
returns-in-Err-clause-refused c =
    c.beyond.ensures (subst (λ (plan : ResolverData). IsListFault plan c.in-Err.fault) c.requires.says c.in-Err.ensures.fault)
