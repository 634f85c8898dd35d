use Rattle.std.proofs.Common.{subst}
use Rattle.resolver_doc.specs.Answer.{IsPlanFault}
use Rattle.resolver_doc.specs.declared.fault.PlanFault.{PlanFault}
use Rattle.resolver_doc.specs.declared.rule.Break.{Break}
use Rattle.file_plan.specs.Plan.{broken}
use Rattle.file_plan.proofs.plan.broken.Goals as goal

pub returns-in-Broken : goal.returns-in-Broken
returns-in-Broken c root is =
    let told : Break = record { rule = c.in-Broken.rule; start = c.in-Broken.start; end = c.in-Broken.end } in
    broken told c.in-Broken.ring (subst (λ (e : PlanFault). IsPlanFault root e) c.in-Broken.is is)
