use Rattle.file_plan.proofs.OnePlans.{one_plan}
use Rattle.file_plan.proofs.SoundPlans.{inlines_stand, names_are_apart}
use Rattle.file_plan.proofs.laws.file_plan_laws.Goals as goal

pub returns-clause-one : goal.returns-clause-one
returns-clause-one c = one_plan c.json_laws.ensures.answer c.plan_laws.ensures.one c.plan_laws.ensures.unbroken

pub returns-clause-stand : goal.returns-clause-stand
returns-clause-stand c = inlines_stand c.source_laws.ensures.parts

pub returns-clause-apart : goal.returns-clause-apart
returns-clause-apart c = names_are_apart c.naming_laws.ensures.apart c.name_laws.ensures.apart
