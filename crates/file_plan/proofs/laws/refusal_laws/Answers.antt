use Rattle.file_plan.proofs.ToldPlans.{refusals_tell, planned_break_none, none_broken_is_planned}
use Rattle.file_plan.proofs.laws.refusal_laws.Goals as goal

pub returns-clause-told : goal.returns-clause-told
returns-clause-told c = refusals_tell c.told_laws.ensures.unbroken c.told_laws.ensures.none c.told_laws.ensures.first

pub returns-clause-planned : goal.returns-clause-planned
returns-clause-planned c = planned_break_none c.told_laws.ensures.unbroken c.told_laws.ensures.none c.told_laws.ensures.first

pub returns-clause-all : goal.returns-clause-all
returns-clause-all c = none_broken_is_planned c.told_laws.ensures.unbroken c.told_laws.ensures.none c.told_laws.ensures.first
