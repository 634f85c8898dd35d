use Rattle.file_plan.proofs.EachPlans.{each_plan}
use Rattle.file_plan.proofs.laws.each_plan.Goals as goal

pub returns : goal.returns
returns c = each_plan c.json_laws.ensures.answered c.each_document_answers.ensures c.each_list_answers.ensures
