use Rattle.explain_cli.proofs.OneAnswers.{one_answer}
use Rattle.explain_cli.proofs.laws.one_answer.Goals as goal

pub returns : goal.returns
returns c = one_answer (record {
  plan = c.file_plan_laws.ensures.one;
  apart = c.file_plan_laws.ensures.apart;
  flat = c.one_merge.ensures.flat;
  found = c.one_verdict.ensures.found;
  name = c.one_verdict.ensures.name;
})
