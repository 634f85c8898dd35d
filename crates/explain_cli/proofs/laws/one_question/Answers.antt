use Rattle.explain_cli.proofs.QuestionsAsked.{one_question}
use Rattle.explain_cli.proofs.laws.one_question.Goals as goal

pub returns : goal.returns
returns c = one_question c.one_place.ensures
