use Rattle.permutations.proofs.ListsAnswer.{lists_answer}
use Rattle.permutations.proofs.laws.each_list_answers.Goals as goal

pub returns : goal.returns
returns c = lists_answer
