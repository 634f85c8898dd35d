use Rattle.group_inherit.proofs.EachAnswers.{each_tree_answers}
use Rattle.group_inherit.proofs.laws.each_tree_answers.Goals as goal

pub returns : goal.returns
returns c = each_tree_answers
