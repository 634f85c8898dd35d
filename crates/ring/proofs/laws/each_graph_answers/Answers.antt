use Rattle.ring.proofs.FirstRoutes.{ring_or_none, is_grounded}
use Rattle.ring.proofs.laws.each_graph_answers.Goals as goal

pub returns-clause-answers : goal.returns-clause-answers
returns-clause-answers g c = λ decided needs root nodes within. ring_or_none needs root decided nodes within

pub returns-clause-grounded : goal.returns-clause-grounded
returns-clause-grounded g c = λ decided needs root nodes within none. is_grounded needs root decided nodes within none
