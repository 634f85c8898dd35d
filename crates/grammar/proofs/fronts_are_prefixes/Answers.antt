use Rattle.grammar.proofs.Fronts.{is_front, goes_on}
use Rattle.grammar.proofs.fronts_are_prefixes.Goals as goal

pub returns : goal.returns
returns g c = λ grammar ok r each t. (λ f. goes_on grammar ok.spelled ok.passes f each, λ (w, d). is_front grammar t w d)
