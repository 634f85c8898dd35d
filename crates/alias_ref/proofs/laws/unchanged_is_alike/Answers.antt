use Rattle.alias_ref.proofs.UnchangedTrees.{alike}
use Rattle.alias_ref.proofs.laws.unchanged_is_alike.Goals as goal

pub returns : goal.returns
returns c = λ old new token defs of_new un. alike old new token defs of_new un
