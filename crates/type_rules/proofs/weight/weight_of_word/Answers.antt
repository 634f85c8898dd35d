use Rattle.std.proofs.Common.{refl}
use Rattle.type_rules.specs.declared.fault.ValueRule.TheVariants.{WeightWord}
use Rattle.type_rules.specs.Checked.{or_broken}
use Rattle.type_rules.specs.Words.{meaning, weights}
use Rattle.type_rules.specs.Value.{weight_of_word}
use Rattle.type_rules.proofs.Breaks.{stays}
use Rattle.type_rules.proofs.weight.weight_of_word.Goals as goal

pub returns-in_err-number-clause-broken : goal.returns-in_err-number-clause-broken
unfolding weight_of_word
returns-in_err-number-clause-broken c = stays (or_broken WeightWord (meaning weights c.args.word.now)) _ _ _ c.from_residual.ensures.1 (rw c.meaning.ensures at c.in_err-number.ensures.broken)

pub returns-clause-ok : goal.returns-clause-ok
unfolding weight_of_word
returns-clause-ok c = rw (rw c.meaning.ensures at c.in_ok-number.ensures.ok) (rw c.whole.ensures refl)
