use Rattle.std.proofs.Common.{refl}
use Rattle.type_rules.specs.declared.fault.ValueRule.TheVariants.{StrokeWord}
use Rattle.type_rules.specs.Checked.{or_broken}
use Rattle.type_rules.specs.Words.{meaning}
use Rattle.type_rules.proofs.Breaks.{stays}
use Rattle.composite_rules.specs.Words.{stroke_words}
use Rattle.composite_rules.specs.Value.{stroke_of_word}
use Rattle.composite_rules.proofs.stroke.stroke_of_word.Goals as goal

pub returns-in_err-word-clause-broken : goal.returns-in_err-word-clause-broken
unfolding stroke_of_word
returns-in_err-word-clause-broken c = stays (or_broken StrokeWord (meaning stroke_words c.args.text.now)) _ _ _ c.from_residual.ensures.1 (rw c.meaning.ensures at c.in_err-word.ensures.broken)

pub returns-clause-ok : goal.returns-clause-ok
unfolding stroke_of_word
returns-clause-ok c = rw (rw c.meaning.ensures at c.in_ok-word.ensures.ok) refl
