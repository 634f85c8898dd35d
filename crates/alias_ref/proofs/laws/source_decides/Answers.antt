use Rattle.alias_ref.proofs.MovedValues.{source_decides, refs_of_source, shown_of_source}
use Rattle.alias_ref.proofs.laws.source_decides.Goals as goal

pub returns-clause-written : goal.returns-clause-written
returns-clause-written c = λ d e k l s trail. source_decides d e k l s trail

pub returns-clause-refs : goal.returns-clause-refs
returns-clause-refs c = λ d e k l s. refs_of_source d e k l s

pub returns-clause-shown : goal.returns-clause-shown
returns-clause-shown c = λ d e k l s. shown_of_source d e k l s
