use Rattle.std.proofs.Common.{rules}
use Rattle.std.proofs.lemmas.Fmt.{parse-decimal}
use Rattle.alias_ref.proofs.index.index_of.Goals as goal

pub returns-in_default-clause-none : goal.returns-in_default-clause-none
returns-in_default-clause-none c = λ i h e. let k = parse-decimal 64 i c.args.step.now c.parse.result h h e c.parse.ensures.value.0 in search (rules, k)

pub returns-clause-none : goal.returns-clause-none
returns-clause-none c = λ i h e. let k = parse-decimal 64 i c.args.step.now c.parse.result h h e c.parse.ensures.value.0 in search (rules, k, e)
