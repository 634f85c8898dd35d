use Rattle.alias_ref.proofs.AliasChains.{blank_aliases}
use Rattle.alias_ref.proofs.RememberedTokens.{blank_remembers}
use Rattle.alias_ref.proofs.evaluator.Evaluator.new.Goals as goal

pub invariant_of-result : goal.invariant_of-result
invariant_of-result c = (
  blank_remembers c.args.flat.now c.in_ok-memory.memory.known.items c.in_ok-memory.ensures,
  blank_aliases c.args.flat.now c.in_ok-aliases.aliases.targets.items c.in_ok-aliases.ensures,
)
