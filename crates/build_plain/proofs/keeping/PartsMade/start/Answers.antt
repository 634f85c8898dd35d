use Rattle.build_plain.proofs.KeptParts.{keeping_ends, keeping_start}
use Rattle.build_plain.proofs.keeping.PartsMade.start.Goals as goal

pub returns-clause-begins : goal.returns-clause-begins
returns-clause-begins c = λ settings files perms are apart.
    keeping_start settings files perms c.args.trees c.bare_parts.result are apart c.bare_parts.ensures.trees c.bare_parts.ensures.merges c.bare_parts.ensures.cells

pub returns-clause-ends : goal.returns-clause-ends
returns-clause-ends c = keeping_ends
