use Rattle.permutations.proofs.SourcesWritten.{inlines_are_part, files_are_named}
use Rattle.permutations.proofs.SetsWithin.{set_comes_to}
use Rattle.permutations.proofs.laws.source_laws.Goals as goal

pub returns-clause-sets : goal.returns-clause-sets
returns-clause-sets c = set_comes_to

pub returns-clause-parts : goal.returns-clause-parts
returns-clause-parts c = inlines_are_part

pub returns-clause-named : goal.returns-clause-named
returns-clause-named c = files_are_named
