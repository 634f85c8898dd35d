use Rattle.build_plain.proofs.PlanNames.{permutations_are_named}
use Rattle.build_plain.proofs.laws.permutation_names.Goals as goal

pub returns : goal.returns
returns c = permutations_are_named c.plain_laws.ensures.shown c.plain_laws.ensures.fits
