use Rattle.alias_ref.proofs.RingsAreReal.{walk_break-ring}
use Rattle.alias_ref.proofs.BreaksAreReal.{break_tells}
use Rattle.alias_ref.proofs.LimitsAreReal.{too_deep, too_big, of_walk}
use Rattle.alias_ref.proofs.PlacesAreThere.{place_there}
use Rattle.alias_ref.proofs.laws.breaks_are_real.Goals as goal

pub returns-clause-ring : goal.returns-clause-ring
returns-clause-ring c = λ T token p ring h. walk_break-ring T token p ring h

pub returns-clause-told : goal.returns-clause-told
returns-clause-told c = λ T token b h. let k = break_tells T token b h in record { syntax = k.0; target = k.1; deep = too_deep T token b h; big = too_big T token b h; of_walk = of_walk T token b h; ring = k.2 }

pub returns-clause-there : goal.returns-clause-there
returns-clause-there c = place_there
