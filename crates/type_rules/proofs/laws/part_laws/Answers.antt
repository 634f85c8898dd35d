use Rattle.type_rules.proofs.Kept.{colors_keep, sizes_keep, times_keep, curves_keep, families_keep, weights_keep, numbers_keep, shares_are_parts}
use Rattle.type_rules.proofs.Led.{colors_lead, sizes_lead, times_lead, curves_lead, families_lead, weights_lead, numbers_lead}
use Rattle.type_rules.proofs.laws.part_laws.Goals as goal

pub returns : goal.returns
returns c = record {
  colors = λ legacy v x e. colors_keep legacy v x e;
  sizes = λ legacy v x e. sizes_keep legacy v x e;
  times = λ legacy v x e. times_keep legacy v x e;
  curves = λ v x e. curves_keep v x e;
  families = λ v x e. families_keep v x e;
  weights = λ v x e. weights_keep v x e;
  numbers = λ v x e. numbers_keep v x e;
  shares = λ d t. shares_are_parts d t;
  breaks = ((λ legacy. (colors_lead legacy, sizes_lead legacy, times_lead legacy)), curves_lead, families_lead, weights_lead, numbers_lead);
}
