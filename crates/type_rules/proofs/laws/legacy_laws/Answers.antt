use Rattle.type_rules.proofs.TextLaws.{one_spelled, spelled_read, read_spelled, texts_break, texts_break_elsewhere, others_stay, aliases_spell_nothing}
use Rattle.type_rules.proofs.laws.legacy_laws.Goals as goal

pub returns : goal.returns
returns c = record {
  one = λ text s t p q e h k. one_spelled text s t p q e h k;
  read = λ text s p h. spelled_read text s p h;
  spelled = λ kind text s k e. read_spelled kind text s k e;
  breaks = λ kind text b k e. texts_break kind text b k e;
  elsewhere = λ kind text k. texts_break_elsewhere kind text k;
  others = λ kind v h. others_stay kind v h;
  aliases = λ rest s h. aliases_spell_nothing rest s h;
}
