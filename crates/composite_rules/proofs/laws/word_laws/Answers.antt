use Rattle.composite_rules.proofs.WordFacts.{words_named, caps_named}
use Rattle.composite_rules.proofs.laws.word_laws.Goals as goal

pub returns : goal.returns
returns c = record {
  words = λ word s. words_named word s;
  caps = λ word s. caps_named word s;
}
