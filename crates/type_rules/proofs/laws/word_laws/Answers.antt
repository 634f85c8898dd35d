use Rattle.type_rules.proofs.WordFacts.{spaces_named, size_units_named, time_units_named, weights_named}
use Rattle.type_rules.proofs.laws.word_laws.Goals as goal

pub returns : goal.returns
returns c = record {
  spaces = λ word s. spaces_named word s;
  size_units = λ word u. size_units_named word u;
  time_units = λ word u. time_units_named word u;
  weights = λ word n. weights_named word n;
}
