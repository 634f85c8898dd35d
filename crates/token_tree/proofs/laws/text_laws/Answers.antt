use Rattle.std.proofs.Common.{◌∙◌, ap, sym}
use Rattle.token_tree.specs.Texts.{kinds, kind_named}
use Rattle.token_tree.proofs.Names.{name_test, test_name, kind_found, kind_spelled}
use Rattle.token_tree.proofs.Targets.{group_found, group_spelled}
use Rattle.token_tree.proofs.laws.text_laws.Goals as goal

pub returns : goal.returns
returns c = record {
  names = λ text. (test_name text, name_test text);
  kinds = λ text kind. (kind_spelled kinds text kind, λ e. ap kind_named (sym e) ∙ kind_found kind);
  groups = λ text path. (group_spelled text path, group_found text path);
}
