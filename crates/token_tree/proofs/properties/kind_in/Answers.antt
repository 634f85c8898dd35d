use Rattle.std.proofs.Common.{sym, ap, ◌∙◌}
use Rattle.std.specs.Prelude.{option_and_then}
use Rattle.token_tree.specs.Texts.{kind_named}
use Rattle.token_tree.proofs.Names.{kind_decided}
use Rattle.token_tree.proofs.properties.kind_in.Goals as goal

pub returns : goal.returns
returns c =
    kind_decided c.named.result c.as_str.result.now c.named.ensures
    ∙ (ap kind_named c.as_str.ensures
    ∙ ap (option_and_then kind_named) (sym c.in-Some.is ∙ c.in_ok-text.ensures))
