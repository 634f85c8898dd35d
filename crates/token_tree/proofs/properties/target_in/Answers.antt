use Rattle.std.proofs.Common.{sym, ap, ◌∙◌}
use Rattle.std.specs.Prelude.{option_and_then}
use Rattle.token_tree.specs.Texts.{group_named}
use Rattle.token_tree.proofs.Targets.{group_found, no_group}
use Rattle.token_tree.proofs.properties.target_in.Goals as goal

pub returns-in-Ok : goal.returns-in-Ok
returns-in-Ok c =
    sym (group_found c.in-Some.text c.in-Ok.path c.in-Ok.ensures.path)
    ∙ ap (option_and_then group_named) (sym c.in-Some.is ∙ c.in_ok-text.ensures)

pub returns-in-Err-BadRef : goal.returns-in-Err-BadRef
returns-in-Err-BadRef c =
    no_group c.in-Some.text (λ path s. c.in-Err-BadRef.ensures.bad (cc) path s)
    ∙ ap (option_and_then group_named) (sym c.in-Some.is ∙ c.in_ok-text.ensures)
