use Rattle.std.proofs.Common.{ap, ap₂, sym, ◌∙◌, option_map}
use Rattle.json_span.proofs.Views.{entries_in-of}
use Rattle.token_tree.specs.Tree.{group_with}
use Rattle.token_tree.specs.Shape.{properties_of}
use Rattle.token_tree.specs.View.{extends_view}
use Rattle.token_tree.proofs.Listed.{listed_properties}
use Rattle.token_tree.proofs.group.group_with.Goals as goal

pub returns : goal.returns
returns c = λ text es listed are.
    let file = c.args.file.now in
    let own = listed_properties file es c.args.listed.now (record { kind = c.in_ok-kind.kind; deprecated = c.in_ok-deprecated.deprecated; extends = option_map extends_view c.in_ok-extends.extends }) listed c.in_ok-kind.ensures c.in_ok-deprecated.ensures c.in_ok-extends.ensures in
    ap₂ group_with (own ∙ ap (properties_of file) (sym (entries_in-of es))) are
