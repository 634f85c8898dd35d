use Rattle.std.proofs.Common.{◌≡◌, [], ◌∷◌, rules, ap}
use Rattle.token_tree.specs.MembersView.{entries_of}
use Rattle.token_tree.proofs.entries.list_of_one.Goals as goal

pub returns : goal.returns
returns c =
    let one : c.in_ok-new.field-0.value.items ≡ record { name = c.args.name.now; child = c.args.child } ∷ [] = search rules in
    ap entries_of one
