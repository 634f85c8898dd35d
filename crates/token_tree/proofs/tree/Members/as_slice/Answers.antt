use Rattle.std.proofs.Common.{◌≡◌, rules, ap, ◌∙◌}
use Rattle.token_tree.specs.MembersView.{kept_members, entries_of}
use Rattle.token_tree.proofs.NameLists.{listed}
use Rattle.token_tree.proofs.tree.Members.as_slice.Goals as goal

pub returns-in-Some : goal.returns-in-Some
returns-in-Some c =
    let same : c.as_slice.result.now ≡ kept_members c.self.inside = search rules in
    ap entries_of same ∙ listed c.self.inside c.args.self.now c.self.invariant c.self.view_is

pub returns-in-None : goal.returns-in-None
returns-in-None c =
    let same : c.default.result.now ≡ kept_members c.self.inside = search rules in
    ap entries_of same ∙ listed c.self.inside c.args.self.now c.self.invariant c.self.view_is
