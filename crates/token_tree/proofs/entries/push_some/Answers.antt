use Rattle.std.proofs.Common.{[], ◌∷◌, ◌++◌, option_map, sym, ap, ◌∙◌}
use Rattle.std.proofs.lemmas.List.{append-nil, map-append}
use Rattle.token_tree.specs.View.{member_view}
use Rattle.token_tree.specs.MembersView.{entries_of}
use Rattle.token_tree.specs.inner.Lists.{with_front}
use Rattle.token_tree.proofs.entries.push_some.Goals as goal

pub returns-in_default : goal.returns-in_default
returns-in_default c = sym (ap (λ o. entries_of c.args.list.now.items ++ with_front (option_map member_view o) []) c.in_default.is ∙ append-nil (entries_of c.args.list.now.items))

pub returns : goal.returns
returns c =
    ap entries_of c.in_ok-push.ensures.items
    ∙ (map-append member_view c.args.list.now.items (c.in-Some.member ∷ [])
    ∙ ap (λ o. entries_of c.args.list.now.items ++ with_front (option_map member_view o) []) (sym c.in-Some.is))
