use Rattle.std.proofs.Common.{◌≡◌, rules, ap, ◌∙◌}
use Rattle.std.specs.FinMap.{put}
use Rattle.tk_io.specs.Order.{text_cmp}
use Rattle.token_tree.specs.View.{child_view}
use Rattle.token_tree.specs.MembersView.{entries_of}
use Rattle.token_tree.proofs.entries.put_shared.Goals as goal

pub returns-clause-ok : goal.returns-clause-ok
returns-clause-ok c =
    let new : c.in_ok-shared.field-0.value.items ≡ c.put_child-2.new.list.items = search rules in
    let old : entries_of c.in_ok-list.list.items ≡ entries_of c.args.shared.now.value.items = search rules in
    ap entries_of new ∙ (c.in_ok-put_child.ensures.ok ∙ ap (put text_cmp c.args.name.now (child_view c.args.child)) old)
