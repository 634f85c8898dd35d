use Rattle.std.proofs.Common.{refl, sym, ap, subst, ◌∙◌}
use Rattle.std.specs.FinMap.{put}
use Rattle.tk_io.specs.Order.{text_cmp}
use Rattle.token_tree.specs.View.{child_view}
use Rattle.token_tree.specs.MembersView.{entries_of}
use Rattle.token_tree.specs.inner.Lists.{IsPlaceOf, IsGapFor}
use Rattle.token_tree.specs.declared.tree.Member.{Member}
use Rattle.token_tree.proofs.NameLists.{put_named, put_between}
use Rattle.token_tree.proofs.entries.put_child.Goals as goal

pub returns-in-Ok-clause-ok : goal.returns-in-Ok-clause-ok
returns-in-Ok-clause-ok c =
    let place = subst (λ l. IsPlaceOf l c.args.name.now c.in-Ok.i) c.as_slice.ensures.value c.in-Ok.ensures.found in
    put_named c.args.list.now.items _ c.args.name.now (record { name = c.index_mut.result.now.name; child = c.args.child }) c.in-Ok.i c.requires place
    (ap (λ (m : Member). m.name) c.index_mut.ensures.value ∙ place.1 _) refl

pub returns-in_ok-insert-in-Err-clause-ok : goal.returns-in_ok-insert-in-Err-clause-ok
returns-in_ok-insert-in-Err-clause-ok c =
    let list = c.args.list.now.items in
    let copied = c.in_ok-name-in-Err.ensures in
    let gap = subst (λ l. IsGapFor l c.args.name.now c.in-Err.i) c.as_slice.ensures.value c.in-Err.ensures.absent in
    put_between list c.insert.new.self.items (record { name = c.in_ok-name-in-Err.name; child = c.args.child }) c.in-Err.i
    (subst (λ x. IsGapFor list x c.in-Err.i) (sym copied) gap) c.in_ok-insert-in-Err.ensures.items
    ∙ ap (λ x. put text_cmp x (child_view c.args.child) (entries_of list)) copied
