use Rattle.std.proofs.Common.{sym, ap, ◌∙◌, refl}
use Rattle.token_tree.specs.View.{child_view, member_view, members_view}
use Rattle.group_inherit.specs.Putting.{put_all}
use Rattle.group_inherit.proofs.Turns.{turn, none_left}
use Rattle.group_inherit.proofs.merging.put_from.Goals as goal

pub loop-k-preserved : goal.loop-k-preserved
loop-k-preserved c =
    let x = c.index-list-k.result in
    turn (λ l. l) c.args.list.now c.loop-k.k x x.name (child_view x.child) (members_view c.loop-k.members) (members_view c.put_copy.new.members) c.loop-k-test.true c.index-list-k.is refl c.in_ok-put_copy.ensures
    ∙ c.loop-k.invariant

pub returns : goal.returns
returns c =
    ap (λ l. put_all l (members_view c.loop-k.members)) (sym (none_left member_view c.args.list.now c.loop-k.k c.loop-k-test.false)) ∙ c.loop-k.invariant
