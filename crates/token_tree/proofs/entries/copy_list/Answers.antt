use Rattle.std.proofs.Common.{ap, ◌∙◌, ◌++◌, [], ◌∷◌}
use Rattle.std.proofs.lemmas.List.{map-append}
use Rattle.token_tree.specs.View.{member_view}
use Rattle.token_tree.specs.MembersView.{entries_of}
use Rattle.token_tree.proofs.Steps.{made, all_made}
use Rattle.token_tree.proofs.entries.copy_list.Goals as goal

pub loop-member-init : goal.loop-member-init
loop-member-init c = ap (λ l. entries_of l ++ entries_of c.args.list.now) c.in_ok-copies.ensures.items

pub loop-member-preserved : goal.loop-member-preserved
loop-member-preserved c =
    made member_view c.args.list.now c.loop-member.member-index c.member-item.result (entries_of c.loop-member.copies.items) (entries_of c.push.new.self.items) (entries_of c.args.list.now) (member_view c.in_ok-copy.field-0)
    c.loop-member-test.true c.member-item.is (ap entries_of c.in_ok-push.ensures.items ∙ map-append member_view c.loop-member.copies.items (c.in_ok-copy.field-0 ∷ [])) c.in_ok-copy.ensures c.loop-member.invariant

pub returns : goal.returns
returns c = all_made member_view c.args.list.now c.loop-member.member-index (entries_of c.loop-member.copies.items) (entries_of c.args.list.now) c.loop-member-test.false c.loop-member.invariant
