use Rattle.std.proofs.Common.{◌≡◌, ℕ, ◌+◌, List, [], ◌∷◌, ◌++◌, sym, ap, ◌∙◌, subst, drop, arith, append-nil, append_assoc}
use Rattle.std.proofs.lemmas.List.{map_push}
use Rattle.std.specs.FinMap as map_of
use Rattle.token_tree.specs.Tree.{a_group, children_of}
use Rattle.token_tree.specs.View.{member_view, child_view, members_view, group_view}
use Rattle.group_inherit.specs.Extension.{groups_from, groups_among}
use Rattle.group_inherit.specs.inner.Numbering.{GroupAt}
use Rattle.group_inherit.specs.inner.View.{group_node_view, nodes_view}
use Rattle.group_inherit.specs.declared.numbered.Node.{Node}
use Rattle.token_tree.specs.declared.tree.Group.{Group as GroupValue}
use Rattle.group_inherit.proofs.Numbers.{Entries, Progress, turn_token, turn_group, size_in, size_at}
use Rattle.group_inherit.proofs.Turns.{first_entry, no_entry}
use Rattle.group_inherit.proofs.numbered.+add_groups.Goals as goal

pub add_groups-requires : goal.add_groups-requires
add_groups-requires t c =
    let items = c.as_slice-member-items.result.now in
    let es : Entries = map_of.entries (members_view c.args.group.now.members) in
    let i = c.loop-member.member-index in
    let x = c.member-item.result in
    let first = first_entry items es i x c.as_slice-member-items.ensures c.loop-member-test.true c.member-item.is in
    let is : child_view x.child ≡ a_group (group_view c.deref.result.now) = ap child_view c.in-Group.is ∙ ap (λ (g : GroupValue). a_group (group_view g)) (sym c.deref.ensures) in
    (omega (arith, size_at es i (member_view x) (drop (i + 1) es) first, ap size_in is, c.decreases), tt)

pub loop-member-preserved : goal.loop-member-preserved
loop-member-preserved t c =
    let es : Entries = map_of.entries (members_view c.args.group.now.members) in
    let x = c.member-item.result in
    let is : child_view x.child ≡ a_group (group_view c.deref.result.now) = ap child_view c.in-Group.is ∙ ap (λ (g : GroupValue). a_group (group_view g)) (sym c.deref.ensures) in
    let nodes = nodes_view c.loop-member.nodes.items in
    let added : nodes_view c.add_groups.new.nodes.items ≡ nodes ++ groups_from (c.args.path.now ++ x.name ∷ []) (group_view c.deref.result.now) =
    c.in_ok-add_groups.ensures.all ∙ ap (λ (q : List (List ℕ)). nodes ++ groups_from q (group_view c.deref.result.now)) c.in_ok-below.ensures in
    turn_group c.args.path.now _ es c.as_slice-member-items.result.now c.as_slice-member-items.ensures (map_of.entries_sorted (members_view c.args.group.now.members)) c.loop-member.member-index
    nodes c.loop-member.invariant x c.loop-member-test.true c.member-item.is (nodes_view c.add_groups.new.nodes.items) (group_view c.deref.result.now) is added c.in_ok-add_groups.ensures.named

pub loop-member-preserved-in_default : goal.loop-member-preserved-in_default
loop-member-preserved-in_default t c =
    let es : Entries = map_of.entries (members_view c.args.group.now.members) in
    turn_token c.args.path.now _ es c.as_slice-member-items.result.now c.as_slice-member-items.ensures (map_of.entries_sorted (members_view c.args.group.now.members)) c.loop-member.member-index
    (nodes_view c.loop-member.nodes.items) c.loop-member.invariant c.member-item.result c.loop-member-test.true c.member-item.is c.in_default.field-0.value (ap child_view c.in_default.is)

pub returns : goal.returns
returns t c =
    let items = c.as_slice-member-items.result.now in
    let es : Entries = map_of.entries (members_view c.args.group.now.members) in
    let i = c.loop-member.member-index in
    let gone = no_entry items es i c.as_slice-member-items.ensures c.loop-member-test.false in
    let g = c.args.group.now in
    let old = nodes_view c.args.nodes.now.items in
    let before = nodes_view c.push.new.self.items in
    let after = nodes_view c.loop-member.nodes.items in
    let node : Node = record { group = c.args.group; path = c.in_ok-own.own } in
    let this : GroupAt = (c.args.path.now, group_view g) in
    let made : before ≡ old ++ this ∷ [] =
    ap nodes_view c.in_ok-push.ensures.items ∙ (map_push group_node_view c.args.nodes.now.items node ∙ ap (λ (p : List (List ℕ)). old ++ (p, group_view g) ∷ []) c.in_ok-own.ensures) in
    let rest = groups_among c.args.path.now (children_of es) in
    let k : Progress c.args.path.now (before ++ rest) es after [] = subst (Progress c.args.path.now (before ++ rest) es after) gone c.loop-member.invariant in
    record {
      all = sym (append-nil after) ∙ (k.nodes_are ∙ (ap (λ (ns : List GroupAt). ns ++ rest) made ∙ append_assoc old (this ∷ []) rest));
      named = k.named tt;
    }
