use Rattle.std.proofs.Common.{◌≡◌, ◌+◌, ◌<◌, ◌∷◌, List, ℕ, T, drop, get_or, length, ap, sym, subst, ◌∙◌, arith}
use Rattle.std.proofs.Common.{map as map_list}
use Rattle.std.proofs.lemmas.List.{drop_more}
use Rattle.std.proofs.lemmas.List.Elements.{All-get_or}
use Rattle.std.specs.FinMap as map
use Rattle.std.specs.FinMap.Entries.{is_sorted}
use Rattle.tk_io.specs.Order.{text_cmp}
use Rattle.token_tree.specs.Tree.{a_group, children_of}
use Rattle.token_tree.specs.View.{child_view, group_view, member_view, members_view}
use Rattle.group_inherit.specs.Extension.{names_of_groups, paths_below}
use Rattle.group_inherit.specs.inner.Outcomes.{AreExpandedMembers, HasMembers}
use Rattle.group_inherit.specs.inner.Tables.{HaveExpansions}
use Rattle.group_inherit.proofs.Expands.{Entries, Filling, nothing_filled, token_filled, group_filled, all_filled, members_stay, no_names, ok_then, groups_left_token, groups_left_group}
use Rattle.group_inherit.proofs.Tables.{value_read}
use Rattle.group_inherit.proofs.Turns.{first_left, none_left}
use Rattle.group_inherit.proofs.expanding.expand_members.Goals as goal

pub returns-then-is_empty : goal.returns-then-is_empty
returns-then-is_empty c =
    let m = members_view c.args.members.now in
    let none = no_names (children_of (map.entries m)) c.args.children.now c.requires.many (sym c.is_empty.ensures ∙ c.if-is_empty.true) in
    ok_then c.copy.result (λ made. made ≡ m) (AreExpandedMembers c.args.members.now c.args.table.now c.args.children.now)
    (λ made is tree path known. subst (HasMembers tree path (children_of (map.entries m))) (sym is) (members_stay tree path m none)) c.copy.ensures

pub loop-member-init : goal.loop-member-init
loop-member-init c =
    let items = c.as_slice-member-items.result.now in
    let es = map_list member_view items in
    let m = members_view c.args.members.now in
    let same : es ≡ map.entries m = c.as_slice-member-items.ensures in
    record {
      many = omega (arith, ap (λ (l : Entries). length (names_of_groups (children_of l))) same, c.requires.many);
      filling = λ tree path known. nothing_filled tree path c.args.table.now es c.args.children.now (members_view c.new-expanded.result)
          (subst (λ (l : Entries). T (is_sorted text_cmp l)) (sym same) (map.entries_sorted m)) c.new-expanded.ensures known;
    }

pub bounds-children-next : goal.bounds-children-next
bounds-children-next c =
    let items = c.as_slice-member-items.result.now in
    let i = c.loop-member.member-index in
    let x = c.member-item.result in
    let left = drop (i + 1) (map_list member_view items) in
    let next = c.loop-member.next in
    let many = length c.args.children.now in
    (groups_left_group x.name (child_view x.child) (group_view c.in-Group.field-0.value) left next many (ap child_view c.in-Group.is)
    (subst (λ (l : Entries). next + length (names_of_groups (children_of l)) ≡ many) (first_left member_view items i x c.loop-member-test.true c.member-item.is) c.loop-member.invariant.many)).0

pub bounds-table-children : goal.bounds-table-children
bounds-table-children c =
    let items = c.as_slice-member-items.result.now in
    let i = c.loop-member.member-index in
    let x = c.member-item.result in
    let left = drop (i + 1) (map_list member_view items) in
    let next = c.loop-member.next in
    let many = length c.args.children.now in
    let counted = groups_left_group x.name (child_view x.child) (group_view c.in-Group.field-0.value) left next many (ap child_view c.in-Group.is)
    (subst (λ (l : Entries). next + length (names_of_groups (children_of l)) ≡ many) (first_left member_view items i x c.loop-member-test.true c.member-item.is) c.loop-member.invariant.many) in
    All-get_or (λ w. w < length c.args.table.now) c.args.children.now next 0 counted.0 c.requires.within

pub loop-member-preserved-in-Group : goal.loop-member-preserved-in-Group
loop-member-preserved-in-Group c =
    let items = c.as_slice-member-items.result.now in
    let es = map_list member_view items in
    let i = c.loop-member.member-index in
    let x = c.member-item.result in
    let g = group_view c.in-Group.field-0.value in
    let is = ap child_view c.in-Group.is in
    let left = drop (i + 1) es in
    let next = c.loop-member.next in
    let children = c.args.children.now in
    let table = c.args.table.now in
    let w = get_or children next 0 in
    let made = members_view c.loop-member.expanded in
    let first = first_left member_view items i x c.loop-member-test.true c.member-item.is in
    let counted = groups_left_group x.name (child_view x.child) g left next (length children) is
    (subst (λ (l : Entries). next + length (names_of_groups (children_of l)) ≡ length children) first c.loop-member.invariant.many) in
    let within : w < length table = All-get_or (λ v. v < length table) children next 0 counted.0 c.requires.within in
    let put = c.in_ok-put_group.ensures
    ∙ ap (map.insert made x.name) (ap a_group (c.in_ok-group.ensures ∙ sym (value_read table w c.index-table-children.result within c.index-table-children.is))) in
    record {
      many = counted.1;
      filling = λ tree path known. group_filled tree path table es x.name (child_view x.child) g left w (drop (next + 1) children) made (members_view c.put_group.new.members) is put
          (subst (λ (l : Entries). Filling tree path table es l (w ∷ drop (next + 1) children) made) first
          (subst (λ (ws : List ℕ). Filling tree path table es (drop i es) ws made) (drop_more children next 0 counted.0) (c.loop-member.invariant.filling tree path known)));
    }

pub loop-member-preserved : goal.loop-member-preserved
loop-member-preserved c =
    let items = c.as_slice-member-items.result.now in
    let es = map_list member_view items in
    let i = c.loop-member.member-index in
    let x = c.member-item.result in
    let is = ap child_view c.in_default.is in
    let left = drop (i + 1) es in
    let next = c.loop-member.next in
    let many = length c.args.children.now in
    let made = members_view c.loop-member.expanded in
    let first = first_left member_view items i x c.loop-member-test.true c.member-item.is in
    record {
      many = groups_left_token x.name (child_view x.child) c.in_default.field-0.value left next many is
          (subst (λ (l : Entries). next + length (names_of_groups (children_of l)) ≡ many) first c.loop-member.invariant.many);
      filling = λ tree path known. token_filled tree path c.args.table.now es x.name (child_view x.child) c.in_default.field-0.value left (drop next c.args.children.now) made (members_view c.put_copy.new.members) is
          c.in_ok-put_copy.ensures
          (subst (λ (l : Entries). Filling tree path c.args.table.now es l (drop next c.args.children.now) made) first (c.loop-member.invariant.filling tree path known));
    }

pub returns : goal.returns
returns c = λ tree path known.
    let items = c.as_slice-member-items.result.now in
    let es = map_list member_view items in
    let same : es ≡ map.entries (members_view c.args.members.now) = c.as_slice-member-items.ensures in
    let children = c.args.children.now in
    let table = c.args.table.now in
    let made = members_view c.loop-member.expanded in
    let filling = c.loop-member.invariant.filling tree path (subst (λ (l : Entries). HaveExpansions tree table (paths_below path (children_of l)) children) (sym same) known) in
    subst (λ (l : Entries). HasMembers tree path (children_of l) made) same
    (all_filled tree path table es (drop c.loop-member.member-index es) (drop c.loop-member.next children) made (none_left member_view items c.loop-member.member-index c.loop-member-test.false) filling)
