use Rattle.std.proofs.Common.{◌≡◌, ◌<◌, Option, None, Some, IfSome, length, sym, ap, ◌∙◌, subst}
use Rattle.token_tree.specs.View.{group_view, members_view}
use Rattle.token_tree.specs.Tree.{Group, group_with}
use Rattle.token_tree.specs.declared.mark.Mark.{Mark}
use Rattle.group_inherit.specs.Extension.{child_paths, target_path}
use Rattle.group_inherit.specs.Merging.{over}
use Rattle.token_tree.specs.declared.tree.Group.{Group as GroupIn}
use Rattle.group_inherit.specs.View.{IsOver}
use Rattle.group_inherit.specs.inner.Outcomes.{IsExpansion}
use Rattle.group_inherit.specs.inner.Tables.{tabled_group, HaveExpansions, HasTarget}
use Rattle.group_inherit.proofs.Expands.{none_inherited, some_inherited, expands_with, ok_then}
use Rattle.group_inherit.proofs.Tables.{value_read}
use Rattle.group_inherit.proofs.expanding.expansion.Goals as goal

pub returns-in-None : goal.returns-in-None
returns-in-None c = λ tree path at known target.
    let g = c.args.group.now in
    let row = c.args.row.now in
    let members = c.in_ok-members.ensures tree path (subst (HaveExpansions tree c.args.table.now (child_paths path (group_view g))) (sym c.as_slice.ensures.value) known) in
    let inherited = none_inherited tree c.args.table.now (target_path (group_view g)) (subst (HasTarget tree c.args.table.now (target_path (group_view g))) c.in-None.is target) in
    expands_with tree path (group_view g) (members_view c.in_ok-members.members) None at members inherited
    (ap (λ (d : Option Mark). group_with (record { kind = g.kind; deprecated = d; extends = None }) (members_view c.in_ok-members.members)) (c.in_ok-deprecated.ensures ∙ c.as_ref.ensures.value))

pub bounds-table-target : goal.bounds-table-target
bounds-table-target c = subst (λ o. IfSome o (λ w. w < length c.args.table.now)) c.in-Some.is c.requires.target

pub returns : goal.returns
returns c =
    let g = c.args.group.now in
    let table = c.args.table.now in
    let row = c.args.row.now in
    let w = c.in-Some.target in
    let item = c.index-table-target.result in
    let m = members_view c.in_ok-members.members in
    let within : w < length table = subst (λ o. IfSome o (λ x. x < length table)) c.in-Some.is c.requires.target in
    let local : GroupIn = record { kind = g.kind; deprecated = c.in_ok-deprecated.deprecated; extends = None; members = c.in_ok-members.members } in
    let own : Group = group_with (record { kind = g.kind; deprecated = g.deprecated; extends = None }) m in
    let same : group_view local ≡ own = ap (λ (d : Option Mark). group_with (record { kind = g.kind; deprecated = d; extends = None }) m) (c.in_ok-deprecated.ensures ∙ c.as_ref.ensures.value) in
    ok_then c.over.result (IsOver local item) (IsExpansion g table row)
    (λ made is tree path at known target. expands_with tree path (group_view g) m (Some (tabled_group table w)) at
    (c.in_ok-members.ensures tree path (subst (HaveExpansions tree table (child_paths path (group_view g))) (sym c.as_slice.ensures.value) known))
    (some_inherited tree table (target_path (group_view g)) w (subst (HasTarget tree table (target_path (group_view g))) c.in-Some.is target))
    (is ∙ (ap (λ (h : Group). over h (group_view item)) same ∙ ap (over own) (sym (value_read table w item within c.index-table-target.is)))))
    c.over.ensures
