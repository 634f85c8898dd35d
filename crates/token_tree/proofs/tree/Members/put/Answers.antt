use Rattle.std.proofs.Common.{◌≡◌, T, [], rules, ap, sym, subst, ◌∙◌}
use Rattle.std.specs.Cmp.Lexicographic.{nat_list_cmp_total}
use Rattle.std.specs.FinMap as map
use Rattle.std.specs.FinMap.{put}
use Rattle.tk_io.specs.Order.{text_cmp}
use Rattle.tk_io.proofs.MapViews.{at_insert}
use Rattle.token_tree.specs.View.{child_view}
use Rattle.token_tree.specs.MembersView.{kept_members, entries_of}
use Rattle.token_tree.proofs.NameLists.{put_listed, either_sorted, where_ok}
use Rattle.token_tree.proofs.tree.Members.put.Goals as goal

pub put_shared-requires : goal.put_shared-requires
put_shared-requires c =
    let old : c.in-Some.shared.value.items ≡ kept_members c.self.inside = search rules in
    subst (λ l. T (map.is_sorted text_cmp (entries_of l))) (sym old) c.self.invariant

pub invariant_of-self : goal.invariant_of-self
invariant_of-self c =
    let old : c.in-Some.shared.value.items ≡ kept_members c.self.inside = search rules in
    either_sorted c.put_shared.result c.args.name.now (child_view c.args.child) c.in-Some.shared.value.items c.put_shared.new.shared.value.items
    (subst (λ l. T (map.is_sorted text_cmp (entries_of l))) (sym old) c.self.invariant) c.put_shared.ensures.ok c.put_shared.ensures.err

pub returns-in-Some-clause-ok : goal.returns-in-Some-clause-ok
returns-in-Some-clause-ok c =
    let old : c.in-Some.shared.value.items ≡ kept_members c.self.inside = search rules in
    where_ok c.put_shared.result
    (λ e. put_listed c.self.inside c.args.self.now c.put_shared.new.shared.value.items c.args.name.now (child_view c.args.child) c.self.invariant c.self.view_is
    (e ∙ ap (λ l. put text_cmp c.args.name.now (child_view c.args.child) (entries_of l)) old))
    c.put_shared.ensures.ok

pub returns-in-Some-clause-at : goal.returns-in-Some-clause-at
returns-in-Some-clause-at c =
    where_ok c.put_shared.result (λ e q. ap (λ m. map.get m q) e ∙ at_insert nat_list_cmp_total c.args.self.now c.args.name.now (child_view c.args.child) q) (returns-in-Some-clause-ok c)

pub returns-in_ok-list_of_one-in-None-clause-ok : goal.returns-in_ok-list_of_one-in-None-clause-ok
returns-in_ok-list_of_one-in-None-clause-ok c =
    let none : kept_members c.self.inside ≡ [] = search rules in
    put_listed c.self.inside c.args.self.now c.in_ok-list_of_one-in-None.field-0.value.items c.args.name.now (child_view c.args.child) c.self.invariant c.self.view_is
    (c.in_ok-list_of_one-in-None.ensures ∙ sym (ap (λ l. put text_cmp c.args.name.now (child_view c.args.child) (entries_of l)) none))

pub returns-in_ok-list_of_one-in-None-clause-at : goal.returns-in_ok-list_of_one-in-None-clause-at
returns-in_ok-list_of_one-in-None-clause-at c q = ap (λ m. map.get m q) (returns-in_ok-list_of_one-in-None-clause-ok c) ∙ at_insert nat_list_cmp_total c.args.self.now c.args.name.now (child_view c.args.child) q
