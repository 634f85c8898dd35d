use Rattle.std.proofs.Common.{◌≡◌, ℕ, true, List, [], inl, inr, ◌⊎◌, ◌==◌, drop, option_map, arith, refl, ap, ap₂, sym, ◌∙◌}
use Rattle.std.proofs.Common.{map as map_list}
use Rattle.std.proofs.lemmas.Bool.Decides.{nat_tests}
use Rattle.std.proofs.lemmas.Result.{IfOk-weaker}
use Rattle.std.specs.FinMap as map
use Rattle.token_tree.specs.Tree.{Properties, group_with, children_of}
use Rattle.token_tree.specs.View.{extends_view, member_view, members_view, properties_view}
use Rattle.token_tree.specs.declared.tree.Member.{Member}
use Rattle.group_inherit.specs.Merging.{over_properties, over_members}
use Rattle.group_inherit.proofs.Options.{copied_or, map_or}
use Rattle.group_inherit.proofs.Overs.{named_entries}
use Rattle.group_inherit.proofs.Merges.{members_sorted, none_merged, later_turn, earlier_turn, both_turn, all_merged, over_of, over_nothing, over_members_alone}
use Rattle.group_inherit.proofs.Turns.{none_left, entry_lighter}
use Rattle.group_inherit.proofs.merging.+over.Goals.{merged-then-loop-i-test+else-j-lower, merged-else-loop-i-test}
use Rattle.group_inherit.proofs.merging.+over.Goals as goal

pub over-returns : goal.over-returns
over-returns t c =
    let l = c.args.later.now in
    let e = c.args.earlier.now in
    let deprecated = c.in_ok-deprecated.ensures ∙ copied_or c.as_ref.result c.as_ref-2.result c.or.result l.deprecated e.deprecated c.or.ensures c.as_ref.ensures.value c.as_ref-2.ensures.value in
    let extends = c.in_ok-extends.ensures
    ∙ (ap (option_map extends_view) (copied_or c.as_ref-3.result c.as_ref-4.result c.or-2.result l.extends e.extends c.or-2.ensures c.as_ref-3.ensures.value c.as_ref-4.ensures.value)
    ∙ map_or extends_view l.extends e.extends) in
    let own : ◌≡◌ {A = Properties} (record { kind = c.or-3.result; deprecated = c.in_ok-deprecated.deprecated; extends = option_map extends_view c.in_ok-extends.extends }) (over_properties (properties_view l) (properties_view e)) =
    λ i. record { kind = c.or-3.ensures i; deprecated = deprecated i; extends = extends i } in
    ap₂ group_with own (c.in_ok-members.ensures ∙ ap (over_members (children_of (map.entries (members_view l.members)))) (sym (named_entries (members_view e.members))))

empty_of : (n : ℕ) → (n == 0) ≡ true → n ≡ 0
empty_of n h = grind (arith, nat_tests)

pub over_members-returns-then-is_empty : goal.over_members-returns-then-is_empty
over_members-returns-then-is_empty t c =
    let none : map.len c.args.later.now ≡ 0 = empty_of (map.len c.args.later.now) (sym c.is_empty.ensures ∙ c.if-is_empty.true) in
    IfOk-weaker c.copy.result _ (λ ms. ms ≡ over_members (children_of (map.entries c.args.later.now)) c.args.earlier.now) (λ ms is. is ∙ sym (over_nothing c.args.later.now c.args.earlier.now none)) c.copy.ensures

pub over_members-returns-then-is_empty-2 : goal.over_members-returns-then-is_empty-2
over_members-returns-then-is_empty-2 t c =
    let none : map.len c.args.earlier.now ≡ 0 = empty_of (map.len c.args.earlier.now) (sym c.is_empty-2.ensures ∙ c.if-is_empty-2.true) in
    let e = map.empty_of_len c.args.earlier.now none in
    IfOk-weaker c.copy-then-is_empty-2.result _ (λ ms. ms ≡ over_members (children_of (map.entries c.args.later.now)) c.args.earlier.now)
    (λ ms is. is ∙ sym (over_members_alone c.args.later.now c.args.earlier.now e)) c.copy-then-is_empty-2.ensures

pub merged-put_over-requires : goal.merged-put_over-requires
merged-put_over-requires t c =
    let h = entry_lighter c.as_slice-upper.result.now (map.entries (members_view c.args.later.now)) c.loop-i.i c.index-upper-i.result c.as_slice-upper.ensures c.loop-i-test.true c.index-upper-i.is in
    (omega (arith, h, c.decreases), tt)

pub merged-loop-i-init : goal.merged-loop-i-init
merged-loop-i-init t c = record {
  upper = omega arith;
  lower = omega arith;
  at = none_merged (map_list member_view c.as_slice-upper.result.now) (map_list member_view c.as_slice-lower.result.now) c.new-members.result c.new-members.ensures;
}

pub merged-loop-i-preserved-in-Less : goal.merged-loop-i-preserved-in-Less
merged-loop-i-preserved-in-Less t c =
    let s = members_sorted c.args.later.now _ c.as_slice-upper.ensures in
    let r = members_sorted c.args.earlier.now _ c.as_slice-lower.ensures in
    record {
      upper = omega (arith, c.loop-i-test.true);
      lower = c.loop-i.invariant.lower;
      at = λ q. later_turn c.as_slice-upper.result.now c.as_slice-lower.result.now c.loop-i.i c.loop-i.j c.index-upper-i.result c.index-lower-j.result c.loop-i.members c.put_copy.new.members s r
          c.loop-i-test.true c.if-j-lower.true c.index-upper-i.is c.index-lower-j.is (sym c.cmp.ensures ∙ c.in-Less.is) c.in_ok-put_copy-in-Less.ensures q
          ∙ c.loop-i.invariant.at q;
    }

pub merged-loop-i-preserved-in-Equal : goal.merged-loop-i-preserved-in-Equal
merged-loop-i-preserved-in-Equal t c =
    let s = members_sorted c.args.later.now _ c.as_slice-upper.ensures in
    let r = members_sorted c.args.earlier.now _ c.as_slice-lower.ensures in
    record {
      upper = omega (arith, c.loop-i-test.true);
      lower = omega (arith, c.if-j-lower.true);
      at = λ q. both_turn c.as_slice-upper.result.now c.as_slice-lower.result.now c.loop-i.i c.loop-i.j c.index-upper-i.result c.index-lower-j.result c.loop-i.members c.put_over.new.members s r
          c.loop-i-test.true c.if-j-lower.true c.index-upper-i.is c.index-lower-j.is _ (sym c.cmp.ensures ∙ c.in-Equal.is) refl c.in_ok-put_over-in-Equal.ensures q
          ∙ c.loop-i.invariant.at q;
    }

pub merged-loop-i-preserved : goal.merged-loop-i-preserved
merged-loop-i-preserved t c =
    let s = members_sorted c.args.later.now _ c.as_slice-upper.ensures in
    let r = members_sorted c.args.earlier.now _ c.as_slice-lower.ensures in
    record {
      upper = c.loop-i.invariant.upper;
      lower = omega (arith, c.if-j-lower.true);
      at = λ q. earlier_turn c.as_slice-upper.result.now c.as_slice-lower.result.now c.loop-i.i c.loop-i.j c.index-upper-i.result c.index-lower-j.result c.loop-i.members c.put_copy-in-Greater.new.members s r
          c.loop-i-test.true c.if-j-lower.true c.index-upper-i.is c.index-lower-j.is (sym c.cmp.ensures ∙ c.in-Greater.is) c.in_ok-put_copy-in-Greater.ensures q
          ∙ c.loop-i.invariant.at q;
    }

pub merged-returns : goal.merged-returns
merged-returns t c =
    let upper : List Member = c.as_slice-upper.result.now in
    let lower : List Member = c.as_slice-lower.result.now in
    let s = members_sorted c.args.later.now _ c.as_slice-upper.ensures in
    let r = members_sorted c.args.earlier.now _ c.as_slice-lower.ensures in
    let ended : (drop c.loop-i.i (map_list member_view upper) ≡ []) ⊎ (drop c.loop-i.j (map_list member_view lower) ≡ []) =
    elim c.loop-i-test.branch [
      | merged-then-loop-i-test+else-j-lower w ↦ inr (none_left member_view lower c.loop-i.j w.if-j-lower.false)
      | merged-else-loop-i-test w ↦ inl (none_left member_view upper c.loop-i.i w.loop-i-test.false)
    ] in
    over_of c.args.later.now c.args.earlier.now c.put_from-2.new.members (map_list member_view upper) (map_list member_view lower) c.as_slice-upper.ensures c.as_slice-lower.ensures
    (all_merged (map_list member_view upper) (map_list member_view lower) c.loop-i.i c.loop-i.j c.loop-i.members c.put_from.new.members c.put_from-2.new.members s r ended c.loop-i.invariant.at c.in_ok-put_from.ensures c.in_ok-put_from-2.ensures)
