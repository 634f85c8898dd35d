use Rattle.std.proofs.Common.{◌∙◌, ◌++◌, ◌∷◌, [], Some, ap, sym, map}
use Rattle.refusals.specs.Refusal.{lost_group, ring_group, detail_line}
use Rattle.refusals.specs.declared.rule.Rule.TheVariants as rule
use Rattle.refusals.proofs.Reports.{told, one_more, group_lines}
use Rattle.build_plain.proofs.permutation.tree_text.Goals as goal

pub returns-in_ok-append_lost_group-in-ExtendsTarget : goal.returns-in_ok-append_lost_group-in-ExtendsTarget
returns-in_ok-append_lost_group-in-ExtendsTarget c =
    let arm = c.in-ExtendsTarget in
    let out = c.in_ok-out-in-ExtendsTarget.out in
    rw arm.is (ap Some (sym (told c.args.files.now rule.ExtendsTarget arm.span.file arm.span.start arm.span.end out c.append_lost_group.new.out (lost_group arm.group ∷ []) c.in_ok-out-in-ExtendsTarget.ensures
    (one_more out c.append_lost_group.new.out (detail_line (lost_group arm.group)) c.in_ok-append_lost_group-in-ExtendsTarget.ensures.ok))))

pub returns-in_ok-append_ring_groups-in-ExtendsCycle : goal.returns-in_ok-append_ring_groups-in-ExtendsCycle
returns-in_ok-append_ring_groups-in-ExtendsCycle c =
    let arm = c.in-ExtendsCycle in
    let out = c.in_ok-out-in-ExtendsCycle.out in
    rw arm.is (ap Some (sym (told c.args.files.now rule.ExtendsCycle arm.span.file arm.span.start arm.span.end out c.append_ring_groups.new.out (map ring_group arm.ring) c.in_ok-out-in-ExtendsCycle.ensures
    (c.in_ok-append_ring_groups-in-ExtendsCycle.ensures.ok ∙ ap (λ x. out ++ x) (group_lines arm.ring)))))
