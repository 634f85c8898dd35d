use Rattle.std.proofs.Common.{◌∙◌, ◌++◌, ap, flat_map, take}
use Rattle.std.proofs.lemmas.List.{take_all}
use Rattle.refusals.specs.Refusal.{detail_line, ring_group}
use Rattle.refusals.proofs.Parts.{part_behind}
use Rattle.refusals.proofs.refusal.append_ring_groups.Goals as goal

pub returns-clause-ok : goal.returns-clause-ok
returns-clause-ok c =
    c.loop-group.invariant
    ∙ ap (λ ring. c.args.out.now ++ flat_map (λ group. detail_line (ring_group group)) ring) (take_all c.loop-group.group-index c.as_slice-group-items.result.now c.loop-group-test.false ∙ c.as_slice-group-items.ensures)

pub returns-in_err-append_group-clause-err : goal.returns-in_err-append_group-clause-err
returns-in_err-append_group-clause-err c =
    part_behind c.from_residual.result c.args.out.now c.loop-group.out c.append_group.new.out
    (flat_map (λ group. detail_line (ring_group group)) (take c.loop-group.group-index c.as_slice-group-items.result.now)) c.loop-group.invariant c.in_err-append_group.ensures.err
