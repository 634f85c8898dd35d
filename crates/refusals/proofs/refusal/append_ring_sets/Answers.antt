use Rattle.std.proofs.Common.{◌<◌, ◌∙◌, ◌++◌, ap, length, arith, flat_map, take}
use Rattle.std.proofs.lemmas.List.{take_all}
use Rattle.refusals.specs.Refusal.{detail_line, ring_set}
use Rattle.refusals.proofs.Reports.{line_more}
use Rattle.refusals.proofs.Parts.{part_behind}
use Rattle.refusals.proofs.refusal.append_ring_sets.Goals as goal

pub loop-name-preserved : goal.loop-name-preserved
loop-name-preserved c =
    let within : c.loop-name.name-index < length c.as_slice-name-items.result.now = omega arith in
    line_more (λ name. detail_line (ring_set name)) c.args.out.now c.loop-name.out c.append_set.new.out c.as_slice-name-items.result.now c.loop-name.name-index c.name-item.result
    within c.name-item.is c.loop-name.invariant c.in_ok-append_set.ensures.ok

pub returns-clause-ok : goal.returns-clause-ok
returns-clause-ok c =
    c.loop-name.invariant
    ∙ ap (λ ring. c.args.out.now ++ flat_map (λ name. detail_line (ring_set name)) ring) (take_all c.loop-name.name-index c.as_slice-name-items.result.now c.loop-name-test.false ∙ c.as_slice-name-items.ensures)

pub returns-in_err-append_set-clause-err : goal.returns-in_err-append_set-clause-err
returns-in_err-append_set-clause-err c =
    part_behind c.from_residual.result c.args.out.now c.loop-name.out c.append_set.new.out
    (flat_map (λ name. detail_line (ring_set name)) (take c.loop-name.name-index c.as_slice-name-items.result.now)) c.loop-name.invariant c.in_err-append_set.ensures.err
