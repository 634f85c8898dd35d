use Rattle.std.proofs.Common.{◌∙◌, ◌++◌, ap, flat_map, take}
use Rattle.std.proofs.lemmas.List.{take_all}
use Rattle.refusals.specs.Refusal.{detail_line, ring_place}
use Rattle.refusals.proofs.Parts.{part_behind}
use Rattle.refusals.proofs.refusal.append_ring_places.Goals as goal

pub returns-clause-ok : goal.returns-clause-ok
returns-clause-ok c =
    c.loop-place.invariant
    ∙ ap (λ ring. c.args.out.now ++ flat_map (λ place. detail_line (ring_place place)) ring) (take_all c.loop-place.place-index c.as_slice-place-items.result.now c.loop-place-test.false ∙ c.as_slice-place-items.ensures)

pub returns-in_err-append_pointer-clause-err : goal.returns-in_err-append_pointer-clause-err
returns-in_err-append_pointer-clause-err c =
    part_behind c.from_residual.result c.args.out.now c.loop-place.out c.append_pointer.new.out
    (flat_map (λ place. detail_line (ring_place place)) (take c.loop-place.place-index c.as_slice-place-items.result.now)) c.loop-place.invariant c.in_err-append_pointer.ensures.err
