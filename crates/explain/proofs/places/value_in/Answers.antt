use Rattle.std.proofs.Common.{◌≡◌, ◌+◌, Some, None, sym, ap, ◌∙◌, drop, option_map, arith}
use Rattle.json_span.specs.View.{ref_view}
use Rattle.alias_ref.specs.Written.{part_behind, value_at}
use Rattle.explain.proofs.PlacesWritten.{value_goes, value_ends, drop_at, drop_all}
use Rattle.explain.proofs.places.value_in.Goals as goal

pub returns-in_default : goal.returns-in_default
returns-in_default c =
    let node = ref_view c.loop-step.node in
    let ss = c.args.steps.now in
    let i = c.loop-step.step-index in
    let s = c.step-item.result in
    let none : part_behind node s ≡ None = ap (part_behind node) (sym c.as_str.ensures) ∙ sym c.part.ensures ∙ ap (option_map ref_view) c.in_default.is in
    sym (value_goes node s (drop (i + 1) ss) None none) ∙ ap (value_at node) (sym (drop_at ss i s (omega arith) c.step-item.is)) ∙ c.loop-step.invariant

pub loop-step-preserved : goal.loop-step-preserved
loop-step-preserved c =
    let node = ref_view c.loop-step.node in
    let ss = c.args.steps.now in
    let i = c.loop-step.step-index in
    let s = c.step-item.result in
    let next = ref_view c.in-Some.next in
    let is : part_behind node s ≡ Some next = ap (part_behind node) (sym c.as_str.ensures) ∙ sym c.part.ensures ∙ ap (option_map ref_view) c.in-Some.is in
    sym (value_goes node s (drop (i + 1) ss) (Some next) is) ∙ ap (value_at node) (sym (drop_at ss i s (omega arith) c.step-item.is)) ∙ c.loop-step.invariant

pub returns : goal.returns
returns c =
    let node = ref_view c.loop-step.node in
    let ss = c.args.steps.now in
    sym (value_ends node) ∙ ap (value_at node) (sym (drop_all ss c.loop-step.step-index (λ k. omega (arith, k)))) ∙ c.loop-step.invariant
