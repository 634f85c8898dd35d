use Rattle.std.proofs.Common.{rules, ◌≡◌, ◌<◌, ◌^◌, [], Some, None, length, sym, ap, ◌∙◌, option_map, arith}
use Rattle.std.specs.FinMap as map
use Rattle.token_tree.specs.Promise.{IsDefinition}
use Rattle.alias_ref.specs.Written.{role_at, role_behind}
use Rattle.alias_ref.specs.Span.{span_below, span_in}
use Rattle.json_span.specs.View.{ref_view}
use Rattle.alias_ref.specs.inner.Steps.{next_in}
use Rattle.alias_ref.proofs.SoundValues.{sound_definition, sound_part}
use Rattle.alias_ref.proofs.SpansInTurn.{array_short, span_stops, span_goes, span_end, span_begins, next_is_part, sound_there, span_pair}
use Rattle.alias_ref.proofs.TracesGrow.{drop_at, drop_all}
use Rattle.alias_ref.proofs.span.span_of.Goals as goal

pub loop-step-init : goal.loop-step-init
loop-step-init c =
    let f = c.in-Some.entry.now in
    let role = role_at f.def.by_ref [] in
    let node = ref_view c.as_ref-node.result in
    let view : node ≡ f.def.value = search rules in
    let there : map.get c.args.flat.now c.args.place.now.token ≡ Some f = search rules in
    let keeps : IsDefinition f.def = search rules in
    let few : length f.def.source < 2 ^ 64 = search (rules, arith) in
    let begins : Some (span_below role node c.args.place.now.trail) ≡ span_in c.args.flat.now c.args.place.now = span_begins c.args.flat.now c.args.place.now f node there view in
    (role, ap (λ ss. Some (span_below role node ss)) c.as_slice-steps.ensures ∙ begins, sound_there node f.def.value view (sound_definition f.def keeps few))

pub next_node-requires : goal.next_node-requires
next_node-requires c = record { short = λ ns e. array_short (ref_view c.loop-step.node) ns c.loop-step.invariant.2 e }

pub returns-in_default-next_node : goal.returns-in_default-next_node
returns-in_default-next_node c =
    let inv = c.loop-step.invariant in
    let node = ref_view c.loop-step.node in
    let ss = c.as_slice-steps.result.now in
    let i = c.loop-step.step-index in
    let s = c.step-item.result in
    let none : next_in inv.0 node s ≡ None = ap (next_in inv.0 node) (sym c.as_str.ensures) ∙ sym (c.next_node.ensures inv.0) ∙ ap (option_map ref_view) c.in_default-next_node.is in
    span_pair c.start.result c.end.result node c.start.ensures c.end.ensures ∙ ap (λ x. Some x) (sym (span_stops inv.0 node s _ none) ∙ ap (span_below inv.0 node) (sym (drop_at ss i s (omega arith) c.step-item.is))) ∙ inv.1

pub loop-step-preserved : goal.loop-step-preserved
loop-step-preserved c =
    let inv = c.loop-step.invariant in
    let node = ref_view c.loop-step.node in
    let ss = c.as_slice-steps.result.now in
    let i = c.loop-step.step-index in
    let s = c.step-item.result in
    let next = ref_view c.in-Some-next_node.next in
    let part : next_in inv.0 node s ≡ Some next = ap (next_in inv.0 node) (sym c.as_str.ensures) ∙ sym (c.next_node.ensures inv.0) ∙ ap (option_map ref_view) c.in-Some-next_node.is in
    (role_behind s, ap (λ x. Some x) (sym (span_goes inv.0 node s next _ part) ∙ ap (span_below inv.0 node) (sym (drop_at ss i s (omega arith) c.step-item.is))) ∙ inv.1, sound_part node s next inv.2 (next_is_part inv.0 node s next part))

pub returns : goal.returns
returns c =
    let inv = c.loop-step.invariant in
    let node = ref_view c.loop-step.node in
    let ss = c.as_slice-steps.result.now in
    span_pair c.start-2.result c.end-2.result node c.start-2.ensures c.end-2.ensures ∙ ap (λ x. Some x) (sym (span_end inv.0 node) ∙ ap (span_below inv.0 node) (sym (drop_all ss c.loop-step.step-index (λ k. omega (arith, k))))) ∙ inv.1
