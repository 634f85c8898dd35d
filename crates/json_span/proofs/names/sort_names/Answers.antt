use Rattle.std.proofs.Common.{◌≡◌, get_or, rules, sym, ap, subst, ◌∙◌}
use Rattle.std.proofs.lemmas.Option.{slice_get-get_or}
use Rattle.std.specs.List.Sorted.{IsStableBy}
use Rattle.json_span.specs.Table.{IsString}
use Rattle.json_span.specs.inner.NameOrder.{is_below, key_of, placed_from}
use Rattle.json_span.proofs.Naming.{no_name, are_at}
use Rattle.json_span.proofs.NameOrder.{taken_in, all_taken, sorts, keeps_ties}
use Rattle.json_span.proofs.names.sort_names.Goals as goal

pub string_text-requires : goal.string_text-requires
string_text-requires c =
    let (es, are) = c.requires in
    let i = c.loop-place.place in
    let n = get_or c.args.names.now i no_name in
    let (e, h, is) = are_at c.args.text.now c.args.names.now es i n are (slice_get-get_or c.args.names.now i no_name c.loop-place-test.true) in
    (e.name, n.end, subst (λ k. IsString c.args.text.now k e.name n.end) (sym c.offset.ensures) is.stands)

pub loop-place-preserved : goal.loop-place-preserved
loop-place-preserved c = λ es are.
    let i = c.loop-place.place in
    let n = get_or c.args.names.now i no_name in
    let (e, h, is) = are_at c.args.text.now c.args.names.now es i n are (slice_get-get_or c.args.names.now i no_name c.loop-place-test.true) in
    let same : c.in_ok-name.name ≡ e.name = c.in_ok-name.ensures e.name n.end (subst (λ k. IsString c.args.text.now k e.name n.end) (sym c.offset.ensures) is.stands) in
    let keyed = c.key_of-key.ensures ∙ ap key_of c.as_str.ensures in
    taken_in es i e c.key_of-key.result c.in_ok-name.name c.loop-place.sorted.items c.push.new.self.items h keyed same (c.loop-place.invariant es are) c.in_ok-push.ensures.items

pub returns : goal.returns
returns c = λ es are.
    let all : c.loop-place.sorted.items ≡ placed_from 0 es = all_taken c.args.text.now c.args.names.now es c.loop-place.place c.loop-place.sorted.items are (search rules) (c.loop-place.invariant es are) in (
      sorts c.sort_by.new.self.items c.in_ok-sort_by.ensures.sorted (λ a r q k. search rules),
      subst (λ xs. IsStableBy is_below xs c.sort_by.new.self.items) all (keeps_ties c.loop-place.sorted.items c.sort_by.new.self.items c.in_ok-sort_by.ensures.stable (λ a r q k. search rules)),
    )
