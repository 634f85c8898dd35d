use Rattle.std.proofs.Common.{◌≡◌, [], rules, ap, subst}
use Rattle.json_span.specs.View.{ref_view, items_view}
use Rattle.resolver_doc.specs.Break.{with_breaks}
use Rattle.resolver_doc.specs.Naming.{item_name, with_name, repeats}
use Rattle.resolver_doc.specs.inner.Known.{known_sets, known_modifiers}
use Rattle.resolver_doc.proofs.SeenNames.{keeps_none, repeats_next}
use Rattle.resolver_doc.proofs.repeats.repeats_among.Goals as goal

pub loop-item-init : goal.loop-item-init
loop-item-init c =
    let s = known_sets c.args.known.now in
    let m = known_modifiers c.args.known.now in
    let same = c.into_iter-item-iterator.ensures.into_iter_gives in
    (search rules, search rules, ([], keeps_none c.new-names.result c.new-names.ensures, ap (λ i. with_breaks c.args.first.now (repeats s m [] (items_view i))) same))

pub loop-item-preserved : goal.loop-item-preserved
loop-item-preserved c =
    let s = known_sets c.args.known.now in
    let m = known_modifiers c.args.known.now in
    let n = ref_view c.in-Some.item in
    let left = items_view c.next.new.self in
    let before = c.loop-item.invariant.2.0 in
    let all = with_breaks c.args.first.now (repeats s m [] (items_view c.args.items)) in (
      search rules,
      search rules,
      (
        with_name before (item_name s m n),
        c.in_ok-repeat.ensures.names before c.loop-item.invariant.2.1,
        repeats_next s m before n left c.loop-item.first c.repeat.new.first all (c.in_ok-repeat.ensures.breaks before c.loop-item.invariant.2.1)
            (subst (λ ns. with_breaks c.loop-item.first (repeats s m before ns) ≡ all) c.in-Some.ensures.steps c.loop-item.invariant.2.2),
      ),
    )
