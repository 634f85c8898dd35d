use Rattle.std.proofs.Common.{◌≡◌, ◌+◌, ◌∷◌, [], length, Some, arith, refl, sym, ap, ap₂, ◌∙◌, subst, length-append}
use Rattle.std.proofs.lemmas.Result.{err_from_is_err_and, on_ok_weaker}
use Rattle.group_inherit.specs.Merging.{either}
use Rattle.json_span.specs.Plain.{plains_of, plain_array}
use Rattle.json_span.specs.PlainView.{plain_view}
use Rattle.alias_ref.specs.Written.{array, object, leaf, part, parts, is_misspelled, parts_by_index, parts_by_name, steps_of, written_in}
use Rattle.alias_ref.specs.Meaning.{Means, means_leaf, means_parts, means_target}
use Rattle.alias_ref.specs.Visits.{settle_by, passed, walked, walk_written, first_break}
use Rattle.alias_ref.specs.Kinds.{own_in, group_in}
use Rattle.alias_ref.specs.inner.Contents.{content_view}
use Rattle.json_span.specs.View.{ref_view, items_view, fields_view}
use Rattle.alias_ref.specs.inner.Linking.{lent}
use Rattle.alias_ref.specs.inner.Seen.{Clean, Sees, IsFault}
use Rattle.alias_ref.specs.inner.Spots.{start_in, spot_at}
use Rattle.alias_ref.specs.inner.Walks.{walking_reference}
use Rattle.alias_ref.proofs.FirstBreaks.{clean_nil, enters, walked-fault}
use Rattle.alias_ref.proofs.LinksOfParts.{alone, refers_kind}
use Rattle.alias_ref.proofs.PartsInTurn.{none_walked, next_item, next_field, walked_more, items_more, walked_fault, leaf_grown, grown_parts, lead_by, refers_grown}
use Rattle.alias_ref.proofs.PlainViews.{array_view, object_view}
use Rattle.alias_ref.proofs.RememberedTokens.{home_more, same_home}
use Rattle.alias_ref.proofs.Targets.{HasReached, recalled_reached, target_reached}
use Rattle.alias_ref.proofs.SpotsStand.{spot_written, spot_start, spot_shows, own_is, group_is, kinds_at, leaf_shows, part_start, holder_part, holder_few}
use Rattle.alias_ref.proofs.TracesGrow.{spot_own, starts_more, same_starts, same_then, none_case, some_case}
use Rattle.alias_ref.proofs.WalksInTurns.{leaf_clean, on_ok, walk_sees, target_fault}
use Rattle.alias_ref.proofs.walking.+walking.Goals as goal

pub walk-returns-in_err-enter-clause-seen : goal.walk-returns-in_err-enter-clause-seen
walk-returns-in_err-enter-clause-seen t c =
    let old = c.args.trace.now in
    let T = written_in c.args.flat.now in
    let spot = c.args.spot in
    let p = err_from_is_err_and c.from_residual.result c.from_residual.ensures.1 in
    rw (p.1, p.2) (walked-fault T c.in_err-enter.field-0.0 old.visits old.places.items spot.place (spot_own old c.requires.at c.requires.starts c.in_err-enter.ensures.broken))

pub walk-walk_on-found-requires : goal.walk-walk_on-found-requires
walk-walk_on-found-requires t c =
    let old = c.args.trace.now in
    let T = written_in c.args.flat.now in
    let flat = c.args.flat.now in
    let spot = c.args.spot in
    let is = spot_written flat spot c.requires.at in
    let e = c.in_ok-enter.ensures in
    let own = spot_own old c.requires.at c.requires.starts e.broken in
    let entered = enters T old.visits old.places.items spot.place own in
    let grown : length c.enter.new.self.places.items ≡ length old.places.items + 1 = ap length e.places ∙ length-append old.places.items (spot.place ∷ []) in
    let starts = starts_more (start_in flat) old.places.items c.enter.new.self.places.items old.starts.items c.enter.new.self.starts.items spot.place spot.start c.requires.starts e.places e.starts (spot_start flat spot c.requires.at) in
    let home = home_more flat c.args.memory.now.known.items c.args.own old c.enter.new.self spot.place c.requires.home e.places in
    (omega (arith, entered.room, grown), (c.requires.at, (omega (arith, entered.room, grown), (starts, (home, ap is_misspelled (sym is) ∙ entered.spelled)))))

pub walk-returns-clause-seen : goal.walk-returns-clause-seen
walk-returns-clause-seen t c =
    let old = c.args.trace.now in
    let T = written_in c.args.flat.now in
    let flat = c.args.flat.now in
    let spot = c.args.spot in
    let is = spot_written flat spot c.requires.at in
    let e = c.in_ok-enter.ensures in
    let own = spot_own old c.requires.at c.requires.starts e.broken in
    let found = c.walk_on-found.result in
    subst (λ k. Sees T (walked T old.places.items spot.place) old.visits k found) (sym c.leave.ensures.visits)
    (walk_sees T old.visits old.places.items c.enter.new.self.places.items spot.place (content_view spot.content) is own e.places e.counted _ found c.walk_on-found.ensures.seen)

pub walk-returns-clause-branch : goal.walk-returns-clause-branch
walk-returns-clause-branch t c =
    let old = c.args.trace.now in
    let e = c.in_ok-enter.ensures in
    on_ok_weaker c.walk_on-found.result
    (λ same. (c.leave.ensures.places old.places.items c.args.spot.place (same.0 ∙ e.places), c.leave.ensures.starts old.starts.items c.args.spot.start (same.1 ∙ e.starts)))
    c.walk_on-found.ensures.branch

pub walk_fields-loop-field-init : goal.walk_fields-loop-field-init
walk_fields-loop-field-init t c =
    let same : c.into_iter-field-iterator.result ≡ c.args.fields = c.into_iter-field-iterator.ensures.into_iter_gives in
    (tt, tt, none_walked (sym (ap (λ i. parts_by_name (fields_view i)) same)) c.new-list.ensures, (refl, refl))

pub walk_fields-walk_part-requires : goal.walk_fields-walk_part-requires
walk_fields-walk_part-requires t c =
    let flat = c.args.flat.now in
    let inv = c.loop-field.invariant in
    let first = c.in-Some.ensures.steps in
    let w = next_field inv.2 first c.in_ok-name.ensures c.value.ensures in
    let same : length c.loop-field.trace.places.items ≡ length c.args.trace.now.places.items = ap length inv.3.0 in
    (omega (arith, same), (holder_part flat c.args.place.now c.args.token.now _ w.front c.in_ok-name.name (ref_view c.value.result) _ c.requires.at w.split, (omega (arith, same, c.requires.room), (same_starts flat c.args.trace.now c.loop-field.trace c.requires.starts inv.3, same_home flat c.args.memory.now.known.items c.args.own c.args.trace.now c.loop-field.trace c.args.place.now.token c.requires.home inv.3))))

pub walk_fields-returns-in_err-value-clause-seen : goal.walk_fields-returns-in_err-value-clause-seen
walk_fields-returns-in_err-value-clause-seen t c =
    let inv = c.loop-field.invariant in
    let first = c.in-Some.ensures.steps in
    let w = next_field inv.2 first c.in_ok-name.ensures c.value.ensures in
    let p = err_from_is_err_and c.from_residual-in_err-value.result c.from_residual-in_err-value.ensures.1 in
    rw (p.1, p.2) (walked_fault c.in_err-value.field-0.0 w inv.3.0 c.in_err-value.ensures.seen)

pub walk_fields-loop-field-preserved : goal.walk_fields-loop-field-preserved
walk_fields-loop-field-preserved t c =
    let inv = c.loop-field.invariant in
    let first = c.in-Some.ensures.steps in
    let e = c.in_ok-value.ensures in
    let w = next_field inv.2 first c.in_ok-name.ensures c.value.ensures in
    (tt, tt, walked_more c.walk_part.new.links w inv.3.0 e.seen e.means e.links c.in_ok-push.ensures.ok, same_then c.args.trace.now c.loop-field.trace c.walk_part.new.trace inv.3 e.branch)

pub walk_items-loop-node-init : goal.walk_items-loop-node-init
walk_items-loop-node-init t c =
    let same : c.into_iter-node-iterator.result ≡ c.args.items = c.into_iter-node-iterator.ensures.into_iter_gives in (
      tt,
      tt,
      ([], c.new-list.ensures, none_walked (sym (ap (λ i. parts_by_index 0 (items_view i)) same)) refl),
      omega (arith, ap (λ i. length (items_view i)) same),
      (refl, refl),
    )

pub walk_items-walk_part-requires : goal.walk_items-walk_part-requires
walk_items-walk_part-requires t c =
    let flat = c.args.flat.now in
    let inv = c.loop-node.invariant in
    let first = c.in-Some.ensures.steps in
    let w = next_item c.loop-node.index inv.2.2 first c.in_ok-step.ensures in
    let same : length c.loop-node.trace.places.items ≡ length c.args.trace.now.places.items = ap length inv.4.0 in
    (omega (arith, same), (holder_part flat c.args.place.now c.args.token.now _ w.front c.in_ok-step.step (ref_view c.in-Some.node) _ c.requires.at w.split, (omega (arith, same, c.requires.room), (same_starts flat c.args.trace.now c.loop-node.trace c.requires.starts inv.4, same_home flat c.args.memory.now.known.items c.args.own c.args.trace.now c.loop-node.trace c.args.place.now.token c.requires.home inv.4))))

pub walk_items-returns-in_err-plain-clause-seen : goal.walk_items-returns-in_err-plain-clause-seen
walk_items-returns-in_err-plain-clause-seen t c =
    let inv = c.loop-node.invariant in
    let first = c.in-Some.ensures.steps in
    let w = next_item c.loop-node.index inv.2.2 first c.in_ok-step.ensures in
    let p = err_from_is_err_and c.from_residual-in_err-plain.result c.from_residual-in_err-plain.ensures.1 in
    rw (p.1, p.2) (walked_fault c.in_err-plain.field-0.0 w inv.4.0 c.in_err-plain.ensures.seen)

pub walk_items-overflow_add-index : goal.walk_items-overflow_add-index
walk_items-overflow_add-index t c =
    let inv = c.loop-node.invariant in
    let first = c.in-Some.ensures.steps in
    let few = holder_few c.args.flat.now c.args.place.now c.args.token.now (items_view c.args.items) c.requires.at in
    omega (arith, inv.3, ap length first, few)

pub walk_items-loop-node-preserved-in_ok-push : goal.walk_items-loop-node-preserved-in_ok-push
walk_items-loop-node-preserved-in_ok-push t c =
    let inv = c.loop-node.invariant in
    let first = c.in-Some.ensures.steps in
    let e = c.in_ok-plain.ensures in
    let w = next_item c.loop-node.index inv.2.2 first c.in_ok-step.ensures in
    (tt, tt, items_more c.walk_part.new.links w inv.2.1 inv.4.0 e.seen e.means e.links c.in_ok-push.ensures.ok, omega (arith, inv.3, ap length first), same_then c.args.trace.now c.loop-node.trace c.walk_part.new.trace inv.4 e.branch)

pub walk_items-loop-node-preserved : goal.walk_items-loop-node-preserved
walk_items-loop-node-preserved t c =
    let inv = c.loop-node.invariant in
    let first = c.in-Some.ensures.steps in
    let e = c.in_ok-plain.ensures in
    let w = next_item c.loop-node.index inv.2.2 first c.in_ok-step.ensures in
    (tt, tt, items_more c.walk_part.new.links w inv.2.1 inv.4.0 e.seen e.means e.links c.in_ok-push.ensures.ok, omega (arith, inv.3, ap length first), same_then c.args.trace.now c.loop-node.trace c.walk_part.new.trace inv.4 e.branch)

pub walk_on-returns-in-Leaf-clause-seen : goal.walk_on-returns-in-Leaf-clause-seen
walk_on-returns-in-Leaf-clause-seen t c =
    let T = written_in c.args.flat.now in
    let spot = spot_at c.args.place.now c.args.token c.args.start c.args.content in
    let settle = settle_by T (passed T c.args.trace.now.places.items) in
    let walk = walked T c.args.trace.now.places.items in
    subst (λ w. Clean T c.args.trace.now.visits c.args.trace.now.visits (walk_written T settle walk spot.place (Some w))) (sym (ap content_view c.in-Leaf.is)) (clean_nil T c.args.trace.now.visits)

pub walk_on-returns-in-Leaf-clause-means : goal.walk_on-returns-in-Leaf-clause-means
walk_on-returns-in-Leaf-clause-means t c =
    subst (λ v. Means (written_in c.args.flat.now) c.args.place.now (plain_view v)) (sym c.found_here.ensures.plain)
    (means_leaf (spot_shows c.args.flat.now (spot_at c.args.place.now c.args.token c.args.start c.args.content) _ c.requires.at c.in-Leaf.is))

pub walk_on-returns-in-Leaf-clause-kind : goal.walk_on-returns-in-Leaf-clause-kind
walk_on-returns-in-Leaf-clause-kind t c = λ at.
    let flat = c.args.flat.now in
    let spot = spot_at c.args.place.now c.args.token c.args.start c.args.content in
    alone (written_in flat) (own_in flat) (group_in flat) spot.place (leaf (plain_view c.in-Leaf.plain)) c.found_here.result.kind (spot_shows flat spot _ c.requires.at c.in-Leaf.is) refl at (kinds_at flat spot c.found_here.result.kind c.requires.at c.found_here.ensures.kind)

pub walk_on-returns-in-Leaf-clause-links : goal.walk_on-returns-in-Leaf-clause-links
walk_on-returns-in-Leaf-clause-links t c =
    let flat = c.args.flat.now in
    leaf_grown (written_in flat) (own_in flat) (group_in flat) c.args.own c.args.place.now (plain_view c.in-Leaf.plain) c.args.links.now (spot_shows flat (spot_at c.args.place.now c.args.token c.args.start c.args.content) _ c.requires.at c.in-Leaf.is)

pub walk_on-returns-in-Ok-clause-means : goal.walk_on-returns-in-Ok-clause-means
walk_on-returns-in-Ok-clause-means t c =
    let flat = c.args.flat.now in
    let k = c.in-Ok.ensures.means in
    let view = ap plain_view c.found_here-in-Ok.ensures.plain ∙ array_view c.in-Ok.list ∙ ap (λ vs. plain_array (plains_of vs)) k.2 in
    subst (Means (written_in flat) c.args.place.now) (sym view) (means_parts (spot_shows flat (spot_at c.args.place.now c.args.token c.args.start c.args.content) _ c.requires.at c.in-Array.is) k.1)

pub walk_on-returns-in-Ok-clause-kind : goal.walk_on-returns-in-Ok-clause-kind
walk_on-returns-in-Ok-clause-kind t c = λ at.
    let flat = c.args.flat.now in
    let spot = spot_at c.args.place.now c.args.token c.args.start c.args.content in
    alone (written_in flat) (own_in flat) (group_in flat) spot.place (parts array (steps_of (parts_by_index 0 (items_view c.in-Array.items)))) c.found_here-in-Ok.result.kind (spot_shows flat spot _ c.requires.at c.in-Array.is) refl at (kinds_at flat spot c.found_here-in-Ok.result.kind c.requires.at c.found_here-in-Ok.ensures.kind)

pub walk_on-returns-in-Ok-clause-links : goal.walk_on-returns-in-Ok-clause-links
walk_on-returns-in-Ok-clause-links t c =
    let flat = c.args.flat.now in
    let there = spot_shows flat (spot_at c.args.place.now c.args.token c.args.start c.args.content) _ c.requires.at c.in-Array.is in
    grown_parts (written_in flat) (own_in flat) (group_in flat) c.args.own c.args.place.now (steps_of (parts_by_index 0 (items_view c.in-Array.items))) c.args.links.now c.walk_items.new.links there c.in-Ok.ensures.links

pub walk_on-returns-in-Ok-walk_fields-clause-means : goal.walk_on-returns-in-Ok-walk_fields-clause-means
walk_on-returns-in-Ok-walk_fields-clause-means t c =
    let flat = c.args.flat.now in
    let there = spot_shows flat (spot_at c.args.place.now c.args.token c.args.start c.args.content) _ c.requires.at c.in-Object.is in
    subst (Means (written_in flat) c.args.place.now) (sym (ap plain_view c.found_here-in-Ok-walk_fields.ensures.plain ∙ object_view c.in-Ok-walk_fields.list)) (means_parts there c.in-Ok-walk_fields.ensures.means)

pub walk_on-returns-in-Ok-walk_fields-clause-kind : goal.walk_on-returns-in-Ok-walk_fields-clause-kind
walk_on-returns-in-Ok-walk_fields-clause-kind t c = λ at.
    let flat = c.args.flat.now in
    let spot = spot_at c.args.place.now c.args.token c.args.start c.args.content in
    alone (written_in flat) (own_in flat) (group_in flat) spot.place (parts object (steps_of (parts_by_name (fields_view c.in-Object.fields)))) c.found_here-in-Ok-walk_fields.result.kind (spot_shows flat spot _ c.requires.at c.in-Object.is) refl at (kinds_at flat spot c.found_here-in-Ok-walk_fields.result.kind c.requires.at c.found_here-in-Ok-walk_fields.ensures.kind)

pub walk_on-returns-in-Ok-walk_fields-clause-links : goal.walk_on-returns-in-Ok-walk_fields-clause-links
walk_on-returns-in-Ok-walk_fields-clause-links t c =
    let flat = c.args.flat.now in
    let there = spot_shows flat (spot_at c.args.place.now c.args.token c.args.start c.args.content) _ c.requires.at c.in-Object.is in
    grown_parts (written_in flat) (own_in flat) (group_in flat) c.args.own c.args.place.now (steps_of (parts_by_name (fields_view c.in-Object.fields))) c.args.links.now c.walk_fields.new.links there c.in-Ok-walk_fields.ensures.links

pub walk_on-returns-in-Ok-walk_reference : goal.walk_on-returns-in-Ok-walk_reference
walk_on-returns-in-Ok-walk_reference t c =
    let T = written_in c.args.flat.now in
    let flat = c.args.flat.now in
    let spot = spot_at c.args.place.now c.args.token c.args.start c.args.content in
    let branch = c.args.trace.now.places.items in
    let settle = settle_by T (passed T branch) in
    let walk = walked T branch in
    let token = c.in-Refers.named.token in
    let trail = c.in-Refers.named.trail in
    let view = ap content_view c.in-Refers.is in
    let is = spot_written flat spot c.requires.at ∙ ap (λ w. Some w) view in
    let found = c.in-Ok-walk_reference in
    let target = found.ensures.target in
    let q = target.place in
    let refer = c.in_ok-kind-in-Ok-walk_reference in
    let own = own_is flat spot.place spot.token.now c.requires.at.value c.requires.at.stands in
    let group = group_is flat spot.place spot.token.now c.requires.at.value c.requires.at.stands in
    record {
      seen = subst (λ w. Clean T c.args.trace.now.visits c.walk_reference.new.trace.visits (walk_written T settle walk spot.place (Some w))) (sym view) found.ensures.seen;
      means = means_target (lead_by T branch spot.place q token trail is target.ends) target.means;
      kind = λ at. refers_kind T (own_in flat) (group_in flat) settle spot.place q token trail found.target.kind refer.kind is target.ends target.kind
          (refer.ensures.kind ∙ ap₂ (λ x y. either x (either (lent found.target.kind trail) y)) (sym own) (sym group)) at;
      links = refers_grown T (own_in flat) (group_in flat) c.args.own settle spot.place q token trail found.target.kind c.args.links.now c.walk_reference.new.links c.refer.new.links is target.ends target.kind found.ensures.links refer.ensures.links;
      branch = found.ensures.branch;
    }

pub walk_reference-returns-in-Some : goal.walk_reference-returns-in-Some
walk_reference-returns-in-Some t c =
    let flat = c.args.flat.now in
    let T = written_in flat in
    let branch = c.args.trace.now.places.items in
    let named = c.args.named.now in
    let known = some_case c.in_ok-found.field-0 c.in-Some.found _ c.in-Some.is c.in_ok-found.ensures.some c.args.place.now.token c.requires.home in
    let r = recalled_reached flat c.args.trace.now c.recall.new.trace c.args.place.now named c.in-Some.found known c.in_ok-found.ensures.branch c.args.links.now in
    record { seen = r.seen; target = r.target; links = r.links; branch = r.branch }

pub walk_reference-returns-in_err-target-clause-seen : goal.walk_reference-returns-in_err-target-clause-seen
walk_reference-returns-in_err-target-clause-seen t c =
    let T = written_in c.args.flat.now in
    let f = c.in_err-target.field-0.0 in
    let home = c.args.place.now in
    let named = c.args.named.now in
    let same = none_case c.in_ok-found.field-0 _ c.in_default.is c.in_ok-found.ensures.none in
    let p = err_from_is_err_and c.from_residual-in_err-target.result c.from_residual-in_err-target.ensures.1 in
    rw (p.1, p.2) (subst (λ t. IsFault f (first_break T t.visits (walking_reference home named T t.places.items))) same
    (target_fault T f c.recall.new.trace.visits (settle_by T (passed T c.recall.new.trace.places.items)) (walked T c.recall.new.trace.places.items) home named.token named.trail c.in_err-target.ensures.seen))

pub walk_reference-returns : goal.walk_reference-returns
walk_reference-returns t c =
    let same = none_case c.in_ok-found.field-0 _ c.in_default.is c.in_ok-found.ensures.none in
    let k = c.in_ok-target.ensures in
    let w = c.walk_target.ensures in
    let r = subst (λ t. HasReached c.args.flat.now t c.walk_target.new.trace c.args.place.now c.args.named.now c.args.links.now c.walk_target.new.links c.walk_target.result) same
    (target_reached c.args.flat.now c.recall.new.trace c.follow.new.trace c.walk_target.new.trace c.args.place.now c.args.named.now c.in_ok-target.target.place c.args.links.now c.walk_target.new.links c.walk_target.result
    k.ends k.seen k.branch w.seen w.means w.kind w.links w.branch) in
    record { seen = r.seen; target = r.target; links = r.links; branch = r.branch }

pub walk_part-returns-in_err-visit_leaf-in-Leaf-clause-seen : goal.walk_part-returns-in_err-visit_leaf-in-Leaf-clause-seen
walk_part-returns-in_err-visit_leaf-in-Leaf-clause-seen t c =
    let flat = c.args.flat.now in
    let T = written_in flat in
    let place = c.args.place.now in
    let step = c.args.step.now in
    let f = c.in_err-visit_leaf-in-Leaf.field-0.0 in
    let is = leaf_shows c.requires.at c.in_ok-content.ensures c.in-Leaf.is in
    let start = c.start.ensures ∙ part_start c.requires.at in
    let own = c.in_err-visit_leaf-in-Leaf.ensures.broken flat T (plain_view c.in-Leaf.plain) c.requires.starts start is in
    let p = err_from_is_err_and c.from_residual-in_err-visit_leaf-in-Leaf.result c.from_residual-in_err-visit_leaf-in-Leaf.ensures.1 in
    rw (p.1, p.2) (walked-fault T f c.args.trace.now.visits c.args.trace.now.places.items (part place step) own)

pub walk_part-returns-in_ok-visit_leaf-in-Leaf-clause-seen : goal.walk_part-returns-in_ok-visit_leaf-in-Leaf-clause-seen
walk_part-returns-in_ok-visit_leaf-in-Leaf-clause-seen t c =
    let flat = c.args.flat.now in
    let T = written_in flat in
    let place = c.args.place.now in
    let step = c.args.step.now in
    let e = c.in_ok-visit_leaf-in-Leaf.ensures in
    let is = leaf_shows c.requires.at c.in_ok-content.ensures c.in-Leaf.is in
    let start = c.start.ensures ∙ part_start c.requires.at in
    leaf_clean T c.args.trace.now.places.items (part place step) (plain_view c.in-Leaf.plain) is (e.broken flat T (plain_view c.in-Leaf.plain) c.requires.starts start is) e.counted

pub walk_part-returns-in_ok-visit_leaf-in-Leaf-clause-means : goal.walk_part-returns-in_ok-visit_leaf-in-Leaf-clause-means
walk_part-returns-in_ok-visit_leaf-in-Leaf-clause-means t c =
    means_leaf (leaf_shows c.requires.at c.in_ok-content.ensures c.in-Leaf.is)

pub walk_part-returns-in_ok-visit_leaf-in-Leaf-clause-links : goal.walk_part-returns-in_ok-visit_leaf-in-Leaf-clause-links
walk_part-returns-in_ok-visit_leaf-in-Leaf-clause-links t c =
    let flat = c.args.flat.now in
    leaf_grown (written_in flat) (own_in flat) (group_in flat) c.args.own (part c.args.place.now c.args.step.now) (plain_view c.in-Leaf.plain) c.args.links.now (leaf_shows c.requires.at c.in_ok-content.ensures c.in-Leaf.is)

pub walk_target-returns-in-Some : goal.walk_target-returns-in-Some
walk_target-returns-in-Some t c =
    let told = c.in-Some.ensures.told c.args.flat.now c.requires.at in
    record {
      seen = told.seen;
      means = told.means;
      kind = told.kind;
      links = on_ok c.in-Some.found refl;
      branch = on_ok c.in-Some.found c.in-Some.ensures.branch;
    }
