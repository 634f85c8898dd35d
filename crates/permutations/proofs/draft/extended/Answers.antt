use Rattle.std.proofs.Common.{◌≡◌, List, length, map, ap, sym, ◌∙◌, arith}
use Rattle.permutations.specs.declared.draft.Draft.{Draft}
use Rattle.permutations.specs.inner.Drafts.{DraftData, draft_view, drafts_view, with_more, with_each}
use Rattle.permutations.proofs.InPlace.{single, with_one, all_back}
use Rattle.permutations.proofs.draft.extended.Goals as goal

pub returns-then-options-eq1 : goal.returns-then-options-eq1
returns-then-options-eq1 c =
    let items = c.args.drafts.items in
    let option = c.index-options-0.result in
    let same : length c.add_to_each.new.drafts ≡ length items = omega (arith, c.add_to_each.auto.drafts, ap length c.as_mut_slice.ensures.value) in
    ap drafts_view (all_back items c.add_to_each.new.drafts c.args.drafts.len same (omega (arith, c.args.drafts.ok.0)))
    ∙ (c.in_ok-add_to_each.ensures
    ∙ (ap (λ (ds : List Draft). map (λ (d : DraftData). with_more d (draft_view option)) (drafts_view ds)) c.as_mut_slice.ensures.value
    ∙ (sym (with_one (drafts_view items) (draft_view option))
    ∙ ap (λ (os : List Draft). with_each (drafts_view items) (drafts_view os)) (sym (single c.args.options.now option (omega arith) c.index-options-0.is)))))
