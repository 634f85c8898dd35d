use Rattle.std.proofs.Common.{◌≡◌, ◌<◌, length, ap, sym, ◌∙◌, arith}
use Rattle.permutations.specs.declared.draft.Draft.{Draft}
use Rattle.permutations.specs.inner.Drafts.{DraftData, draft_view, with_more}
use Rattle.permutations.proofs.InPlace.{one_more}
use Rattle.permutations.proofs.draft.add_to_each.Goals as goal

pub loop-draft-preserved : goal.loop-draft-preserved
loop-draft-preserved c =
    let within : c.loop-draft.draft-index < length c.args.drafts.now = omega arith in
    let same : length c.loop-draft.drafts ≡ length c.args.drafts.now = omega (arith, c.loop-draft.auto.drafts) in
    let made : draft_view c.add.new.draft ≡ with_more (draft_view c.draft-item.result) (draft_view c.args.more.now) =
    c.in_ok-add.ensures ∙ ap (λ (d : Draft). with_more (draft_view d) (draft_view c.args.more.now)) (sym c.draft-item.is) in
    one_more (λ (d : DraftData). with_more d (draft_view c.args.more.now)) c.args.drafts.now c.loop-draft.drafts c.loop-draft.draft-index
    c.draft-item.result c.add.new.draft within same c.loop-draft.invariant c.draft-item.is made
