use Rattle.std.proofs.Common.{List, map, map-id, ap, sym, ◌∙◌, arith}
use Rattle.std.proofs.lemmas.Iterator.Adapters.{YieldsList-from_vec}
use Rattle.std.proofs.lemmas.Iterator.Consumers.{YieldsList-end}
use Rattle.permutations.specs.declared.draft.Draft.{Draft}
use Rattle.permutations.specs.inner.Drafts.{drafts_view, finished}
use Rattle.permutations.proofs.InPlace.{finished_views}
use Rattle.permutations.proofs.listing.all_finished.Goals as goal

pub returns : goal.returns
returns c =
    let gives = c.into_iter-draft-iterator.ensures.into_iter_gives in
    let end = YieldsList-end (YieldsList-from_vec {s = c.into_iter-draft-iterator.result} c.args.drafts.items gives.0 (omega (arith, gives.1, c.args.drafts.ok.0))) c.loop-draft.yielded c.loop-draft.draft-iterator c.loop-draft.yielded_by c.next.result c.next.new.self c.in-None.is c.next.ensures.steps in
    c.loop-draft.invariant
    ∙ (finished_views c.loop-draft.yielded ∙ ap (λ (ds : List Draft). map finished (drafts_view ds)) (sym (map-id c.loop-draft.yielded) ∙ end.0))
