use Rattle.std.proofs.Common.{◌<◌, ℕ, length, map, take, ap, ap₂, sym, ◌∙◌, arith}
use Rattle.std.specs.Prelude.{max}
use Rattle.permutations.specs.Answer.{told_number, last_number}
use Rattle.resolver_doc.specs.View.{sets_view, sources_view}
use Rattle.permutations.specs.Permutation.{greatest}
use Rattle.permutations.specs.inner.Counting.{source_count}
use Rattle.permutations.proofs.CountSteps.{most_more, told_max}
use Rattle.permutations.proofs.counting.most_in.Goals as goal

pub loop-context-preserved : goal.loop-context-preserved
loop-context-preserved c =
    let sets = sets_view c.args.table.now.sets.now in
    let i = c.loop-context.context-index in
    let within : i < length c.args.contexts.now = omega arith in
    let before = greatest (map (λ d. source_count sets d.sources) (sets_view (take i c.args.contexts.now))) in
    let here = source_count sets (sources_view c.context-item.result.sources) in
    c.max-most.ensures
    ∙ (ap₂ (λ (a b : ℕ). max a b) (c.source_count.ensures ∙ ap (λ ss. told_number (source_count sets (sources_view ss))) c.as_slice.ensures) c.loop-context.invariant
    ∙ (told_max before here last_number
    ∙ ap told_number (sym (most_more (λ d. source_count sets d.sources) c.args.contexts.now i c.context-item.result within c.context-item.is))))
