use Rattle.std.proofs.Common.{ℕ, List, map, ap, sym, ◌∙◌}
use Rattle.permutations.specs.Answer.{told_number}
use Rattle.resolver_doc.specs.Document.{SetData}
use Rattle.resolver_doc.specs.View.{sets_view, item_view}
use Rattle.permutations.specs.Permutation.{greatest}
use Rattle.resolver_doc.specs.declared.written.Item.{Item}
use Rattle.resolver_doc.specs.declared.written.SetDef.{SetDef}
use Rattle.permutations.specs.inner.Counting.{source_count, item_most}
use Rattle.permutations.proofs.CountSteps.{picked_contexts}
use Rattle.permutations.proofs.counting.item_most.Goals as goal

pub returns-in-Modifier : goal.returns-in-Modifier
returns-in-Modifier c =
    let sets = sets_view c.args.table.now.sets.now in
    c.most_in.ensures
    ∙ (ap (λ (contexts : List SetDef). told_number (greatest (map (λ (d : SetData). source_count sets d.sources) (sets_view contexts)))) c.as_slice-in-Modifier.ensures
    ∙ (ap (λ (ns : List ℕ). told_number (greatest ns)) (sym (picked_contexts sets c.in-Modifier.field-0 (sets_view c.in-Modifier.contexts)))
    ∙ ap (λ (item : Item). told_number (item_most sets (item_view item))) (sym c.in-Modifier.is)))
