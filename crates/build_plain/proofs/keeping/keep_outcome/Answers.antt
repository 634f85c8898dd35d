use Rattle.std.proofs.Common.{Some, refl, sym, subst}
use Rattle.std.proofs.lemmas.Result.{on_ok_weaker}
use Rattle.source_trees.specs.declared.merge.Merge.TheVariants as merge
use Rattle.build_plain.specs.declared.outcome.Outcome.{Outcome}
use Rattle.build_plain.specs.declared.parts.Parts.{Parts}
use Rattle.build_plain.specs.inner.Keeping.{Keeps}
use Rattle.build_plain.specs.Outcomes.{cells_in, merge_in}
use Rattle.build_plain.proofs.KeptParts.{both_kept, merge_kept, nothing_kept}
use Rattle.build_plain.proofs.keeping.keep_outcome.Goals as goal

pub returns-in_ok-put-in-Tokens : goal.returns-in_ok-put-in-Tokens
returns-in_ok-put-in-Tokens c = λ bare.
    let after : Parts = record { trees = c.args.parts.now.trees; merges = c.put-in-Tokens.new.self; cells = c.put.new.self } in
    on_ok_weaker c.put-in-Tokens.result
    (λ puts. subst (λ (o : Outcome). Keeps c.args.name.now (merge_in o) (cells_in o) c.args.parts.now after) (sym c.in-Tokens.is)
    (subst (λ f. Keeps c.args.name.now (Some (merge.Flat f)) (Some c.in-Tokens.tree.cells) c.args.parts.now after) c.into_parts-flat.ensures.tokens
    (subst (λ cs. Keeps c.args.name.now (Some (merge.Flat c.into_parts-flat.result.0)) (Some cs) c.args.parts.now after) c.into_parts-flat.ensures.cells
    (both_kept c.args.name.now c.args.parts.now after refl (merge.Flat c.into_parts-flat.result.0) c.into_parts-flat.result.1 c.in_ok-put-in-Tokens.ensures.at puts)))) c.put-in-Tokens.ensures.at

pub returns-in-TreeBreak : goal.returns-in-TreeBreak
returns-in-TreeBreak c = λ bare.
    let after : Parts = record { trees = c.args.parts.now.trees; merges = c.put-in-TreeBreak.new.self; cells = c.args.parts.now.cells } in
    on_ok_weaker c.put-in-TreeBreak.result
    (λ puts. subst (λ (o : Outcome). Keeps c.args.name.now (merge_in o) (cells_in o) c.args.parts.now after) (sym c.in-TreeBreak.is)
    (merge_kept c.args.name.now c.args.parts.now after refl (merge.Broken c.in-TreeBreak.fault) bare refl puts)) c.put-in-TreeBreak.ensures.at

pub returns-in-SourceBreak : goal.returns-in-SourceBreak
returns-in-SourceBreak c = λ bare.
    subst (λ (o : Outcome). Keeps c.args.name.now (merge_in o) (cells_in o) c.args.parts.now c.args.parts.now) (sym c.in-SourceBreak.is)
    (nothing_kept c.args.name.now c.args.parts.now bare)
