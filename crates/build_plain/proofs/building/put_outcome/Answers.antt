use Rattle.std.proofs.Common.{◌∙◌, [], Some, None, List, ap, ap₂, refl, subst}
use Rattle.std.proofs.lemmas.Result.{on_ok_weaker}
use Rattle.std.specs.FinMap as map
use Rattle.std.specs.List.{zip}
use Rattle.file_plan.specs.View.{plan_perm_view, plan_sources_view}
use Rattle.file_plan.specs.declared.source.PlanSource.{PlanSource}
use Rattle.source_trees.specs.Sources.{HomeAt}
use Rattle.source_trees.specs.declared.merge.Merge.TheVariants as merge
use Rattle.token_cells.specs.Breaks.{token_reports, verdict}
use Rattle.build_plain.specs.Breaks.{first_file, tree_reports}
use Rattle.build_plain.specs.Out.{perm_outputs, put_beside}
use Rattle.build_plain.specs.Outcomes.{IsOutcome}
use Rattle.build_plain.proofs.Kept.{gives_kept_break, gives_kept_flat, gives_source}
use Rattle.build_plain.proofs.building.put_outcome.Goals as goal

pub returns-in-Tokens : goal.returns-in-Tokens
returns-in-Tokens c =
    let files = c.args.files.now in
    let tree = c.in-Tokens.tree in
    let before = c.args.outputs.now in
    on_ok_weaker c.put_tokens.result
    (λ put. gives_kept_flat files c.args.cfg.now (plan_perm_view c.args.perm.now) before c.put_tokens.new.outputs tree.tokens (Some (merge.Flat tree.tokens)) (Some tree.cells) tree.cells
    (subst (IsOutcome c.args.cfg.now files (plan_perm_view c.args.perm.now)) c.in-Tokens.is c.requires) refl refl
    (put
    ∙ (ap (λ f. put_beside before (perm_outputs files c.as_str-name.result.now c.cells.result.now (verdict (token_reports f (zip (map.entries f) c.cells.result.now))))) c.tokens.ensures
    ∙ ap₂ (λ n cs. put_beside before (perm_outputs files n cs (verdict (token_reports tree.tokens (zip (map.entries tree.tokens) cs))))) c.as_str-name.ensures c.cells.ensures))) c.put_tokens.ensures

pub returns-in-TreeBreak : goal.returns-in-TreeBreak
returns-in-TreeBreak c =
    let files = c.args.files.now in
    let fault = c.in-TreeBreak.fault in
    let before = c.args.outputs.now in
    let first = c.first_file-first.ensures ∙ ap₂ (λ (h : HomeAt) (s : List PlanSource). first_file h (plan_sources_view s)) c.home_of-home.ensures c.as_slice.ensures in
    on_ok_weaker c.put_tree_break.result
    (λ put. gives_kept_break files c.args.cfg.now (plan_perm_view c.args.perm.now) before c.put_tree_break.new.outputs fault (Some (merge.Broken fault)) None
    (subst (IsOutcome c.args.cfg.now files (plan_perm_view c.args.perm.now)) c.in-TreeBreak.is c.requires) refl
    (put ∙ ap₂ (λ n f. put_beside before (perm_outputs files n [] (verdict (tree_reports f fault)))) c.as_str-name.ensures first)) c.put_tree_break.ensures

pub returns-in-SourceBreak : goal.returns-in-SourceBreak
returns-in-SourceBreak c =
    on_ok_weaker c.put_source_break.result
    (gives_source c.args.files.now c.args.cfg.now (plan_perm_view c.args.perm.now) c.args.outputs.now c.put_source_break.new.outputs c.as_str-name.result.now c.as_str-name.ensures
    c.in-SourceBreak.found (subst (IsOutcome c.args.cfg.now c.args.files.now (plan_perm_view c.args.perm.now)) c.in-SourceBreak.is c.requires)) c.put_source_break.ensures
