use Rattle.std.proofs.Common.{◌≡◌, ℕ, List, [], ◌∷◌, ◌++◌, ◌∙◌, Option, Some, None, option_map, ap, ap₂, map, sym, refl}
use Rattle.file_plan.specs.View.{plan_sources_view}
use Rattle.file_plan.specs.declared.source.PlanSource.{PlanSource}
use Rattle.source_trees.specs.Sources.{HomeAt}
use Rattle.refusals.specs.Refusal.{report_text}
use Rattle.build_plain.specs.Breaks.{first_file, tree_reports}
use Rattle.all_breaks.proofs.Planned.{tree_told}
use Rattle.all_breaks.proofs.perm.tree_texts.Goals as goal

pub returns : goal.returns
returns c =
    let files = c.args.files.now in
    let fault = c.args.fault.now in
    let first = c.first_file-first.ensures ∙ ap₂ (λ (h : HomeAt) (s : List PlanSource). first_file h (plan_sources_view s)) c.home_of-home.ensures c.as_slice.ensures in
    tree_told files c.first_file-first.result.now fault c.in_ok-text.text c.push.new.self c.in_ok-text.ensures (c.in_ok-push.ensures.ok ∙ ap (λ texts. texts ++ c.in_ok-text.text ∷ []) c.new-texts.ensures) ∙ ap (λ f. map (report_text files) (tree_reports f fault)) first
