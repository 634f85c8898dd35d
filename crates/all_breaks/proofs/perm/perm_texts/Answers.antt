use Rattle.std.proofs.Common.{◌∙◌, List, Option, Some, None, ap, ap₂, map, sym, subst}
use Rattle.std.proofs.lemmas.Result.{IfOk-weaker}
use Rattle.std.specs.FinMap as finite
use Rattle.std.specs.List.{zip}
use Rattle.file_plan.specs.View.{plan_perm_view, plan_sources_view}
use Rattle.file_plan.specs.declared.source.PlanSource.{PlanSource}
use Rattle.source_trees.specs.Merging.{AllInlineStand, AreKnown}
use Rattle.source_trees.specs.Sources.{HomeAt}
use Rattle.refusals.specs.Refusal.{report_text}
use Rattle.token_cells.specs.Breaks.{token_reports}
use Rattle.build_plain.specs.Breaks.{first_file, home_of, tree_reports}
use Rattle.build_plain.specs.Outcomes.{IsOutcome}
use Rattle.all_breaks.specs.inner.Making.{AreFirstTexts, AreTextsOf}
use Rattle.all_breaks.proofs.Tellings.{tells_broken, tells_firsts, tells_flat}
use Rattle.all_breaks.proofs.perm.perm_texts.Goals as goal

pub returns-in-Tokens : goal.returns-in-Tokens
returns-in-Tokens c =
    let files = c.args.files.now in
    let settings = c.args.cfg.now in
    let p = plan_perm_view c.args.perm.now in
    let tree = c.in-Tokens.tree in
    IfOk-weaker c.break_texts.result _ (AreTextsOf settings files p)
    (λ texts is. (
      token_reports tree.tokens (zip (finite.entries tree.tokens) tree.cells),
      tells_flat c.one_merge.ensures.found settings files p tree.tokens tree.cells (subst (IsOutcome settings files p) c.in-Tokens.is c.requires.outcome),
      is
          ∙ (ap (λ f. map (report_text files) (token_reports f (zip (finite.entries f) c.cells.result.now))) c.tokens.ensures
          ∙ ap (λ cs. map (report_text files) (token_reports tree.tokens (zip (finite.entries tree.tokens) cs))) c.cells.ensures),
    )) c.break_texts.ensures

pub returns-in-TreeBreak : goal.returns-in-TreeBreak
returns-in-TreeBreak c =
    let files = c.args.files.now in
    let settings = c.args.cfg.now in
    let p = plan_perm_view c.args.perm.now in
    let fault = c.in-TreeBreak.fault in
    IfOk-weaker c.tree_texts.result _ (AreTextsOf settings files p)
    (λ texts is. (
      tree_reports (first_file (home_of files) p.sources) fault,
      tells_broken c.one_merge.ensures.found settings files p fault (subst (IsOutcome settings files p) c.in-TreeBreak.is c.requires.outcome),
      is,
    )) c.tree_texts.ensures

pub first_texts-requires : goal.first_texts-requires
first_texts-requires c =
    let slice = c.as_slice.result.now in
    record {
      home = c.home_of-home.ensures;
      stand = subst (λ (h : HomeAt). AllInlineStand h.text (plan_sources_view slice)) (sym c.home_of-home.ensures)
          (subst (λ (s : List PlanSource). AllInlineStand (home_of c.args.files.now).text (plan_sources_view s)) (sym c.as_slice.ensures) c.requires.stand);
      known = subst (λ (s : List PlanSource). AreKnown c.args.files.now c.args.shapes.now (plan_sources_view s)) (sym c.as_slice.ensures) c.requires.known;
    }

pub returns-in-SourceBreak : goal.returns-in-SourceBreak
returns-in-SourceBreak c =
    let files = c.args.files.now in
    let settings = c.args.cfg.now in
    let p = plan_perm_view c.args.perm.now in
    IfOk-weaker c.first_texts.result _ (AreTextsOf settings files p)
    (λ texts are. tells_firsts c.one_merge.ensures.found settings files p c.in-SourceBreak.field-0 texts (subst (IsOutcome settings files p) c.in-SourceBreak.is c.requires.outcome)
    (subst (λ (s : List PlanSource). AreFirstTexts files (plan_sources_view s) texts) c.as_slice.ensures are)) c.first_texts.ensures
