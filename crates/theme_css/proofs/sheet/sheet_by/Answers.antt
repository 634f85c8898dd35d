use Rattle.std.proofs.Common.{subst}
use Rattle.file_plan.specs.Trees.{IsRead}
use Rattle.theme_css.specs.Themes.{Resolves}
use Rattle.theme_css.specs.inner.Pages.{IsAnswerOf}
use Rattle.theme_css.proofs.Answering.{of_text}
use Rattle.theme_css.proofs.sheet.sheet_by.Goals as goal

pub returns-in-Some : goal.returns-in-Some
returns-in-Some c text is =
    of_text (λ t. IsAnswerOf c.args.outputs.now (Resolves t) c.sheet_of_tree.result) c.in-Some.read text (subst (IsRead text) c.in-Some.is is) c.sheet_of_tree.ensures
