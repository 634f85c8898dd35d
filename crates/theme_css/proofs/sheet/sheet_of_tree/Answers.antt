use Rattle.std.proofs.Common.{subst}
use Rattle.file_plan.specs.Trees.{IsTreeOf}
use Rattle.theme_css.proofs.sheet.sheet_of_tree.Goals as goal

pub returns-in-Read : goal.returns-in-Read
returns-in-Read c text is = c.sheet_of_document.ensures text (subst (IsTreeOf text) c.in-Read.is is)
