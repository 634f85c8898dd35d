use Rattle.std.proofs.Common.{◌∙◌}
use Rattle.file_plan.proofs.FileMaps.{file_copy}
use Rattle.file_plan.proofs.files.Files.copy.Goals as goal

pub returns : goal.returns
returns c = file_copy c.self.inside.texts.entries c.in_ok-texts.texts.entries c.in_ok-texts.ensures.cases ∙ c.self.view_is
