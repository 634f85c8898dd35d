use Rattle.std.proofs.Common.{ap, ◌∙◌}
use Rattle.std.specs.FinMap as map
use Rattle.file_plan.proofs.FileMaps.{file_len}
use Rattle.file_plan.proofs.files.Files.len.Goals as goal

pub returns : goal.returns
returns c = c.len.ensures.len ∙ (file_len c.self.inside.texts.entries c.len.ensures.ordered ∙ ap map.len c.self.view_is)
