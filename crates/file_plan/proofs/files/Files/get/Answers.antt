use Rattle.std.proofs.Common.{ap, ◌∙◌, option_map}
use Rattle.std.specs.FinMap as map
use Rattle.file_plan.proofs.FileMaps.{bytes_at, file_get}
use Rattle.file_plan.proofs.files.Files.get.Goals as goal

pub returns : goal.returns
returns c =
    ap (option_map bytes_at) (c.copied.ensures ∙ c.get.ensures.value)
    ∙ (file_get c.self.inside.texts.entries c.args.path.now ∙ ap (λ m. map.get m c.args.path.now) c.self.view_is)
