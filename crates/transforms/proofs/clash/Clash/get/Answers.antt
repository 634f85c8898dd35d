use Rattle.std.proofs.Common.{ap, ◌∙◌}
use Rattle.std.specs.FinMap as map
use Rattle.transforms.proofs.NameMaps.{name_get}
use Rattle.transforms.proofs.clash.Clash.get.Goals as goal

pub returns : goal.returns
returns c = c.get.ensures.value ∙ (name_get c.self.inside.paths.entries c.args.name.now ∙ ap (λ m. map.get m c.args.name.now) c.self.view_is)
