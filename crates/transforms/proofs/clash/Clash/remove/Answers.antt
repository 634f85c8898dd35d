use Rattle.std.proofs.Common.{ap, ◌∙◌}
use Rattle.std.specs.Cmp.Lexicographic.{nat_list_cmp_total}
use Rattle.std.specs.FinMap as map
use Rattle.tk_io.proofs.MapViews.{at_remove}
use Rattle.transforms.proofs.NameMaps.{name_remove}
use Rattle.transforms.proofs.clash.Clash.remove.Goals as goal

pub returns : goal.returns
returns c q =
    let gone =
    name_remove c.self.inside.paths.entries c.remove.new.self.entries c.args.name.now c.remove.ensures.entries c.remove.ensures.updates.1
    ∙ ap (λ m. map.remove m c.args.name.now) c.self.view_is in
    ap (λ m. map.get m q) gone ∙ at_remove nat_list_cmp_total c.args.self.now c.args.name.now q
