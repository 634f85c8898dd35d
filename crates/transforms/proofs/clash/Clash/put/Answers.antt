use Rattle.std.proofs.Common.{◌++◌, ap, ap₂, ◌∙◌}
use Rattle.std.specs.Cmp.Lexicographic.{nat_list_cmp_total}
use Rattle.std.specs.FinMap as map
use Rattle.tk_io.proofs.MapViews.{at_insert}
use Rattle.transforms.proofs.NameMaps.{by_name, name_put}
use Rattle.transforms.proofs.clash.Clash.put.Goals as goal

pub returns-clause-ok : goal.returns-clause-ok
returns-clause-ok c =
    let key = c.in_ok-extend_from_slice.ensures.items ∙ ap (λ items. items ++ c.args.name.now) c.new-key.ensures.items in
    name_put c.self.inside.paths.entries c.insert.new.self.entries c.extend_from_slice.new.self c.in_ok-path.path c.in_ok-insert.ensures.entries
    ∙ (ap₂ (λ name path. map.insert (by_name c.self.inside.paths.entries) name path) key c.in_ok-path.ensures
    ∙ ap (λ m. map.insert m c.args.name.now c.args.path.now) c.self.view_is)

pub returns-clause-at : goal.returns-clause-at
returns-clause-at c q = ap (λ m. map.get m q) (returns-clause-ok c) ∙ at_insert nat_list_cmp_total c.args.self.now c.args.name.now c.args.path.now q
