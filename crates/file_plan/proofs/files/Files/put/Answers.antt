use Rattle.std.proofs.Common.{ap, ◌∙◌}
use Rattle.std.specs.Cmp.Lexicographic.{nat_list_cmp_total}
use Rattle.std.specs.FinMap as map
use Rattle.tk_io.proofs.MapViews.{at_insert}
use Rattle.file_plan.proofs.FileMaps.{file_put}
use Rattle.file_plan.proofs.files.Files.put.Goals as goal

pub returns-clause-ok : goal.returns-clause-ok
returns-clause-ok c =
    file_put c.self.inside.texts.entries c.insert.new.self.entries c.args.path c.args.text c.in_ok-insert.ensures.entries
    ∙ ap (λ m. map.insert m c.args.path.now c.args.text.now) c.self.view_is

pub returns-clause-at : goal.returns-clause-at
returns-clause-at c q = ap (λ m. map.get m q) (returns-clause-ok c) ∙ at_insert nat_list_cmp_total c.args.self.now c.args.path.now c.args.text.now q
