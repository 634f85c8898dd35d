use Rattle.std.proofs.Common.{ap, ◌∙◌}
use Rattle.std.specs.Cmp.Lexicographic.{nat_list_cmp_total}
use Rattle.std.specs.FinMap as map
use Rattle.tk_io.proofs.MapViews.{at_remove}
use Rattle.file_plan.proofs.FileMaps.{file_del}
use Rattle.file_plan.proofs.files.Files.del.Goals as goal

pub returns-clause-gone : goal.returns-clause-gone
returns-clause-gone c =
    file_del c.self.inside.texts.entries c.remove.new.self.entries c.args.path.now c.remove.ensures.entries c.remove.ensures.updates.1
    ∙ ap (λ m. map.remove m c.args.path.now) c.self.view_is

pub returns-clause-at : goal.returns-clause-at
returns-clause-at c q = ap (λ m. map.get m q) (returns-clause-gone c) ∙ at_remove nat_list_cmp_total c.args.self.now c.args.path.now q
