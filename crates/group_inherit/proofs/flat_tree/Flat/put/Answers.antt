use Rattle.std.proofs.Common.{ap, ◌∙◌}
use Rattle.std.specs.FinMap as map
use Rattle.std.specs.Cmp.Lexicographic.{lists_total, nat_list_cmp_total}
use Rattle.token_tree.proofs.NameLists.{where_ok}
use Rattle.tk_io.proofs.MapViews.{at_insert}
use Rattle.group_inherit.proofs.flat_tree.Flat.put.Goals as goal

pub returns-clause-ok : goal.returns-clause-ok
returns-clause-ok c = where_ok c.insert.result (λ e. e ∙ ap (λ p. map.insert c.args.self.now p c.args.entry) c.in_ok-path.ensures) c.insert.ensures.ok

pub returns-clause-at : goal.returns-clause-at
returns-clause-at c = where_ok c.insert.result (λ e q. ap (λ m. map.get m q) e ∙ at_insert (lists_total nat_list_cmp_total) c.args.self.now c.args.path.now c.args.entry q) (returns-clause-ok c)
