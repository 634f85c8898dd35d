use Rattle.std.proofs.Common.{T, sym, subst}
use Rattle.std.specs.FinMap as map
use Rattle.tk_io.specs.Order.{text_cmp}
use Rattle.token_tree.proofs.NameLists.{get_there, get_none}
use Rattle.token_tree.proofs.tree.Members.get.Goals as goal

pub place-requires : goal.place-requires
place-requires c = subst (λ es. T (map.is_sorted text_cmp es)) (sym c.as_slice-list.ensures) (map.entries_sorted c.args.self.now)

pub returns-in-Ok : goal.returns-in-Ok
returns-in-Ok c = get_there c.as_slice-list.result.now c.args.self.now c.args.name.now c.in-Ok.i c.index-list-i.result c.as_slice-list.ensures c.in-Ok.ensures.found

pub returns-in-Err : goal.returns-in-Err
returns-in-Err c = get_none c.as_slice-list.result.now c.args.self.now c.args.name.now c.in-Err.field-0 c.as_slice-list.ensures c.in-Err.ensures.absent
