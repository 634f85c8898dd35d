use Rattle.std.proofs.Common.{rules}
use Rattle.token_tree.proofs.NameLists.{sorts, keeps_ties, in_order, same_map}
use Rattle.token_tree.proofs.entries.sort_members.Goals as goal

pub returns-clause-sorted : goal.returns-clause-sorted
returns-clause-sorted c =
    in_order c.args.list.now.items c.sort_by.new.self.items c.requires
    (sorts c.sort_by.new.self.items c.in_ok-sort_by.ensures.sorted (λ a r q k. search rules))
    (keeps_ties c.args.list.now.items c.sort_by.new.self.items c.in_ok-sort_by.ensures.stable (λ a r q k. search rules))

pub returns-clause-same : goal.returns-clause-same
returns-clause-same c =
    same_map c.args.list.now.items c.sort_by.new.self.items (returns-clause-sorted c)
    (keeps_ties c.args.list.now.items c.sort_by.new.self.items c.in_ok-sort_by.ensures.stable (λ a r q k. search rules))
