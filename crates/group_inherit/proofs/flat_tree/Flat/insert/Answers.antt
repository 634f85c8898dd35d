use Rattle.std.specs.Cmp.Lexicographic.{lists_total, nat_list_cmp_total}
use Rattle.token_tree.proofs.NameLists.{where_ok}
use Rattle.group_inherit.proofs.Halves.{either_sorted, put_listed}
use Rattle.group_inherit.proofs.flat_tree.Flat.insert.Goals as goal

pub invariant_of-self : goal.invariant_of-self
invariant_of-self c = either_sorted (lists_total nat_list_cmp_total) c.put_token.result c.args.path c.args.entry c.self.inside.tokens.items c.put_token.new.tokens.items c.self.invariant c.put_token.ensures.ok c.put_token.ensures.err

pub returns-clause-ok : goal.returns-clause-ok
returns-clause-ok c =
    where_ok c.put_token.result (put_listed (lists_total nat_list_cmp_total) c.args.path c.args.entry c.self.inside.tokens.items c.put_token.new.tokens.items c.args.self.now c.self.invariant c.self.view_is) c.put_token.ensures.ok
