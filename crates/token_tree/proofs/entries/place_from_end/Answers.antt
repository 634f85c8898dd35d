use Rattle.std.proofs.Common.{rules, sym, ◌∙◌}
use Rattle.token_tree.proofs.NameLists.{behind_last}
use Rattle.token_tree.proofs.entries.place_from_end.Goals as goal

pub returns-in-Less-clause-absent : goal.returns-in-Less-clause-absent
returns-in-Less-clause-absent c = behind_last c.args.list.now c.args.name.now c.in-Some.last.now c.requires (search rules) (search rules) (sym c.cmp.ensures ∙ c.in-Less.is)
