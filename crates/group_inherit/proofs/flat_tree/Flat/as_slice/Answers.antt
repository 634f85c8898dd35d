use Rattle.std.proofs.Common.{T, sym, subst, ◌∙◌}
use Rattle.std.specs.FinMap.Entries.{is_sorted}
use Rattle.std.specs.Cmp.Lexicographic.{lists_total, nat_list_cmp_total}
use Rattle.tk_io.specs.Order.{names_cmp}
use Rattle.group_inherit.proofs.Halves.{listed}
use Rattle.group_inherit.proofs.flat_tree.Flat.as_slice.Goals as goal

pub returns-clause-entries : goal.returns-clause-entries
returns-clause-entries c = c.as_slice.ensures.value ∙ listed (lists_total nat_list_cmp_total) c.self.inside.tokens.items c.args.self.now c.self.invariant c.self.view_is

pub returns-clause-ascending : goal.returns-clause-ascending
returns-clause-ascending c = subst (λ l. T (is_sorted names_cmp l)) (sym c.as_slice.ensures.value) c.self.invariant
