use Rattle.std.proofs.Common.{List, [], sym, subst}
use Rattle.std.specs.FinMap as finite
use Rattle.std.specs.List.{AllZip}
use Rattle.tree_changes.specs.Named.{NamesAs}
use Rattle.tree_changes.specs.declared.named.Named.{Named}
use Rattle.tree_changes.proofs.Linking.{none_linked}
use Rattle.tree_changes.proofs.links.Links.new.Goals as goal

pub returns : goal.returns
returns c old new many = record {
  linked = none_linked old new c.args.nodes _ _ many c.in_ok-graph.ensures c.new-2.ensures.items;
  named = subst (λ (ns : List Named). AllZip (NamesAs (finite.entries new)) [] ns) (sym c.new-3.ensures.items) tt;
}
