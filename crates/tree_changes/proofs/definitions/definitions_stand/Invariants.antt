-- The tokens so far are what their sources show.
use Rattle.std.specs.List.{AllWithin}
use Rattle.token_tree.specs.Promise.{IsDefinition}
use Rattle.group_inherit.specs.Flattening.{TokenAt}
use Rattle.tree_changes.proofs.definitions.definitions_stand.Given as goal

abbrev pub invariant-loop-token : goal.invariant-loop-token
invariant-loop-token l = AllWithin (λ (t : TokenAt). IsDefinition t.1.def) l.token-items 0 l.token-index
