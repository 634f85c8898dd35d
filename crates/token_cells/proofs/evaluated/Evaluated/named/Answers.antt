use Rattle.std.proofs.Common.{List, ap, sym, subst}
use Rattle.std.specs.FinMap as map
use Rattle.alias_ref.specs.Laws.{Flat}
use Rattle.tree_changes.specs.Named.{AllNameAs}
use Rattle.tree_changes.specs.declared.named.Named.{Named}
use Rattle.token_cells.proofs.evaluated.Evaluated.named.Goals as goal

pub returns : goal.returns
returns c =
    let of_tree = subst (λ (f : Flat). AllNameAs (map.entries f) c.self.inside.named.items) (ap (λ t. t.tokens) c.self.view_is) c.self.invariant in
    subst (λ (ns : List Named). AllNameAs (map.entries c.args.self.now.tokens) ns) (sym c.as_slice.ensures.value) of_tree
