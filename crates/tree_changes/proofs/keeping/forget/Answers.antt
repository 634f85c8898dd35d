use Rattle.std.proofs.Common.{◌<◌, ℕ, List, None, All, length, get_or, set, refl, sym, subst, ◌∙◌}
use Rattle.std.proofs.lemmas.List.{take_all}
use Rattle.std.proofs.lemmas.List.Elements.{All-get_or}
use Rattle.tree_changes.specs.inner.Forgetting.{AreForgotten}
use Rattle.tree_changes.proofs.Forgotten.{none_forgotten, one_forgotten}
use Rattle.tree_changes.proofs.keeping.forget.Goals as goal

pub loop-node-init : goal.loop-node-init
loop-node-init c = none_forgotten c.args.places.now.items

pub loop-node-preserved : goal.loop-node-preserved
loop-node-preserved c =
    let nodes = c.as_slice-nodes.result.now in
    let k = c.loop-node.node-index in
    let node = get_or nodes k 0 in
    let places = c.args.places.now.items in
    let within : node < length places =
    All-get_or (λ i. i < length places) nodes k 0 c.loop-node-test.true (subst (λ (ns : List ℕ). All (λ i. i < length places) ns) (sym c.as_slice-nodes.ensures) c.requires) in
    one_forgotten nodes k node places c.loop-node.places.items (set c.loop-node.places.items node None) within refl c.loop-node-test.true refl c.loop-node.invariant

pub returns : goal.returns
returns c =
    subst (λ (ns : List ℕ). AreForgotten ns c.args.places.now.items c.loop-node.places.items)
    (take_all c.loop-node.node-index c.as_slice-nodes.result.now c.loop-node-test.false ∙ c.as_slice-nodes.ensures) c.loop-node.invariant
