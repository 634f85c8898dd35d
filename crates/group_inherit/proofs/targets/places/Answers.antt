use Rattle.std.proofs.Common.{ap, sym, ◌∙◌}
use Rattle.std.proofs.lemmas.List.{get_or-map}
use Rattle.group_inherit.specs.inner.Numbering.{GroupAt, nowhere}
use Rattle.group_inherit.specs.inner.View.{group_node_view, nodes_view}
use Rattle.group_inherit.proofs.Placing.{no_places, one_place_more}
use Rattle.group_inherit.proofs.targets.places.Goals as goal

pub loop-i-init : goal.loop-i-init
loop-i-init c = no_places (nodes_view c.args.nodes.now) c.new-places.result c.new-places.ensures

pub loop-i-preserved : goal.loop-i-preserved
loop-i-preserved c =
    let x = c.index-nodes-i.result in
    one_place_more (nodes_view c.args.nodes.now) c.loop-i.i c.loop-i.places c.put.new.self x.path
    (ap (λ (n : GroupAt). n.0) (get_or-map group_node_view c.args.nodes.now c.loop-i.i x nowhere c.loop-i-test.true ∙ ap group_node_view (sym c.index-nodes-i.is)))
    c.in_ok-put.ensures.at c.loop-i.invariant
