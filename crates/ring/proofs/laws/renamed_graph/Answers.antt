use Rattle.ring.proofs.Renamings.{ring_named, no_ring_named, order_named}
use Rattle.ring.proofs.laws.renamed_graph.Goals as goal

pub returns : goal.returns
returns g c = record {
  ring = λ name needs root needs' ring r h. ring_named name needs root needs' r ring h;
  no_ring = λ name needs root needs' r h. no_ring_named name needs root needs' r h;
  order = λ name needs root needs' order r h. order_named name needs root needs' r order h;
}
