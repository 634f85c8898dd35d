use Rattle.token_tree.proofs.Children.{children_by_name}
use Rattle.token_tree.proofs.Order.{breaks_ascend}
use Rattle.token_tree.proofs.OneAnswer.{one_definition}
use Rattle.token_tree.proofs.ShapesOfSlices.{one_shape}
use Rattle.token_tree.proofs.laws.shape_laws.Goals as goal

pub returns : goal.returns
returns c = record {
  ascend = breaks_ascend;
  one = one_definition;
  shape = one_shape c.json_laws.ensures.slices c.json_laws.ensures.one;
  named = children_by_name;
}
