use Rattle.json_span.specs.View.{node_view}
use Rattle.json_span.specs.Parts.{itself}
use Rattle.cli_tests.proofs.call_tests.group_of.Goals as goal

pub shape-requires : goal.shape-requires
shape-requires g c = record {
  root = node_view c.in-Ok.root;
  shown = c.in-Ok.ensures.found.0;
  flawless = c.in-Ok.ensures.found.1;
  part = itself;
}
