use Rattle.source_trees.proofs.ByContent as content
use Rattle.source_trees.proofs.laws.merged_by_content.Goals as goal

pub returns : goal.returns
returns c =
    let shape = c.shape_laws.ensures.shape in
    record {
      found = content.found_by_content shape;
      merged = content.merged_by_content shape;
      flat = content.flat_by_content shape c.one_answer.ensures.flat;
    }
