use Rattle.std.proofs.Common.{sym, ap, ◌∙◌}
use Rattle.std.specs.FinMap as finite
use Rattle.tk_io.specs.Order.{text_cmp}
use Rattle.file_plan.proofs.FilesInUse.{some_none}
use Rattle.source_trees.proofs.shapes.shapes_of.Goals as goal

pub shapes_since-requires : goal.shapes_since-requires
shapes_since-requires c = record {
  trees = c.requires;
  past = λ path shape is.
      absurd (some_none (sym is ∙ (ap (λ shapes. finite.get shapes path) c.new-known.ensures ∙ finite.get-empty text_cmp path)));
}
