-- The shapes so far are those of the files whose trees were met.
use Rattle.std.proofs.Common.{take}
use Rattle.std.specs.String.{string_bytes}
use Rattle.tk_io.specs.View.{entries_view}
use Rattle.source_trees.specs.inner.Shapes.{AreShapesOf}
use Rattle.source_trees.proofs.shapes.shapes_since.Given as goal

abbrev pub invariant-loop-path : goal.invariant-loop-path
invariant-loop-path l = AreShapesOf l.files (entries_view string_bytes (λ v. v) (take l.path-index l.path-items)) l.shapes
