-- The blocks so far are written.
use Rattle.std.proofs.Common.{◌≡◌, ◌++◌, take}
use Rattle.std.specs.List.{flat_map}
use Rattle.theme_css.specs.Sheet.{later_text}
use Rattle.theme_css.specs.inner.Views.{blocks_view, names_view}
use Rattle.theme_css.proofs.writing.add_later_blocks.Given as goal

abbrev pub invariant-loop-block : goal.invariant-loop-block
invariant-loop-block l = l.out ≡ l.fn.out ++ flat_map later_text (blocks_view (names_view l.names.items) (take l.block-index l.blocks))
