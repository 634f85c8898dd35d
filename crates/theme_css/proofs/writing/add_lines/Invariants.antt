-- The lines so far are written.
use Rattle.std.proofs.Common.{◌≡◌, ◌++◌, take}
use Rattle.std.specs.List.{flat_map}
use Rattle.theme_css.specs.Sheet.{line_text}
use Rattle.theme_css.specs.inner.Views.{declarations_at, names_view}
use Rattle.theme_css.proofs.writing.add_lines.Given as goal

abbrev pub invariant-loop-each : goal.invariant-loop-each
invariant-loop-each l = l.out ≡ l.fn.out ++ flat_map line_text (declarations_at (names_view l.names.items) (take l.each-index l.declared))
