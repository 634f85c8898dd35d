-- What was read, before any further lines.
use Rattle.std.proofs.Common.{◌++◌, List, length}
use Rattle.theme_css.specs.Cascade.{Declaration}
use Rattle.theme_css.specs.Sheet.{Lines}
use Rattle.theme_css.specs.inner.Pages.{lines_view}
use Rattle.theme_css.proofs.own.own_lines.Given as goal

abbrev pub invariant-loop-rest : goal.invariant-loop-rest
invariant-loop-rest l = (ds : List Declaration) → Lines l.rest ds → Lines l.initial.rest (lines_view l.lines.items ++ ds)

abbrev pub decreases-loop-rest : goal.decreases-loop-rest
decreases-loop-rest l = length l.rest
