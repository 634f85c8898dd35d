-- The places so far are marked, and are apart.
use Rattle.theme_css.proofs.Apart.{AreSeen}
use Rattle.theme_css.proofs.table.are_apart.Given as goal

abbrev pub invariant-loop-each : goal.invariant-loop-each
invariant-loop-each l = AreSeen l.count l.declared l.seen.items l.each-index
