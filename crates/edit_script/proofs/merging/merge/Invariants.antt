-- The changes so far, with which those of what is left are all.
use Rattle.std.proofs.Common.{◌≡◌, ◌+◌, ◌-◌, ◌≤◌, List, length, map}
use Rattle.edit_script.specs.Delta.{ChangeData}
use Rattle.edit_script.specs.inner.Merge.{outputs_view}
use Rattle.edit_script.specs.View.{with_line}
use Rattle.edit_script.proofs.Rising.{Leads}
use Rattle.edit_script.proofs.merging.merge.Given as goal

abbrev pub invariant-loop-found : goal.invariant-loop-found
invariant-loop-found l = (l.i ≤ length (outputs_view l.old)) × (l.j ≤ length (outputs_view l.new)) × ((ds : List ChangeData) × (l.changes ≡ map with_line ds) × Leads (outputs_view l.old) (outputs_view l.new) ds l.i l.j)

abbrev pub decreases-loop-found : goal.decreases-loop-found
decreases-loop-found l = (length (outputs_view l.old) - l.i) + (length (outputs_view l.new) - l.j)
