use Rattle.std.proofs.Common.{◌≡◌, ◌+◌, ◌≤◌, drop, map}
use Rattle.edit_script.specs.Stats.{without_lines, gone_count}
use Rattle.edit_script.specs.View.{change_view}
use Rattle.edit_script.proofs.counts.gone_count.Given as goal

abbrev pub invariant-loop-change : goal.invariant-loop-change
invariant-loop-change l =
    (l.count + gone_count (without_lines (drop l.change-index (map change_view l.change-items))) ≡ gone_count (without_lines (map change_view l.change-items))) × (l.count ≤ l.change-index)
