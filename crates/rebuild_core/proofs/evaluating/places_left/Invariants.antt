-- So many of the places so far are none.
use Rattle.std.proofs.Common.{◌≡◌, ◌≤◌, take}
use Rattle.std.specs.List.{count_by}
use Rattle.std.specs.Option.{is_none}
use Rattle.rebuild_core.proofs.evaluating.places_left.Given as goal

abbrev pub invariant-loop-place : goal.invariant-loop-place
invariant-loop-place l = (l.left ≡ count_by is_none (take l.place-index l.places)) × (l.left ≤ l.place-index)
