-- What is left has segments alone where the whole has.
use Rattle.std.proofs.Common.{◌≡◌, length}
use Rattle.std.specs.List.{list_all}
use denote.Text.{Utf8}
use denote.Shadow.{shadow}
use Rattle.edit_script.specs.Script.{is_segment}
use Rattle.edit_script.proofs.Segments.{segments}
use Rattle.edit_script.proofs.path.has_segments.Given as goal

abbrev pub invariant-loop-segment : goal.invariant-loop-segment
invariant-loop-segment l = shadow (Utf8 l.rest) × (list_all is_segment (segments l.rest) ≡ list_all is_segment (segments l.initial.rest))

abbrev pub decreases-loop-segment : goal.decreases-loop-segment
decreases-loop-segment l = length l.rest
