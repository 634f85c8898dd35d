use Rattle.std.proofs.Common.{◌≡◌, ◌-◌, ◌++◌}
use Rattle.std.specs.List.{flat_map, range_with_len}
use Rattle.edit_script.specs.Script.{event_text}
use Rattle.generated_script.specs.Script.{edit_events}
use Rattle.generated_script.proofs.events.add_edits.Given as goal

abbrev pub invariant-loop-edit : goal.invariant-loop-edit
invariant-loop-edit l =
    l.out ≡ l.initial.out ++ flat_map event_text (flat_map (edit_events l.seed l.size) (range_with_len 1 (l.edit - 1)))
