-- What events, outcomes and changes are seen as: plain data.
use Rattle.std.specs.Prelude.{ℕ, List, Some, None}
use Rattle.edit_script.specs.declared.event.Event.{Event}
use Rattle.edit_script.specs.declared.event.Event.TheVariants.{Put, Del, Move, Patch, Commit}
use Rattle.edit_script.specs.declared.outcome.Outcome.{Outcome}
use Rattle.edit_script.specs.declared.outcome.Outcome.TheVariants as outcome
use Rattle.edit_script.specs.declared.change.Change.{Change}
use Rattle.edit_script.specs.declared.change.Change.TheVariants.{Gone, Written}
use Rattle.edit_script.specs.Script.{EventData, put, del, move, patch, commit}
use Rattle.edit_script.specs.Effect.{OutcomeData, given, gone, moved, committed, unfit}
use Rattle.edit_script.specs.Delta.{ChangeData}
use Rattle.edit_script.specs.Stream.{record_line}

-- an event, with the bytes of its paths and its text
abbrev pub event_view : Event → EventData
event_view (Put path text) = put path.now text.now
event_view (Del path) = del path.now
event_view (Move first second) = move first.now second.now
event_view (Patch path start end bytes) = patch path.now start end bytes.now
event_view Commit = commit

abbrev pub outcome_view : Outcome → OutcomeData
outcome_view (outcome.Put path text) = given path.now text.now
outcome_view (outcome.Del path) = gone path.now
outcome_view (outcome.Move first second text) = moved first.now second.now text.now
outcome_view outcome.Commit = committed
outcome_view outcome.Unfit = unfit

-- a change and the line that it carries
abbrev pub Lined : Type 0
Lined = ChangeData × List ℕ

-- a change as plain data, with its line
abbrev pub change_view : Change → Lined
change_view (Gone path line) = ((path.now, None), line)
change_view (Written path bytes line) = ((path.now, Some bytes.now), line)

-- a change with its record's first line
abbrev pub with_line : ChangeData → Lined
with_line c = (c, record_line c)
