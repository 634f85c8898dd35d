-- `IsScriptOf` puts a version's first line and whole spellings of events together. `read_script`
-- answers the events of a text that is one; `BadScript(n)` comes exactly where there is none, and n
-- ends the longest prefix that is a script (`IsScriptEnd`; for bytes that are no text,
-- `IsScriptStop`). What stands at a path after n events is asked of the n-th, and by it of those
-- before (`text_at`); each event fits what stands before it, or `IsUnfit` tells the first that does
-- not, and laws say how one more event changes the files. `IsDelta` says of each path how it
-- changed; `delta` gives exactly that, in path order, each change with its record's first line, and
-- `deltas_apply` says that the first k deltas make the k-th outputs.
--
-- What is promised, with the calls and clauses that carry it:
-- * a script of either version is read as its events, and is refused exactly where it has no
--   reading, at the end of the longest prefix that is a script; a script has one reading
--   (`read_script`: `ok`, `none`, `stop`; `one_reading`, `one_stop`, `spellings_apart`)
-- * an event does to the files what the definition says, or is told not to fit exactly where it
--   does not (`effect`; `one_more_event`, `fitting_events`, `made_lengths`)
-- * the changes from some outputs to others are exactly the delta, in byte order of paths; applying
--   the deltas of the first k commits gives the k-th outputs (`delta`; `one_delta`,
--   `delta_applies`, `deltas_apply`)
-- * a line and a change's record are appended whole, or less than the whole of them and the sink's
--   faults rose (`write_line`, `write_change`)

pub mod Script
pub mod Files
pub mod Effect
pub mod Delta
pub mod Stream
pub mod View
pub mod Stats
pub mod Codes
pub mod inner
