-- `StoredAll` says that the source was read to its end with a script, and that under `out/` of the
-- store stand exactly the outputs that a build from nothing of the files after all of its events
-- gives, where the store was kept (`Kept` of out_store). `HadBadSlot` is a store that has a gate
-- without a manifest. `error_text` and `status_number` are what a status says and the number that
-- the program ends with. `BuildsAfter` is as token_cli's `BuildsAt`, of the files after all events.
--
-- What is promised, with the calls and clauses that carry it:
-- * two statuses say that the outputs stand, one where a `REFUSED` is among them and one where none
--   is; where the script has a reading and no count of faults rose, one of the two comes, or memory
--   ran out, or the store had a bad slot (`run_store`: `done`, `refused`, `complete`)
-- * what is kept of the store stays so, whatever the status is (`run_store`: `kept`)
-- * the usage is told exactly of arguments that are not one word, and nothing is read or stored for
--   them (`run_store`: `usage`, `words`)
-- * a script that has no reading, that can't be read or that is too long is told as that, and
--   nothing is stored (`run_store`: `bad_script`, `unread`, `read_fault`, `too_long`, `endless`,
--   `taken`)
-- * a fault of the store is told only where its count rose, and a bad slot only where there was one,
--   which is never so of a store that is kept; where there was one, the outputs are not said to
--   stand (`run_store`: `store_fault`, `bad_manifest`, `blocked`)
-- * the error sink takes the text of the status, or a part of it where it fails, and changes nothing
--   else (`run_store`: `error`, `bad_script`)
-- * the outputs of files whose resolver document is UTF-8 stand at paths that a store can hold
--   (`outputs_fit`)
--
-- `program` ends with the number of a status. That it is the one of `run_store` over the folder of
-- the first word is no clause, since no clause says what a process is given: runs of the program
-- over real folders (`tools/tests`) hold it.

pub mod Fitting
pub mod Report
pub mod Stored
pub mod inner
