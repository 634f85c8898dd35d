-- `WroteAll` says that the source was read to its end with a script whose events fit, and that the
-- sink got the text of exactly what is told (`AllTold` of all_breaks) of the files after all of
-- them; with `false` that is nothing. `CutShort` is a part of that text. `error_text` and
-- `status_number` are what a status says and the number that the program ends with.
--
-- What is promised, with the calls and clauses that carry it:
-- * two statuses say that all breaks were written, one where there are some and one where there is
--   none, and so nothing was written; where the script has a reading, each event fits and no count
--   of faults rose, one of the two comes, or memory ran out (`run_check`: `done`, `broken`,
--   `complete`)
-- * the usage is told exactly where there are arguments, and nothing is read or written for them
--   (`run_check`: `usage`, `words`)
-- * a script that has no reading, that can't be read or that is too long is told as that, and so is
--   an event that does not fit, by its number; nothing is written then, nor where memory runs out
--   (`run_check`: `bad_script`, `unread`, `bad_event`, `unfit`, `read_fault`, `too_long`,
--   `endless`, `taken`, `no_memory`)
-- * of the breaks a part is written only where the sink failed (`run_check`: `write_fault`)
-- * the error sink takes the text of the status, or a part of it where it fails, and changes nothing
--   else (`run_check`: `error`, `bad_script`, `bad_event`)
--
-- `program` ends with the number of a status. That it is the one of `run_check` over the standard
-- streams is no clause, since no clause says what a process is given: runs of the program
-- (`tools/tests`) hold it.

pub mod Report
pub mod Checked
pub mod inner
