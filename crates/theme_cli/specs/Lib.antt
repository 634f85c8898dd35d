-- `WroteAll` says that the source was read to its end with a script whose events fit, and that the
-- sink got the sheet (`IsThemeSheet` of theme_css) of the files after all of them. `CutShort` is a
-- part of that sheet. `TellsRefusal` and `TellsName` say that those files have none, with the first
-- path of a refusal (`HasRefusal` of theme_css), or the first name of a modifier or a context that
-- no selector can hold (`HasBadName`).
-- `IsStatusOf` is the status that files have where nothing fails. `error_text` and `status_number`
-- are what a status says and the number that the program ends with.
--
-- What is promised, with the calls and clauses that carry it:
-- * one status says that the sheet was written whole, on which `IsThemeSheet` says that on a page of
--   a permutation's attributes each name has the value that the permutation's own sheet declares,
--   and no other name has one (`run_themes`: `done`)
-- * two statuses say that the files have no sheet, with the path or the name, and nothing is written
--   then (`run_themes`: `refused`, `name`)
-- * where the script has a reading, each event fits and no count of faults rose, the status is that
--   of the files, of which there is one, or memory ran out (`run_themes`: `complete`;
--   `one_theme_status`)
-- * the usage is told exactly where there are arguments, and nothing is read or written for them
--   (`run_themes`: `usage`, `words`)
-- * a script that has no reading, that can't be read or that is too long is told as that, and so is
--   an event that does not fit, by its number; nothing is written then, nor where memory runs out
--   (`run_themes`: `bad_script`, `unread`, `bad_event`, `unfit`, `read_fault`, `too_long`,
--   `endless`, `taken`, `no_memory`)
-- * of the sheet a part is written only where the sink failed (`run_themes`: `write_fault`)
-- * the error sink takes the text of the status, or a part of it where it fails, and changes nothing
--   else (`run_themes`: `error`, `refused`, `name`, `bad_script`, `bad_event`)
--
-- `program` ends with the number of a status. That it is the one of `run_themes` over the standard
-- streams is no clause, since no clause says what a process is given: runs of the program
-- (`tools/tests`) hold it.

pub mod Report
pub mod Themed
pub mod inner
