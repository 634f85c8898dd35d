-- `Asks` says what arguments ask: `show` how a place gets its value in a permutation, `check`
-- whether a certificate holds that stands in a file. `IsAnswer` says how files answer that: what is
-- written, or the first reason for which nothing is, in the order in which they are tried. A
-- permutation is accepted where none of its breaks (`Finds` of build_plain) is there, and refused
-- where one is. `WroteAll`, `CutShort` and `Refuses` say it of the files after the last event of a
-- script that a source had left. `error_text` and `status_number` are what a status says and the
-- number that the program ends with.
--
-- What is promised, with the calls and clauses that carry it:
-- * with `show` the text that was written is that of a certificate of the place, which is read of it
--   again; it holds of the permutation's tree, and its hops are those that explain the place; with
--   `check` `valid` was written, and the file spells a certificate that holds, whoever made it. Where
--   one holds each hop leads to its target, the place that is explained settles at the end, and the
--   end is no reference, as `IsShown` and `Explains` say (`run_explain`: `done`)
-- * each reason for which nothing is written is told exactly where it is the first, and nothing is
--   written then (`run_explain`: `no_file`, `bad_certificate`, `refused`, `no_permutation`,
--   `no_place`; `one_answer`); where the script has a reading, each event fits and no count of faults
--   rose, the question is answered or memory ran out (`run_explain`: `complete`)
-- * the usage is told exactly where the arguments ask nothing, or memory runs out; nothing is read or
--   written for them; what they ask is one thing (`run_explain`: `usage`, `words`; `read_question`;
--   `one_question`)
-- * a script that has no reading, that can't be read or that is too long is told as that, and so is
--   an event that does not fit, by its number; nothing is written then, nor where memory runs out
--   (`run_explain`: `bad_script`, `unread`, `bad_event`, `unfit`, `read_fault`, `too_long`,
--   `endless`, `taken`, `no_memory`)
-- * of the answer a part is written only where the sink failed (`run_explain`: `write_fault`)
-- * the error sink takes the text of the status, or a part of it where it fails, and changes nothing
--   else (`run_explain`: `error`, `bad_script`, `bad_event`)
--
-- `program` ends with the number of a status. That it is the one of `run_explain` over the standard
-- streams is no clause, since no clause says what a process is given: runs of the program
-- (`tools/tests`) hold it.

pub mod Report
pub mod Asked
pub mod Answered
pub mod Explained
pub mod inner
