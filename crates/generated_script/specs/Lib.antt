-- `script_of` is the header and the spellings of `events_of`: seven events, and then a put of
-- `core.json` and a commit for each of twenty edits. `core_text` is the file after so many edits,
-- token by token; `literal` is that of the last edit of the token, or else its first. `gen_script`
-- answers exactly these bytes, and `generated_events` says that they are a script with these
-- events, with 21 commits.
--
-- What is promised, with the calls and clauses that carry it:
-- * the script of two numbers is exactly the text that they stand for, and is a script of 21
--   commits (`gen_script`; `generated_events`)

pub mod Tokens
pub mod Script
