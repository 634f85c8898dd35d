-- `IsCommand` says that the words are those that spell a command: its name, and after `gen` its two
-- numbers in decimal digits, each within its bounds. `command_of` reads the words, and
-- `words_of_commands` says that it gives exactly the commands of which the words are the spelling,
-- so words are one command at most. `read_words` answers what `command_of` gives, and `Usage`
-- exactly where it gives none, out of memory aside. What `clap` is given, and that its answer on
-- these words is the command's, is proved from the kit's own account of `clap`.
--
-- What is promised, with the calls and clauses that carry it:
-- * the words are read as the command that they spell, and refused exactly where they spell none
--   (`read_words`: `ok`, `usage`; `words_of_commands`)

pub mod Words
pub mod inner
