-- `Plans` says what the files' resolver document plans, as `permutations` of what it says, or which
-- rule it breaks first; `plan_of` answers just that, from the document's tree. `files_in_use` is
-- the finite map of the files that are read.
--
-- What is promised, with the calls and clauses that carry it:
-- * events are taken into files one by one, exactly while they fit, and the files after all events
--   of a script are loaded where each fits; else the first that does not is told (`Files::take`,
--   `Files::load`)
-- * files have one plan: the permutations of their resolver document, or one over `tokens.json`; or
--   its refusal, exactly the first: of JSON, of the document's rules, more than 64 permutations,
--   more than 1,024 sources of one; tokens in the document are parts of its value, and no two
--   permutations have one name (`plan_of`: `plan`, `refused`; `file_plan_laws`)
-- * a refusal tells a rule that is broken, in the words of the rules alone, and none before it; and a
--   document has permutations exactly where no rule is broken and it is within the limits
--   (`refusal_laws`)
-- * any files have a plan; a copy of files has the same files (`each_plan`; `Files::copy`)
-- * a file is in use exactly where it is there and is the resolver document or named by a source;
--   files are a finite map from path to text, and a tree is what reading its text answers
--   (`in_use_laws`; `Files`, `read_tree`)

pub mod Trees
pub mod Plan
pub mod View
pub mod InUse
pub mod Laws
pub mod Loading
