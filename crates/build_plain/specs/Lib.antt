-- `Finds settings files permutation cells breaks` says what is found in the files of a permutation:
-- the cells of its tokens, and its breaks as one list in the order of the rules. `SourcesFound`
-- gives the breaks of its sources and their trees; where there is none, the merged tree has a first
-- break of extension or a flat tree, and a flat tree has cells (`AreCells`) and their breaks
-- (`token_reports`). `Builds` takes the first break as the refusal, and else the four sheets of the
-- cells. `one_build` says that files have at most one outcome and `each_build` that they have one,
-- where their texts are texts of a program (`AreTexts`), so `build`'s clauses are 'exactly where'.
-- The latter goes layer by layer: a text has an answer (`json_laws`), a document its permutations
-- or a break (`each_plan`), sources come to something (`each_merge`), a tree has a flat tree or a
-- break (`each_tree_answers`, since a graph of finitely many nodes has a ring or none: ring's
-- `each_graph_answers`), and a token comes to something (`each_cell`, since one whose walk has no
-- break means something: alias_ref's `unbroken_tokens`, `meanings_fit`). `ArePartsOf` says what is
-- kept of a build: the trees of the files in use, what each permutation's sources come to, and its
-- cells; `assemble` makes the outputs of these alone.
--
-- What is promised, with the calls and clauses that carry it:
-- * the outputs of files are a function of the files alone: the one refusal of a configuration or a
--   plan that breaks a rule, or for each permutation of the plan its four files or the refusal of
--   its first break, in this order: of its sources, one after another, each its file, JSON and
--   shape; of extension; of its tokens in path order (references, then a missing type, then the
--   value); of names that two tokens have, on CSS, Android and Swift (`build`: `ok`; `one_build`)
-- * each file in use is one step of `parses`, whatever names it, each merged tree one of `merges`,
--   each token of a flat tree one of `evals`; no more are counted where memory runs out (`build`:
--   `work`, `at_most`)
-- * the parts of files (their trees, what each permutation's sources come to, its cells) are made
--   with the same counted work; put together they give the outputs that `build` gives, without a
--   step (`parts_of`: `ok`, `work`, `at_most`; `assemble`)
-- * whatever else is made of the permutations of files, one after another (`Made`), is made of what
--   each comes to, with the same counted work (`make`); what is printed of a break of the
--   configuration, of a source or of a tree (`config_text`, `source_text`, `tree_text`)
-- * files have outputs, and one alone: any map of files whose texts are texts of a program (UTF-8,
--   of at most 2^64 bytes) has outputs, and any files have an amount of work (`each_build`:
--   `outputs`, `work`; `one_build`)
-- * the outputs denote what tokens mean: of the outputs that a build gives, each permutation of the
--   plan has either four files under its name, which denote the values of the tokens of its flat
--   tree, each by the reading of its language, name for name and no other (of JSON member for
--   member), or the one file that tells the first of its breaks, and never both; at every path of
--   the outputs stands such a file (`outputs_denote`: `each`, `either`, `no_other`)
-- * each break that files are told (of their configuration, their plan, a permutation of it) has a
--   span that lies in the text of the file that is named, which is there, and line and column are
--   counted in that text; only where there is neither a resolver document nor a file of all tokens,
--   the lack of the latter is told at its beginning; and what is told of a place of a token lies in
--   that token's definition (`printed_spans`: `files`, `lines`, `tokens`)

pub mod Breaks
pub mod Out
pub mod Work
pub mod Parts
pub mod Outcomes
pub mod OneTree
pub mod Names
pub mod Denotes
pub mod Printed
pub mod Laws
pub mod inner
