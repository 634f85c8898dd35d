-- An engine holds files under edits and the outputs of its last commit, and keeps what was made of the files that these
-- are of (`Engine`). `IsWorkFrom` says how much is done to come from what is kept, none or files, to the outputs of
-- files: how many files are read, how many trees are made flat and how many tokens are evaluated.
-- It compares two builds, and knows no graph and nothing that is kept beside files (`Work`). What
-- is reached between two flat trees is said by tree_changes (`IsReached`).
--
-- What is promised, with the calls and clauses that carry it:
-- * a commit that ends well holds the outputs that a build of the files gives, keeps these, and
--   answers the outputs that were held before; each counter rose by exactly the work of coming
--   from what was kept to the files (`commit`: `held`, `kept`, `before`, `counts`, `counted`)
-- * one that runs out of memory leaves the files and what is held, and keeps nothing; no counter
--   rose by more than that work (`commit`: `err`, `at_most`)
-- * edits change the files alone, and one that runs out of memory changes nothing (`put`: `ok`, `err`)
-- * the work of a commit is a function of what is kept and of the files: what is kept, none or
--   files, and files have just one number of files that are read, of trees that are made flat and
--   of tokens that are evaluated. Where none is kept these are what a build from nothing counts,
--   and where the same files are kept they are 0 (`work_laws`: `none`, `same`, `one`, `each`)
-- * of two commits one behind the other the second has nothing to do where the first ended well, and
--   does all where the first was refused; the files are those with the new one whatever both answer
--   (`two_commits`: `put`, `uncounted`, `files`, `first`, `second`, `kept`, `nothing`, `anew`,
--   `refused`, `held`, `unheld`)

pub mod Sums
pub mod Work
pub mod Laws
pub mod Engine
pub mod inner
