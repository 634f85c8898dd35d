-- The trees of files.
use Rattle.std.specs.Prelude.{ℕ, List, Option, Some, None}
use Rattle.std.specs.FinMap as finite
use Rattle.json_span.specs.Answer.{IsAnswer, shows, flawed, stops}
use Rattle.json_span.specs.Flaw.{equal_names, too_deep}
use Rattle.json_span.specs.View.{node_view}
use Rattle.json_span.specs.declared.reader.JsonFault.TheVariants as json
use Rattle.tk_io.specs.FilesData.{FilesData}
use Rattle.tk_io.specs.Order.{text_cmp}
use Rattle.file_plan.specs.declared.tree.Tree.{Tree}
use Rattle.file_plan.specs.declared.tree.Tree.TheVariants.{Read, Flawed}

-- what reading the text answers
abbrev pub IsTreeOf : List ℕ → Tree → Type 0
IsTreeOf text (Read n) = IsAnswer text (shows (node_view n))
IsTreeOf text (Flawed (json.Syntax at)) = IsAnswer text (stops at)
IsTreeOf text (Flawed (json.Dup start end)) = IsAnswer text (flawed (equal_names start end))
IsTreeOf text (Flawed (json.Deep start end)) = IsAnswer text (flawed (too_deep start end))
IsTreeOf text (Flawed json.NoMemory) = ⊥

-- the tree is that of the text, or there is neither
abbrev pub IsRead : Option (List ℕ) → Option Tree → Type 0
IsRead None None = Unit {0}
IsRead None (Some tree) = ⊥
IsRead (Some text) None = ⊥
IsRead (Some text) (Some tree) = IsTreeOf text tree

-- the trees are those of these files
abbrev pub AreTreesIn : FilesData → finite.FinMap text_cmp Tree → Type 0
AreTreesIn files trees = (path : List ℕ) → IsRead (finite.get files path) (finite.get trees path)
